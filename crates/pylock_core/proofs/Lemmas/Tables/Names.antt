-- Lemmas on the names of a session: their numbers, and their policies and entries under these.
use Rattle.std.proofs.Common.{[], ◌≡◌, ℕ, suc, zero, ◌+◌, ◌<◌, ◌∙◌, Bool, true, false, List, ◌∷◌, ◌++◌, map, length, get_or, set, Option, Some, None, String, string_bytes, unwrap_or, cond, ap, sym, refl, arith, nat_eq, eq-eqb}
use Rattle.std.specs.Cmp.Lexicographic.{slice_cmp, nat_list_cmp_total}
use Rattle.std.specs.FinMap as map_of
use Rattle.std.specs.FinMap.{get-insert, get-remove, get-empty, same_map, slice_cmp-IsAntisymmetric, nat_cmp-IsAntisymmetric}
use Rattle.std.specs.Global.{Global}
use Rattle.std.specs.Map.{lookup}
use Rattle.std.specs.Ordering.{nat_cmp, is_eq, eq_by_cmp}
use Rattle.std.specs.Str.{bytes_eq}
use Rattle.std.specs.declared.vec.Vec.{Vec}
use Rattle.std.proofs.lemmas.List.{get_or-set_same, get_or-set_other, length-map, map-append}
use Rattle.std.proofs.lemmas.Slice.Eq.{bytes_eq-Decides}
use Rattle.std.proofs.lemmas.Map.Text.{is_eq-slice_cmp}
use Rattle.pylock_core.specs.Inner.Tables.Index.{list_at}
use Rattle.pylock_core.specs.Inner.Tables.Names.{IsNumbering, IsNames, policy_at, policies_from, policies_in, members_named, members_under, number_named}
use Rattle.pylock_core.specs.Session.State.{Policies, with_policy, policy_of}
use Rattle.pylock_core.specs.declared.session.tables.names.Names.{Names}
use Rattle.pylock_core.specs.declared.edit.Policy.{Policy}
use Rattle.pylock_core.specs.declared.edit.Policy.TheVariants.{Any, Wheel, Source}
use Rattle.std.proofs.lemmas.Bool.{ne_eqb}

-- ---- texts

-- two texts are the same or not
pub same_or_not : {P : Type 0} (one other : List ℕ) → (one ≡ other → P) → (bytes_eq one other ≡ false → (one ≡ other → ⊥) → P) → P
same_or_not {P} one other at apart =
    elim (bytes_eq one other) as (λ b. bytes_eq one other ≡ b → P) [
      | true ↦ λ is. at ((bytes_eq-Decides one other).0 is)
      | false ↦ λ is. apart is (λ same. let e = (bytes_eq-Decides one other).1 same in cc)
    ] refl

pub text_itself : (name : List ℕ) → bytes_eq name name ≡ true
text_itself name = (bytes_eq-Decides name name).1 refl

pub text_other : (one other : List ℕ) → (one ≡ other → ⊥) → bytes_eq one other ≡ false
text_other one other ne = same_or_not one other (λ same. absurd (ne same)) (λ is _. is)

-- ---- numbers

-- a numbering that gained a name
pub record Gains (old new : List ℕ → Option ℕ) (name : List ℕ) (n : ℕ) : Type 0 where
  pub at : new name ≡ Some n
  pub others : (q : List ℕ) → (name ≡ q → ⊥) → new q ≡ old q

pub gains : (old new : List ℕ → Option ℕ) (name : List ℕ) (n : ℕ) → ((q : List ℕ) → new q ≡ cond (bytes_eq name q) (Some n) (old q)) → Gains old new name n
gains old new name n updated = record {
  at = updated name ∙ ap (λ b. cond b (Some n) (old name)) (text_itself name);
  others = λ q ne. updated q ∙ ap (λ b. cond b (Some n) (old q)) (text_other name q ne);
}

pub no_number : {P : Type 0} (x : Option ℕ) (n : ℕ) → x ≡ None → x ≡ Some n → P
no_number x n none some = let e : ◌≡◌ {A = Option ℕ} None (Some n) = sym none ∙ some in cc

some_number : (m n : ℕ) (x : Option ℕ) → x ≡ Some m → x ≡ Some n → m ≡ n
some_number m n x one other = let e : ◌≡◌ {A = Option ℕ} (Some m) (Some n) = sym one ∙ other in cc

pub gains_keeps : (old new : List ℕ → Option ℕ) (name : List ℕ) (n : ℕ) → Gains old new name n → old name ≡ None
    → (q : List ℕ) (m : ℕ) → old q ≡ Some m → new q ≡ Some m
gains_keeps old new name n g none q m was =
    same_or_not name q (λ same. no_number (old q) m (ap old (sym same) ∙ none) was) (λ is ne. g.others q ne ∙ was)

pub gains_numbering : (old new : List ℕ → Option ℕ) (name : List ℕ) (n m : ℕ) → Gains old new name n → m ≡ n + 1 → IsNumbering old n → IsNumbering new m
gains_numbering old new name n m g more i = record {
  below = λ q k is. same_or_not name q
      (λ same. let k_is : k ≡ n = some_number k n (new q) is (ap new (sym same) ∙ g.at) in omega (arith, k_is, more))
      (λ _ ne. let less : k < n = i.below q k (sym (g.others q ne) ∙ is) in omega (arith, more));
  apart = λ one other k is_one is_other.
      same_or_not name one
      (λ at_one. same_or_not name other
      (λ at_other. sym at_one ∙ at_other)
      (λ _ ne. let k_is : k ≡ n = some_number k n (new one) is_one (ap new (sym at_one) ∙ g.at) in
      let less : k < n = i.below other k (sym (g.others other ne) ∙ is_other) in absurd (omega arith)))
      (λ _ ne_one. let less : k < n = i.below one k (sym (g.others one ne_one) ∙ is_one) in
      same_or_not name other
      (λ at_other. let k_is : k ≡ n = some_number k n (new other) is_other (ap new (sym at_other) ∙ g.at) in absurd (omega arith))
      (λ _ ne. i.apart one other k (sym (g.others one ne_one) ∙ is_one) (sym (g.others other ne) ∙ is_other)));
}

-- ---- what stands under the numbers

-- the first of a longer list
pub front : {X : Type 0} (xs : List X) (x d : X) (k : ℕ) → k < length xs → get_or (xs ++ x ∷ []) k d ≡ get_or xs k d
front [] x d k within = absurd (omega arith)
front (y ∷ ys) x d zero within = refl
front (y ∷ ys) x d (suc k) within = front ys x d k (omega arith)

pub last : {X : Type 0} (xs : List X) (x d : X) (k : ℕ) → k ≡ length xs → get_or (xs ++ x ∷ []) k d ≡ x
last [] x d zero is = refl
last [] x d (suc k) is = absurd (omega (arith, is))
last (y ∷ ys) x d zero is = absurd (omega (arith, is))
last (y ∷ ys) x d (suc k) is = last ys x d k (omega (arith, is))

pub length_more : {X : Type 0} (xs : List X) (x : X) → length (xs ++ x ∷ []) ≡ length xs + 1
length_more [] x = omega arith
length_more (y ∷ ys) x = let rest : length (ys ++ x ∷ []) ≡ length ys + 1 = length_more ys x in omega (arith, rest)

-- a name that gets a number has what stands under it by nature, and the others what they had
pub gains_under : {V X : Type 0} (look : List X → Option ℕ → V) (none : V) → ((xs : List X) → look xs None ≡ none)
    → (old new : List ℕ → Option ℕ) (name : List ℕ) (n : ℕ) (xs : List X) (x : X) → Gains old new name n → old name ≡ None
    → IsNumbering old n → length xs ≡ n
    → look (xs ++ x ∷ []) (Some n) ≡ none
    → ((k : ℕ) → k < length xs → look (xs ++ x ∷ []) (Some k) ≡ look xs (Some k))
    → (q : List ℕ) → look (xs ++ x ∷ []) (new q) ≡ look xs (old q)
gains_under look none nothing old new name n xs x g absent i long at front_same q =
    same_or_not name q
    (λ same. ap (λ p. look (xs ++ x ∷ []) (new p)) (sym same) ∙ ap (look (xs ++ x ∷ [])) g.at ∙ at ∙ sym (nothing xs) ∙ ap (look xs) (sym absent) ∙ ap (λ p. look xs (old p)) same)
    (λ _ ne. ap (look (xs ++ x ∷ [])) (g.others q ne) ∙ by (old q) (λ k is. i.below q k is))
  where
    by : (found : Option ℕ) → ((k : ℕ) → found ≡ Some k → k < n) → look (xs ++ x ∷ []) found ≡ look xs found
    by None below = nothing (xs ++ x ∷ []) ∙ sym (nothing xs)
    by (Some k) below = let less : k < n = below k refl in front_same k (omega (arith, long))

pub members_front : (members : List (Vec ℕ Global)) (v : Vec ℕ Global) (k : ℕ) → k < length members → list_at (members ++ v ∷ []) k ≡ list_at members k
members_front members v k within =
    ap (λ ls. get_or ls k []) (map-append (λ (list : Vec ℕ Global). list.items) members (v ∷ []))
    ∙ front (map (λ list. list.items) members) v.items [] k (omega (arith, length-map members (λ (list : Vec ℕ Global). list.items)))

pub members_last : (members : List (Vec ℕ Global)) (v : Vec ℕ Global) (k : ℕ) → k ≡ length members → list_at (members ++ v ∷ []) k ≡ v.items
members_last members v k is =
    ap (λ ls. get_or ls k []) (map-append (λ (list : Vec ℕ Global). list.items) members (v ∷ []))
    ∙ last (map (λ list. list.items) members) v.items [] k (is ∙ sym (length-map members (λ (list : Vec ℕ Global). list.items)))

-- ---- policies

-- the policy that an edit chose, `Any` being none
abbrev pub chosen : Policy → Option Policy
chosen Any = None
chosen Wheel = Some Wheel
chosen Source = Some Source

abbrev pub chosen_under : List Policy → Option ℕ → Option Policy
chosen_under policies None = None
chosen_under policies (Some n) = chosen (policy_at policies n)

pub get_with_policy : (policies : Policies) (name : List ℕ) (policy : Policy) (q : List ℕ)
    → map_of.get (with_policy policies name policy) q ≡ cond (eq_by_cmp (slice_cmp nat_cmp) q name) (chosen policy) (map_of.get policies q)
get_with_policy policies name Any q = map_of.get-remove nat_list_cmp_total policies name q
get_with_policy policies name Wheel q = map_of.get-insert nat_list_cmp_total policies name Wheel q
get_with_policy policies name Source q = map_of.get-insert nat_list_cmp_total policies name Source q

pub get_policies_from : (es : List (String Global × ℕ)) (policies : List Policy) (q : List ℕ)
    → map_of.get (policies_from es policies) q ≡ chosen_under policies (lookup (λ k. is_eq (slice_cmp nat_cmp q (string_bytes k))) es)
get_policies_from [] policies q = map_of.get-empty (slice_cmp nat_cmp) q
get_policies_from (e ∷ es) policies q =
    get_with_policy (policies_from es policies) (string_bytes e.0) (policy_at policies e.1) q
    ∙ ap (λ rest. cond (is_eq (slice_cmp nat_cmp q (string_bytes e.0))) (chosen (policy_at policies e.1)) rest) (get_policies_from es policies q)
    ∙ by (is_eq (slice_cmp nat_cmp q (string_bytes e.0)))
  where
    by : (b : Bool) → cond b (chosen (policy_at policies e.1)) (chosen_under policies (lookup (λ k. is_eq (slice_cmp nat_cmp q (string_bytes k))) es)) ≡ chosen_under policies (cond b (Some e.1) (lookup (λ k. is_eq (slice_cmp nat_cmp q (string_bytes k))) es))
    by true = refl
    by false = refl

pub get_policies_in : (names : Names) (q : List ℕ) → map_of.get (policies_in names) q ≡ chosen_under names.policies.items (number_named names q)
get_policies_in names q = get_policies_from names.numbers.entries names.policies.items q

pub same_policies : (one other : Policies) → ((q : List ℕ) → map_of.get one q ≡ map_of.get other q) → one ≡ other
same_policies one other same = map_of.same_map nat_list_cmp_total (slice_cmp-IsAntisymmetric nat_cmp-IsAntisymmetric) one other same

-- the policy of a name is the one under its number
abbrev pub policy_under : List Policy → Option ℕ → Policy
policy_under policies None = Any
policy_under policies (Some n) = policy_at policies n

pub policy_of_in : (names : Names) (q : List ℕ) → policy_of (policies_in names) q ≡ policy_under names.policies.items (number_named names q)
policy_of_in names q = ap (λ p. unwrap_or p Any) (get_policies_in names q) ∙ by (number_named names q)
  where
    of : (policy : Policy) → unwrap_or (chosen policy) Any ≡ policy
    of Any = refl
    of Wheel = refl
    of Source = refl

    by : (n : Option ℕ) → unwrap_or (chosen_under names.policies.items n) Any ≡ policy_under names.policies.items n
    by None = refl
    by (Some n) = of (policy_at names.policies.items n)

-- ---- a name that gets its number

-- the names with one more
pub record Grown (old new : Names) (name : List ℕ) (v : Vec ℕ Global) : Type 0 where
  pub numbers : Gains (number_named old) (number_named new) name (length old.policies.items)
  pub absent : number_named old name ≡ None
  pub policies : new.policies.items ≡ old.policies.items ++ Any ∷ []
  pub members : new.members.items ≡ old.members.items ++ v ∷ []
  pub empty : v.items ≡ []

pub grown_members : (old new : Names) (name : List ℕ) (v : Vec ℕ Global) → IsNames old → Grown old new name v → (q : List ℕ) → members_named new q ≡ members_named old q
grown_members old new name v is g q =
    ap (λ ms. members_under ms (number_named new q)) g.members
    ∙ gains_under members_under [] (λ ms. refl) (number_named old) (number_named new) name (length old.policies.items) old.members.items v g.numbers g.absent is.numbering is.even
    (members_last old.members.items v (length old.policies.items) (sym is.even) ∙ g.empty)
    (λ k within. members_front old.members.items v k within) q

pub grown_policies : (old new : Names) (name : List ℕ) (v : Vec ℕ Global) → IsNames old → Grown old new name v → policies_in new ≡ policies_in old
grown_policies old new name v is g = same_policies (policies_in new) (policies_in old) (λ q.
    get_policies_in new q ∙ ap (λ ps. chosen_under ps (number_named new q)) g.policies
    ∙ gains_under chosen_under None (λ ps. refl) (number_named old) (number_named new) name (length old.policies.items) old.policies.items Any g.numbers g.absent is.numbering refl
    (ap chosen (last old.policies.items Any Any (length old.policies.items) refl))
    (λ k within. ap chosen (front old.policies.items Any Any k within)) q
    ∙ sym (get_policies_in old q))

pub grown_is : (old new : Names) (name : List ℕ) (v : Vec ℕ Global) → IsNames old → Grown old new name v → IsNames new
grown_is old new name v is g =
    let longer : length new.policies.items ≡ length old.policies.items + 1 = ap length g.policies ∙ length_more old.policies.items Any in
    let wider : length new.members.items ≡ length old.members.items + 1 = ap length g.members ∙ length_more old.members.items v in
    record {
      numbering = gains_numbering (number_named old) (number_named new) name (length old.policies.items) (length new.policies.items) g.numbers longer is.numbering;
      even = omega (arith, longer, wider, is.even);
    }

-- ---- a policy, and what entries have a name

-- the policy under a number is written
pub policies_set : (names : Names) (n : ℕ) (policy : Policy) (name : List ℕ) → IsNames names → n < length names.policies.items → number_named names name ≡ Some n
    → policies_from names.numbers.entries (set names.policies.items n policy) ≡ with_policy (policies_in names) name policy
policies_set names n policy name is within has =
    same_policies (policies_from names.numbers.entries (set names.policies.items n policy)) (with_policy (policies_in names) name policy) (λ q.
    get_policies_from names.numbers.entries (set names.policies.items n policy) q
    ∙ by q ∙ sym (get_with_policy (policies_in names) name policy q ∙ ap (cond (is_eq (slice_cmp nat_cmp q name)) (chosen policy)) (get_policies_in names q)))
  where
    other : (found : Option ℕ) → ((m : ℕ) → found ≡ Some m → m ≡ n → ⊥) → chosen_under (set names.policies.items n policy) found ≡ chosen_under names.policies.items found
    other None ne = refl
    other (Some m) ne = ap chosen (get_or-set_other names.policies.items n m policy Any (ne m refl))

    by : (q : List ℕ) → chosen_under (set names.policies.items n policy) (number_named names q) ≡ cond (is_eq (slice_cmp nat_cmp q name)) (chosen policy) (chosen_under names.policies.items (number_named names q))
    by q = same_or_not q name
        (λ same. ap (chosen_under (set names.policies.items n policy)) (ap (number_named names) same ∙ has)
        ∙ ap chosen (get_or-set_same names.policies.items n policy Any within)
        ∙ sym (ap (λ b. cond b (chosen policy) (chosen_under names.policies.items (number_named names q))) (is_eq-slice_cmp q name ∙ (bytes_eq-Decides q name).1 same)))
        (λ differs ne. other (number_named names q) (λ m found m_is. ne (is.numbering.apart q name n (found ∙ ap Some m_is) has))
        ∙ sym (ap (λ b. cond b (chosen policy) (chosen_under names.policies.items (number_named names q))) (is_eq-slice_cmp q name ∙ differs)))

-- lists that keep their numbers
pub members_same : (names : Names) (lists : List (Vec ℕ Global)) → ((n : ℕ) → list_at lists n ≡ list_at names.members.items n) → (q : List ℕ) → members_under lists (number_named names q) ≡ members_named names q
members_same names lists same q = by (number_named names q)
  where
    by : (found : Option ℕ) → members_under lists found ≡ members_under names.members.items found
    by None = refl
    by (Some n) = same n

pub same_number : (names : Names) → IsNames names → (q p : List ℕ) (n m : ℕ) → number_named names q ≡ Some n → number_named names p ≡ Some m → bytes_eq q p ≡ nat_eq n m
same_number names is q p n m has_q has_p =
    same_or_not q p
    (λ same. let both : ◌≡◌ {A = Option ℕ} (Some n) (Some m) = sym has_q ∙ ap (number_named names) same ∙ has_p in
    let equal : n ≡ m = cc in
    (ap (bytes_eq q) (sym same) ∙ text_itself q) ∙ sym (eq-eqb n m equal))
    (λ differs ne. differs ∙ sym (ne_eqb n m (λ equal. ne (is.numbering.apart q p m (has_q ∙ ap Some equal) has_p))))
