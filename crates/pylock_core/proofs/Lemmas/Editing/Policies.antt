-- Lemmas on several names that are given a policy.
use Rattle.std.proofs.Common.{[], ◌≡◌, ℕ, zero, suc, arith, ◌+◌, ◌<◌, ◌∙◌, Bool, true, false, ◌||◌, List, ◌∷◌, length, drop, get_or, Option, Some, None, IfSome, IsSome, is_some, ◌≤◌, unwrap_or, cond, ap, sym, refl}
use Rattle.std.specs.FinMap as map_of
use Rattle.std.specs.Str.{bytes_eq}
use Rattle.pylock_readers.specs.Entry.{EntryValue}
use Rattle.pylock_core.specs.Inner.Parts.{IsNamed, OfRows}
use Rattle.pylock_core.specs.Inner.Tables.Names.{AreMarks, IsNames, Kept, is_at, number_named}
use Rattle.pylock_core.specs.Inner.Tables.Rows.{is_marked}
use Rattle.pylock_core.specs.Session.State.{Policies, is_among, policy_of, with_policies, with_policy}
use Rattle.pylock_core.specs.declared.edit.Policy.{Policy}
use Rattle.pylock_core.specs.declared.edit.Policy.TheVariants.{Any, Wheel, Source}
use Rattle.pylock_core.specs.declared.session.tables.names.Names.{Names}
use Rattle.pylock_core.specs.declared.session.tables.rows.Row.{Row}
use Rattle.std.proofs.lemmas.Map.Text.{is_eq-slice_cmp}
use Rattle.pylock_core.proofs.Lemmas.Tables.Index.{passing, passing_row, with_row}
use Rattle.pylock_core.proofs.Lemmas.Tables.Names.{chosen, get_with_policy, no_number, same_number, text_other}

-- ---- elements

-- an element that is there is the same, whatever stands for one that isn't
pub get_default : (list : List (List ℕ)) (i : ℕ) (d e : List ℕ) → i < length list → get_or list i d ≡ get_or list i e
get_default [] i d e within = absurd (omega arith)
get_default (x ∷ xs) zero d e within = refl
get_default (x ∷ xs) (suc i) d e within = get_default xs i d e (omega arith)

pub drop_end : (list : List (List ℕ)) (i : ℕ) → length list ≤ i → drop i list ≡ []
drop_end [] zero within = refl
drop_end [] (suc i) within = refl
drop_end (x ∷ xs) zero within = absurd (omega (arith, within))
drop_end (x ∷ xs) (suc i) within = drop_end xs i (omega (arith, within))

-- ---- names that are kept

pub kept_itself : (names : Names) → IsNames names → Kept names names
kept_itself names is = record { numbers = λ q n has. has; policies = refl; members = λ q. refl; is = is }

pub kept_then : (one two three : Names) → Kept one two → Kept two three → Kept one three
kept_then one two three first second = record {
  numbers = λ q n has. second.numbers q n (first.numbers q n has);
  policies = second.policies ∙ first.policies;
  members = λ q. second.members q ∙ first.members q;
  is = second.is;
}

-- a name that has a number keeps it
pub known_kept : (old new : Option ℕ) → ((n : ℕ) → old ≡ Some n → new ≡ Some n) → IsSome old → IsSome new
known_kept None new keeps is = let e : false ≡ true = is in cc
known_kept (Some n) new keeps is = ap is_some (keeps n refl)

-- ---- the rows of marked names are the entries of these names

row_marked : (names : Names) (list : List (List ℕ)) (marks : List Bool) → AreMarks names list marks → (e : EntryValue) (r : Row) → IsNamed names e r
    → is_marked marks r ≡ is_among list e.name
row_marked names list marks are e r named = are e.name r.name named.name

pub marked_here : (names : Names) (list : List (List ℕ)) (marks : List Bool) → AreMarks names list marks
    → (m : ℕ) (es : List (Option EntryValue)) (rs : List (Option Row)) → OfRows (IsNamed names) es rs
    → passing (is_marked marks) m rs ≡ passing (λ entry. is_among list entry.name) m es
marked_here names list marks are m [] [] h = refl
marked_here names list marks are m [] (r ∷ rs) h = absurd h
marked_here names list marks are m (e ∷ es) [] h = absurd h
marked_here names list marks are m (None ∷ es) (None ∷ rs) h = marked_here names list marks are (m + 1) es rs h.1
marked_here names list marks are m (None ∷ es) (Some r ∷ rs) h = absurd h.0
marked_here names list marks are m (Some e ∷ es) (None ∷ rs) h = absurd h.0
marked_here names list marks are m (Some e ∷ es) (Some r ∷ rs) h =
    passing_row (is_marked marks) m (Some r) rs
    ∙ (λ i. with_row (row_marked names list marks are e r h.0 i) m (marked_here names list marks are (m + 1) es rs h.1 i))
    ∙ sym (passing_row (λ entry. is_among list entry.name) m (Some e) es)

-- ---- marks

-- the number of a name is that of another just where it is the same name
at_same : (names : Names) → IsNames names → (q x : List ℕ) (n : ℕ) → number_named names q ≡ Some n → (m : Option ℕ) → number_named names x ≡ m → is_at n m ≡ bytes_eq q x
at_same names is q x n has None none =
    sym (text_other q x (λ same. no_number (number_named names x) n none (ap (number_named names) (sym same) ∙ has)))
at_same names is q x n has (Some m) found = sym (same_number names is q x n m has found)

in_turn : (b c d : Bool) → ((b || c) || d) ≡ (c || (b || d))
in_turn true true d = refl
in_turn true false d = refl
in_turn false true d = refl
in_turn false false d = refl

pub or_nothing : (b : Bool) → b ≡ (b || false)
or_nothing true = refl
or_nothing false = refl

pub within_marks : (names : Names) → IsNames names → (q : List ℕ) (m : Option ℕ) → m ≡ number_named names q → (count : ℕ) → count ≡ length names.policies.items
    → IfSome m (λ n. n < count)
within_marks names is q None has count same = tt
within_marks names is q (Some n) has count same = let less : n < length names.policies.items = is.numbering.below q n (sym has) in omega (arith, less, same)

-- one more name is marked
pub one_marked : (names : Names) → IsNames names → (q x : List ℕ) (n : ℕ) (was now : Bool) (left : List (List ℕ)) → number_named names q ≡ Some n
    → now ≡ (is_at n (number_named names x) || was) → (now || is_among left q) ≡ (was || is_among (x ∷ left) q)
one_marked names is q x n was now left has marks =
    ap (λ b. b || is_among left q) (marks ∙ ap (λ b. b || was) (at_same names is q x n has (number_named names x) refl))
    ∙ in_turn (bytes_eq q x) was (is_among left q)

-- ---- policies

-- the policy of a name after one was given
policy_given : (policies : Policies) (name : List ℕ) (policy : Policy) (q : List ℕ)
    → policy_of (with_policy policies name policy) q ≡ cond (bytes_eq q name) policy (policy_of policies q)
policy_given policies name policy q =
    ap (λ found. unwrap_or found Any) (get_with_policy policies name policy q ∙ ap (λ b. cond b (chosen policy) (map_of.get policies q)) (is_eq-slice_cmp q name))
    ∙ by (bytes_eq q name) policy
  where
    by : (b : Bool) (p : Policy) → unwrap_or (cond b (chosen p) (map_of.get policies q)) Any ≡ cond b p (policy_of policies q)
    by true Any = refl
    by true Wheel = refl
    by true Source = refl
    by false p = refl

either_given : (b c : Bool) (policy was : Policy) → cond c policy (cond b policy was) ≡ cond (b || c) policy was
either_given true true policy was = refl
either_given true false policy was = refl
either_given false true policy was = refl
either_given false false policy was = refl

pub policies_given : (policies : Policies) (list : List (List ℕ)) (policy : Policy) (q : List ℕ)
    → policy_of (with_policies policies list policy) q ≡ cond (is_among list q) policy (policy_of policies q)
policies_given policies [] policy q = refl
policies_given policies (name ∷ list) policy q =
    policies_given (with_policy policies name policy) list policy q
    ∙ ap (λ was. cond (is_among list q) policy was) (policy_given policies name policy q)
    ∙ either_given (bytes_eq q name) (is_among list q) policy (policy_of policies q)
