-- The table of the first claims, with one claim more.
use Rattle.std.proofs.Common.{◌≡◌, ◌∙◌, ◌&&◌, ℕ, Bool, true, false, cond, not, List, [], ◌∷◌, ◌++◌, Option, Some, None, option_map, refl, sym, ap, inl, inr}
use Rattle.std.proofs.lemmas.Bool.{cases_Bool, false≢true}
use Rattle.std.specs.BTreeMap.{BTreeMap, Updates, get}
use Rattle.std.specs.Cmp.Lexicographic.{bytes_decides}
use Rattle.std.specs.List.{find}
use Rattle.std.specs.Option.{option_map_or}
use Rattle.std.specs.Str.{bytes_eq}
use Rattle.pylock_compare.specs.Texts.{Texts, are_alike, texts_cmp}
use Rattle.pylock_compare.proofs.KeyLemmas.{alike_equal}
use Rattle.pylock_compare.proofs.PartnerLemmas.{alike_turned}
use Rattle.pylock_union.specs.Inner.{IsTable, contradicted, first_of, lent_claim}
use Rattle.pylock_union.specs.Union.{ClaimValue, claim_key, contradicts, first_clash}
use Rattle.pylock_union.specs.declared.claims.Claim.{Claim}

-- ---- what is found of one more

abbrev or_last : {A : Type 0} → Option A → (A → Bool) → A → Option A
or_last (Some x) test y = Some x
or_last None test y = cond (test y) (Some y) None

find_last : {A : Type 0} (test : A → Bool) (xs : List A) (y : A) → find test (xs ++ y ∷ []) ≡ or_last (find test xs) test y
find_last test [] y = refl
find_last test (x ∷ xs) y = by (test x) (find_last test xs y)
  where
    by : (b : Bool) → find test (xs ++ y ∷ []) ≡ or_last (find test xs) test y
        → cond b (Some x) (find test (xs ++ y ∷ [])) ≡ or_last (cond b (Some x) (find test xs)) test y
    by true more = refl
    by false more = more

-- what is found is as it was tested
found_is : {A : Type 0} (test : A → Bool) (xs : List A) (y : A) → find test xs ≡ Some y → test y ≡ true
found_is test [] y found = absurd cc
found_is test (x ∷ xs) y found = elim (cases_Bool (test x)) [
  | inl is ↦ (
      let same : Some x ≡ Some y = sym (ap (λ b. cond b (Some x) (find test xs)) is) ∙ found in
      let one : x ≡ y = cc in
      ap test (sym one) ∙ is)
  | inr other ↦ found_is test xs y (sym (ap (λ b. cond b (Some x) (find test xs)) other) ∙ found)
]

-- ---- claims of one key

-- claims of one key that don't contradict each other have one value
same_value : (one other : ClaimValue) → contradicts one other ≡ false → are_alike (claim_key one) (claim_key other) ≡ true → bytes_eq one.value other.value ≡ true
same_value one other agree alike =
    by (are_alike (claim_key one) (claim_key other)) (bytes_eq one.value other.value) agree alike
  where
    by : (a v : Bool) → (a && not v) ≡ false → a ≡ true → v ≡ true
    by true true h e = refl
    by true false h e = absurd (false≢true (sym h))
    by false v h e = absurd (false≢true e)

differs : (one other : ClaimValue) → contradicts one other ≡ true → (are_alike (claim_key one) (claim_key other) ≡ true) × (bytes_eq one.value other.value ≡ false)
differs one other is = by (are_alike (claim_key one) (claim_key other)) (bytes_eq one.value other.value) is
  where
    by : (a v : Bool) → (a && not v) ≡ true → (a ≡ true) × (v ≡ false)
    by true true h = absurd (false≢true h)
    by true false h = (refl, refl)
    by false v h = absurd (false≢true h)

some_none : {A : Type 0} (b : Bool) (x : A) → cond b (Some x) None ≡ None → b ≡ false
some_none true x e = absurd cc
some_none false x e = refl

-- a claim of the key that has been found
pub against_found : (claims : List ClaimValue) (claim first : ClaimValue)
    → find (contradicts claim) claims ≡ contradicted claim (first_of (claim_key claim) claims)
    → first_of (claim_key claim) claims ≡ Some first
    → find (contradicts claim) claims ≡ cond (bytes_eq claim.value first.value) None (Some first)
against_found claims claim first agree found =
    agree ∙ ap (contradicted claim) found
    ∙ by (are_alike (claim_key claim) (claim_key first)) (bytes_eq claim.value first.value) (found_is (λ c. are_alike (claim_key claim) (claim_key c)) claims first found)
  where
    by : (a v : Bool) → a ≡ true → cond (a && not v) (Some first) None ≡ cond v None (Some first)
    by true true e = refl
    by true false e = refl
    by false v e = absurd (false≢true e)

pub against_none : (claims : List ClaimValue) (claim : ClaimValue)
    → find (contradicts claim) claims ≡ contradicted claim (first_of (claim_key claim) claims)
    → first_of (claim_key claim) claims ≡ None
    → find (contradicts claim) claims ≡ None
against_none claims claim agree none = agree ∙ ap (contradicted claim) none

-- ---- with one claim more

-- a claim that contradicts none of those before it contradicts none that another agrees with
none_new : (claims : List ClaimValue) (new one first : ClaimValue)
    → ((c : ClaimValue) → find (contradicts c) claims ≡ contradicted c (first_of (claim_key c) claims))
    → find (contradicts new) claims ≡ None
    → first_of (claim_key one) claims ≡ Some first → contradicts one first ≡ false → contradicts one new ≡ false
none_new claims new one first agree none found same = elim (cases_Bool (contradicts one new)) [
  | inr apart ↦ apart
  | inl is ↦ (
      let unlike = differs one new is in
      let keys : claim_key one ≡ claim_key new = alike_equal (claim_key one) (claim_key new) unlike.0 in
      let found_new : first_of (claim_key new) claims ≡ Some first = ap (λ k. first_of k claims) (sym keys) ∙ found in
      let here : are_alike (claim_key one) (claim_key first) ≡ true = found_is (λ c. are_alike (claim_key one) (claim_key c)) claims first found in
      let here_new : are_alike (claim_key new) (claim_key first) ≡ true = found_is (λ c. are_alike (claim_key new) (claim_key c)) claims first found_new in
      let none_there : contradicts new first ≡ false =
      some_none (contradicts new first) first (sym (ap (contradicted new) found_new) ∙ sym (agree new) ∙ none) in
      let new_first : new.value ≡ first.value = (bytes_decides new.value first.value).0 (same_value new first none_there here_new) in
      let one_first : one.value ≡ first.value = (bytes_decides one.value first.value).0 (same_value one first same here) in
      let itself : bytes_eq one.value new.value ≡ bytes_eq first.value first.value = (λ i. bytes_eq (one_first i) (new_first i)) in
      absurd (false≢true (sym unlike.1 ∙ itself ∙ same_itself first.value)))
]
  where
    same_itself : (v : List ℕ) → bytes_eq v v ≡ true
    same_itself v = (bytes_decides v v).1 refl

pub agree_more : (claims : List ClaimValue) (new : ClaimValue)
    → ((c : ClaimValue) → find (contradicts c) claims ≡ contradicted c (first_of (claim_key c) claims))
    → find (contradicts new) claims ≡ None
    → (c : ClaimValue) → find (contradicts c) (claims ++ new ∷ []) ≡ contradicted c (first_of (claim_key c) (claims ++ new ∷ []))
agree_more claims new agree none c =
    find_last (contradicts c) claims new
    ∙ ap (λ found. or_last found (contradicts c) new) (agree c)
    ∙ by (first_of (claim_key c) claims) refl
    ∙ ap (contradicted c) (sym (find_last (λ other. are_alike (claim_key c) (claim_key other)) claims new))
  where
    new_one : (a v : Bool) → are_alike (claim_key c) (claim_key new) ≡ a → bytes_eq c.value new.value ≡ v
        → cond (contradicts c new) (Some new) None ≡ contradicted c (cond a (Some new) None)
    new_one true v e w = refl
    new_one false v e w = ap (λ a. cond (a && not (bytes_eq c.value new.value)) (Some new) None) e

    first_one : (first : ClaimValue) (b : Bool) → contradicts c first ≡ b → first_of (claim_key c) claims ≡ Some first
        → or_last (cond b (Some first) None) (contradicts c) new ≡ cond b (Some first) None
    first_one first true is found = refl
    first_one first false is found = ap (λ b. cond b (Some new) None) (none_new claims new c first agree none found is)

    by : (found : Option ClaimValue) → first_of (claim_key c) claims ≡ found
        → or_last (contradicted c found) (contradicts c) new ≡ contradicted c (or_last found (λ other. are_alike (claim_key c) (claim_key other)) new)
    by None is = new_one (are_alike (claim_key c) (claim_key new)) (bytes_eq c.value new.value) refl refl
    by (Some first) is = first_one first (contradicts c first) refl is

-- the claim is of a key that is there, and contradicts none
pub table_stays : (table : BTreeMap Texts Claim) (claims : List ClaimValue) (new first : ClaimValue) → IsTable table claims
    → first_of (claim_key new) claims ≡ Some first → find (contradicts new) claims ≡ None → IsTable table (claims ++ new ∷ [])
table_stays table claims new first is found none = record {
  firsts = λ key. is.firsts key ∙ by key (first_of key claims) refl ∙ sym (find_last (λ other. are_alike key (claim_key other)) claims new);
  agree = agree_more claims new is.agree none;
}
  where
    by : (key : Texts) (there : Option ClaimValue) → first_of key claims ≡ there → there ≡ or_last there (λ other. are_alike key (claim_key other)) new
    by key (Some x) e = refl
    by key None e = elim (cases_Bool (are_alike key (claim_key new))) [
      | inr apart ↦ ap (λ b. cond b (Some new) None) (sym apart)
      | inl same ↦ (
          let both : Some first ≡ None = sym found ∙ ap (λ k. first_of k claims) (sym (alike_equal key (claim_key new) same)) ∙ e in
          absurd cc)
    ]

-- the claim is of a key that is new
pub table_gains : (old new : BTreeMap Texts Claim) (claims : List ClaimValue) (claim : Claim) (key : Texts) → IsTable old claims
    → key ≡ claim_key (lent_claim claim) → first_of key claims ≡ None → find (contradicts (lent_claim claim)) claims ≡ None
    → Updates texts_cmp old new key (Some claim) → IsTable new (claims ++ lent_claim claim ∷ [])
table_gains old new claims claim key is key_is none clear updates = record {
  firsts = λ q. ap (option_map lent_claim) (updates.0 q) ∙ by q (are_alike key q) refl
      ∙ sym (find_last (λ other. are_alike q (claim_key other)) claims (lent_claim claim));
  agree = agree_more claims (lent_claim claim) is.agree clear;
}
  where
    turned : (q : Texts) → are_alike q (claim_key (lent_claim claim)) ≡ are_alike key q
    turned q = ap (are_alike q) (sym key_is) ∙ alike_turned q key

    stays : (q : Texts) (there : Option ClaimValue) → are_alike q (claim_key (lent_claim claim)) ≡ false
        → there ≡ or_last there (λ other. are_alike q (claim_key other)) (lent_claim claim)
    stays q (Some x) e = refl
    stays q None e = ap (λ b. cond b (Some (lent_claim claim)) None) (sym e)

    by : (q : Texts) (b : Bool) → are_alike key q ≡ b
        → option_map lent_claim (cond b (Some claim) (get texts_cmp old q)) ≡ or_last (first_of q claims) (λ other. are_alike q (claim_key other)) (lent_claim claim)
    by q true same =
        ap (λ b. cond b (Some (lent_claim claim)) None) (sym (turned q ∙ same))
        ∙ ap (λ there. or_last there (λ other. are_alike q (claim_key other)) (lent_claim claim)) (sym (ap (λ k. first_of k claims) (sym (alike_equal key q same)) ∙ none))
    by q false apart = is.firsts q ∙ stays q (first_of q claims) (turned q ∙ apart)

-- ---- what is left, one claim on

pub clash_on : (before claims : List ClaimValue) (claim : ClaimValue) → find (contradicts claim) before ≡ None
    → first_clash (before ++ claim ∷ []) claims ≡ first_clash before (claim ∷ claims)
clash_on before claims claim none =
    ap (λ found. option_map_or (λ earlier. Some (earlier, claim)) found (first_clash (before ++ claim ∷ []) claims)) (sym none)

pub clash_here : (before claims : List ClaimValue) (claim earlier : ClaimValue) → find (contradicts claim) before ≡ Some earlier
    → Some (earlier, claim) ≡ first_clash before (claim ∷ claims)
clash_here before claims claim earlier some =
    ap (λ found. option_map_or (λ e. Some (e, claim)) found (first_clash (before ++ claim ∷ []) claims)) (sym some)
