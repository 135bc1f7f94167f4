-- The heads of two locks, key by key.
use Rattle.std.proofs.Common.{◌≡◌, ◌∙◌, ◌++◌, ◌||◌, ℕ, Bool, true, false, cond, not, List, [], ◌∷◌, inl, inr, None, Option, Some, option_map, refl, sym, ap}
use Rattle.std.proofs.Math.Bool.{or-true}
use Rattle.std.proofs.lemmas.Bool.{cases_Bool}
use Rattle.std.specs.Cmp.Lexicographic.{bytes_decides}
use Rattle.std.specs.List.{filter, list_any}
use Rattle.std.specs.Str.{bytes_eq}
use Rattle.toml.specs.Data.{Data, Members, get_member, member, no_members}
use Rattle.pylock_compare.specs.Rows.{in_order, names_of, values_at}
use Rattle.pytoml_code.specs.Code.{code}
use Rattle.pytoml_code.specs.Proper.{HasProper, IfThere, IsProper}
use Rattle.pytoml_code.proofs.CodeLemmas.{equal_codes}
use Rattle.pylock_diff.specs.Change.{ChangeValue, change_of, told_where}
use Rattle.pylock_diff.specs.Compared.{head_of, is_head_key}
use Rattle.pylock_diff.specs.Head.{HeadKey, first, have_same_value, head_changes, head_key, head_rows, is_list_key, key_change, keys_changes, list_keys}
use Rattle.pylock_diff.specs.declared.change.ChangeKind.TheVariants.{Head}
use Rattle.pylock_shown.specs.Hidden.{hidden}
use Rattle.pylock_diff.proofs.Same.Lists.{at_other, at_same, back_none, bytes_itself, each_none, front_none, nothing, stand_nowhere, untold}
use Rattle.pylock_diff.proofs.Same.Tables.{get_other, get_same, proper_at}

-- ---- the value at a key

-- what the head has at a key
abbrev at_key : List ℕ → List HeadKey → Option HeadKey
at_key key head = first (values_at key (head_rows head))

head_at : (key : List ℕ) (ds : Members) → at_key key (head_of ds) ≡ cond (is_head_key key) (option_map (head_key key) (get_member key ds)) None
head_at key no_members = nowhere (is_head_key key) None
  where
    nowhere : (b : Bool) (found : Option HeadKey) → found ≡ cond b found found
    nowhere true found = refl
    nowhere false found = refl
head_at key (member l d ds) = elim (cases_Bool (is_head_key l)) [
  | inl is ↦ ap (λ b. at_key key (cond b (head_key l d ∷ head_of ds) (head_of ds))) is ∙ elim (cases_Bool (bytes_eq key l)) [
    | inl same ↦ (
        let key_is = (bytes_decides key l).0 same in
        ap first (at_same key l (head_key l d) (head_rows (head_of ds)) same)
        ∙ ap (λ k. Some (head_key k d)) (sym key_is)
        ∙ ap (λ b. cond b (Some (head_key key d)) None) (sym (ap is_head_key key_is ∙ is))
        ∙ ap (λ found. cond (is_head_key key) (option_map (head_key key) found) None) (sym (get_same key l d ds same)))
    | inr other ↦ ap first (at_other key l (head_key l d) (head_rows (head_of ds)) other)
        ∙ head_at key ds ∙ ap (λ found. cond (is_head_key key) (option_map (head_key key) found) None) (sym (get_other key l d ds other))
  ]
  | inr is ↦ ap (λ b. at_key key (cond b (head_key l d ∷ head_of ds) (head_of ds))) is ∙ head_at key ds ∙ elim (cases_Bool (bytes_eq key l)) [
    | inl same ↦ (
        let none : is_head_key key ≡ false = ap is_head_key ((bytes_decides key l).0 same) ∙ is in
        ap (λ b. cond b (option_map (head_key key) (get_member key ds)) None) none
        ∙ ap (λ b. cond b (option_map (head_key key) (get_member key (member l d ds))) None) (sym none))
    | inr other ↦ ap (λ found. cond (is_head_key key) (option_map (head_key key) found) None) (sym (get_other key l d ds other))
  ]
]

-- ---- where nothing is told

-- keys with the same value
same_data : (key : List ℕ) (old new : Option Data) → IfThere IsProper old → IfThere IsProper new → have_same_value (option_map (head_key key) old) (option_map (head_key key) new) ≡ true → old ≡ new
same_data key None None p q same = refl
same_data key None (Some new) p q same = absurd cc
same_data key (Some old) None p q same = absurd cc
same_data key (Some old) (Some new) p q same = ap Some (equal_codes old new p q ((bytes_decides (code old) (code new)).0 same))

any_kept : (key : List ℕ) (p : List ℕ → Bool) (keys : List (List ℕ)) → p key ≡ true → list_any (bytes_eq key) keys ≡ true → list_any (bytes_eq key) (filter p keys) ≡ true
any_kept key p [] passes some = some
any_kept key p (k ∷ keys) passes some = elim (cases_Bool (bytes_eq key k)) [
  | inl is ↦ ap (λ b. list_any (bytes_eq key) (cond b (k ∷ filter p keys) (filter p keys))) (ap p (sym ((bytes_decides key k).0 is)) ∙ passes)
      ∙ ap (λ b. b || list_any (bytes_eq key) (filter p keys)) is
  | inr other ↦ behind (p k) (any_kept key p keys passes (ap (λ b. b || list_any (bytes_eq key) keys) (sym other) ∙ some))
]
  where
    behind : (b : Bool) → list_any (bytes_eq key) (filter p keys) ≡ true → list_any (bytes_eq key) (cond b (k ∷ filter p keys) (filter p keys)) ≡ true
    behind true some = ap (λ b. bytes_eq key k || b) some ∙ or-true (bytes_eq key k)
    behind false some = some

-- each key has the same value in both, be it one of the first five or another, or be it nowhere
all_same : (olds news : List HeadKey) (key : List ℕ) → head_changes olds news ≡ [] → have_same_value (at_key key olds) (at_key key news) ≡ true
all_same olds news key none = elim (cases_Bool (is_list_key key)) [
  | inl is ↦ untold (have_same_value (at_key key olds) (at_key key news)) _
      (each_none (λ key. key_change key (at_key key olds) (at_key key news)) list_keys (front_none (told list_keys) (told others) none) key is)
  | inr other ↦ elim (cases_Bool (list_any (bytes_eq key) (in_order (names_of (head_rows olds) ++ names_of (head_rows news))))) [
    | inl some ↦ untold (have_same_value (at_key key olds) (at_key key news)) _
        (each_none (λ key. key_change key (at_key key olds) (at_key key news)) others (back_none (told list_keys) (told others) none) key
        (any_kept key (λ key. not (is_list_key key)) (in_order (names_of (head_rows olds) ++ names_of (head_rows news))) (ap not other) some))
    | inr nowhere ↦ (let absent = stand_nowhere (head_rows olds) (head_rows news) key nowhere in λ i. have_same_value (first (absent.0 i)) (first (absent.1 i)))
  ]
]
  where
    told : List (List ℕ) → List ChangeValue
    told = keys_changes (head_rows olds) (head_rows news)

    others : List (List ℕ)
    others = filter (λ key. not (is_list_key key)) (in_order (names_of (head_rows olds) ++ names_of (head_rows news)))

pub head_told : (before after : Members) → HasProper before → HasProper after → head_changes (head_of before) (head_of after) ≡ []
    → (key : List ℕ) → is_head_key key ≡ true → get_member key before ≡ get_member key after
head_told before after p q none key is =
    same_data key (get_member key before) (get_member key after) (proper_at key before p) (proper_at key after q)
    ((λ i. have_same_value (sym (there before) i) (sym (there after) i)) ∙ all_same (head_of before) (head_of after) key none)
  where
    there : (ds : Members) → at_key key (head_of ds) ≡ option_map (head_key key) (get_member key ds)
    there ds = head_at key ds ∙ ap (λ b. cond b (option_map (head_key key) (get_member key ds)) None) is

-- ---- where all is the same

same_itself : (one : Option HeadKey) → have_same_value one one ≡ true
same_itself None = refl
same_itself (Some one) = bytes_itself one.code

pub head_same : (before after : Members) → ((key : List ℕ) → is_head_key key ≡ true → get_member key before ≡ get_member key after)
    → head_changes (head_of before) (head_of after) ≡ []
head_same before after same =
    λ i. nothing (λ key. key_change key (at_key key (head_of before)) (at_key key (head_of after))) none list_keys i
    ++ nothing (λ key. key_change key (at_key key (head_of before)) (at_key key (head_of after))) none
    (filter (λ key. not (is_list_key key)) (in_order (names_of (head_rows (head_of before)) ++ names_of (head_rows (head_of after))))) i
  where
    equal : (key : List ℕ) → at_key key (head_of before) ≡ at_key key (head_of after)
    equal key = head_at key before ∙ elim (cases_Bool (is_head_key key)) [
      | inl is ↦ ap (λ found. cond (is_head_key key) (option_map (head_key key) found) None) (same key is)
      | inr other ↦ ap (λ b. cond b (option_map (head_key key) (get_member key before)) None) other ∙ ap (λ b. cond b (option_map (head_key key) (get_member key after)) None) (sym other)
    ] ∙ sym (head_at key after)

    none : (key : List ℕ) → key_change key (at_key key (head_of before)) (at_key key (head_of after)) ≡ []
    none key =
        ap (key_change key (at_key key (head_of before))) (sym (equal key))
        ∙ ap (λ b. told_where (not b) (change_of Head (hidden key) (option_map (λ (one : HeadKey). one.text) (at_key key (head_of before))) (option_map (λ (one : HeadKey). one.text) (at_key key (head_of before))))) (same_itself (at_key key (head_of before)))
