-- What is shown of a text stays, where it is shown once more.
use Rattle.std.proofs.Common.{◌≡◌, ◌∙◌, ℕ, ◌==◌, ◌||◌, Bool, true, false, Some, None, List, [], ◌∷◌, ◌++◌, option_map, ap, refl, subst, sym, append_assoc, inl, inr}
use Rattle.std.proofs.lemmas.Bool.{cases_Bool, or_parts}
use Rattle.std.specs.List.{list_any}
use Rattle.std.specs.Prelude.{codes}
use Rattle.pytext.proofs.OptionsLemmas.{option_cases}
use Rattle.pywheel_core.proofs.Lemmas.Texts.Cuts.{Lacks, cut_says, no_cut_says}
use Rattle.pywheel_core.proofs.Lemmas.Texts.LastCut.{last_cut_joined, last_cut_says}
use Rattle.pywheel_core.specs.Texts.{cut_at, cut_at_last}
use Rattle.pylock_shown.proofs.EachLemmas.{each_again, each_keeps, lacks_both, lacks_more, lacks_parts}
use Rattle.pylock_shown.proofs.MarkLemmas.{before_query, without_query}
use Rattle.pylock_shown.proofs.PlaceLaws.{user_by}
use Rattle.pylock_shown.proofs.QueryLaws.{fragment, keyed, no_fragment}
use Rattle.pylock_shown.proofs.SlashLemmas.{front_stays, slash_first}
use Rattle.pylock_shown.specs.Hidden.{hidden, hidden_behind_mark, hidden_fragment, hidden_front, hidden_key, hidden_piece, hidden_place, hidden_query, is_slash, with_query, without_user}
use Rattle.pylock_shown.specs.Inner.Parts.{query_part}

-- what stands behind a cut lacks what the whole lacks
behind_lacks : (c d : ℕ) (p x y : List ℕ) → p ≡ x ++ (d ∷ y) → Lacks c p → Lacks c x × Lacks c y
behind_lacks c d p x y is lacks =
    let parts = lacks_parts c x (d ∷ y) (subst (Lacks c) is lacks) in
    (parts.0, (lacks_parts c (d ∷ []) y parts.1).1)

-- ---- before an `@`

module _ (p : List ℕ) where
  user_none : cut_at_last 64 p ≡ None → without_user p ≡ p
  user_none none = rw none refl

  user_some : (x y : List ℕ) → cut_at_last 64 p ≡ Some (x, y) → without_user p ≡ codes "***@" ++ y
  user_some x y some = rw some refl

user_again : (p : List ℕ) → without_user (without_user p) ≡ without_user p
user_again p = elim (option_cases (cut_at_last 64 p)) [
  | inl none ↦ ap without_user (user_none p none)
  | inr some ↦
      let x = some.0.0 in let y = some.0.1 in
      let shown = codes "***@" ++ y in
      let is = user_some p x y some.1 in
      let lacks = (last_cut_says 64 p x y some.1).1 in
      ap without_user is
      ∙ user_by shown y (cut_at_last 64 shown) (ap (option_map (λ cut. cut.1)) (last_cut_joined 64 (codes "***") y lacks))
      ∙ sym is
]

user_keeps : (c : ℕ) → (42 == c) ≡ false → (64 == c) ≡ false → (p : List ℕ) → Lacks c p → Lacks c (without_user p)
user_keeps c star at p lacks = elim (option_cases (cut_at_last 64 p)) [
  | inl none ↦ subst (Lacks c) (sym (user_none p none)) lacks
  | inr some ↦
      let x = some.0.0 in let y = some.0.1 in
      let rest = (behind_lacks c 64 p x y (last_cut_says 64 p x y some.1).0 lacks).1 in
      subst (Lacks c) (sym (user_some p x y some.1))
      (lacks_more c 42 (42 ∷ 42 ∷ 64 ∷ y) star (lacks_more c 42 (42 ∷ 64 ∷ y) star (lacks_more c 42 (64 ∷ y) star (lacks_more c 64 y at rest))))
]

place_again : (x : List ℕ) → hidden_place (hidden_place x) ≡ hidden_place x
place_again = each_again 47 without_user user_again (user_keeps 47 refl refl)

place_keeps : (x : List ℕ) → Lacks 63 x → Lacks 63 (hidden_place x)
place_keeps = each_keeps 47 without_user 63 refl (user_keeps 63 refl refl)

front_again : (x : List ℕ) → hidden_front (hidden_front x) ≡ hidden_front x
front_again [] = refl
front_again (b ∷ x) = elim (cases_Bool (is_slash b)) [
  | inl slash ↦
      let is = slash_first b x slash in
      ap hidden_front is ∙ slash_first b (hidden_place x) slash ∙ ap (λ t. b ∷ t) (place_again x) ∙ sym is
  | inr plain ↦
      let is = front_stays b x plain in
      ap hidden_front is ∙ front_stays b (hidden_front x) plain ∙ ap (λ t. b ∷ t) (front_again x) ∙ sym is
]

front_keeps : (x : List ℕ) → Lacks 63 x → Lacks 63 (hidden_front x)
front_keeps [] lacks = refl
front_keeps (b ∷ x) lacks =
    let both = or_parts (b == 63) (list_any (λ d. d == 63) x) lacks in
    elim (cases_Bool (is_slash b)) [
      | inl slash ↦ subst (Lacks 63) (sym (slash_first b x slash)) (lacks_more 63 b (hidden_place x) both.0 (place_keeps x both.1))
      | inr plain ↦ subst (Lacks 63) (sym (front_stays b x plain)) (lacks_more 63 b (hidden_front x) both.0 (front_keeps x both.1))
    ]

-- ---- a query and a fragment

abbrev is_url : List ℕ → Bool
is_url key = list_any (λ b. is_slash b || b == 64) key

key_again : (key : List ℕ) → hidden_key (hidden_key key) ≡ hidden_key key
key_again key = elim (cases_Bool (is_url key)) [
  | inl url ↦ let is : hidden_key key ≡ codes "***" = rw url refl in ap hidden_key is ∙ sym is
  | inr plain ↦ let is : hidden_key key ≡ key = rw plain refl in ap hidden_key is
]

stars : (c : ℕ) → (42 == c) ≡ false → Lacks c (codes "***")
stars c star = lacks_more c 42 (42 ∷ 42 ∷ []) star (lacks_more c 42 (42 ∷ []) star (lacks_more c 42 [] star refl))

key_keeps : (c : ℕ) → (42 == c) ≡ false → (key : List ℕ) → Lacks c key → Lacks c (hidden_key key)
key_keeps c star key lacks = elim (cases_Bool (is_url key)) [
  | inl url ↦ let is : hidden_key key ≡ codes "***" = rw url refl in subst (Lacks c) (sym is) (stars c star)
  | inr plain ↦ let is : hidden_key key ≡ key = rw plain refl in subst (Lacks c) (sym is) lacks
]

module _ (p : List ℕ) where
  piece_none : cut_at 61 p ≡ None → hidden_piece p ≡ codes "***"
  piece_none none = rw none refl

  piece_some : (x y : List ℕ) → cut_at 61 p ≡ Some (x, y) → hidden_piece p ≡ hidden_key x ++ codes "=***"
  piece_some x y some = rw some refl

piece_again : (p : List ℕ) → hidden_piece (hidden_piece p) ≡ hidden_piece p
piece_again p = elim (option_cases (cut_at 61 p)) [
  | inl none ↦ let is = piece_none p none in ap hidden_piece is ∙ sym is
  | inr some ↦
      let x = some.0.0 in let y = some.0.1 in
      let is = piece_some p x y some.1 in
      let lacks = (cut_says 61 p x y some.1).1 in
      ap hidden_piece is ∙ keyed (hidden_key x) (codes "***") (key_keeps 61 refl x lacks)
      ∙ ap (λ t. t ++ codes "=***") (key_again x) ∙ sym is
]

piece_keeps : (c : ℕ) → (42 == c) ≡ false → (61 == c) ≡ false → (p : List ℕ) → Lacks c p → Lacks c (hidden_piece p)
piece_keeps c star equals p lacks = elim (option_cases (cut_at 61 p)) [
  | inl none ↦ subst (Lacks c) (sym (piece_none p none)) (stars c star)
  | inr some ↦
      let x = some.0.0 in let y = some.0.1 in
      let front = (behind_lacks c 61 p x y (cut_says 61 p x y some.1).0 lacks).0 in
      subst (Lacks c) (sym (piece_some p x y some.1))
      (lacks_both c (hidden_key x) (codes "=***") (key_keeps c star x front) (lacks_more c 61 (codes "***") equals (stars c star)))
]

part_keeps : (c : ℕ) → (59 == c) ≡ false → (42 == c) ≡ false → (61 == c) ≡ false → (p : List ℕ) → Lacks c p → Lacks c (query_part p)
part_keeps c mark star equals = each_keeps 59 hidden_piece c mark (piece_keeps c star equals)

query_again : (x : List ℕ) → hidden_query (hidden_query x) ≡ hidden_query x
query_again =
    each_again 38 query_part (each_again 59 hidden_piece piece_again (piece_keeps 59 refl refl)) (part_keeps 38 refl refl refl)

query_keeps : (x : List ℕ) → Lacks 35 x → Lacks 35 (hidden_query x)
query_keeps = each_keeps 38 query_part 35 refl (part_keeps 35 refl refl refl)

fragment_again : (f : List ℕ) → hidden_fragment (hidden_fragment f) ≡ hidden_fragment f
fragment_again f = elim (cases_Bool (list_any (λ b. b == 63) f)) [
  | inl mark ↦ let is : hidden_fragment f ≡ codes "***" = rw mark refl in ap hidden_fragment is ∙ sym is
  | inr lacks ↦
      let is : hidden_fragment f ≡ hidden_place f = rw lacks refl in
      let again : hidden_fragment (hidden_place f) ≡ hidden_place (hidden_place f) = rw (place_keeps f lacks) refl in
      ap hidden_fragment is ∙ again ∙ place_again f ∙ sym is
]

mark_again : (z : List ℕ) → hidden_behind_mark (hidden_behind_mark z) ≡ hidden_behind_mark z
mark_again z = elim (option_cases (cut_at 35 z)) [
  | inl none ↦
      let lacks = no_cut_says 35 z none in
      let is = no_fragment z lacks in
      ap hidden_behind_mark is ∙ no_fragment (hidden_query z) (query_keeps z lacks) ∙ query_again z ∙ sym is
  | inr some ↦
      let q = some.0.0 in let f = some.0.1 in
      let says = cut_says 35 z q f some.1 in
      let is = ap hidden_behind_mark says.0 ∙ fragment q f says.1 in
      ap hidden_behind_mark (is ∙ append_assoc (hidden_query q) (codes "#") (hidden_fragment f))
      ∙ fragment (hidden_query q) (hidden_fragment f) (query_keeps q says.1)
      ∙ (λ i. query_again q i ++ codes "#" ++ fragment_again f i) ∙ sym is
]

-- ---- the text

whole_again : (shown : List ℕ → List ℕ) → ((x : List ℕ) → shown (shown x) ≡ shown x) → ((x : List ℕ) → Lacks 63 x → Lacks 63 (shown x))
    → (x : List ℕ) → with_query shown (with_query shown x) ≡ with_query shown x
whole_again shown again keeps x = elim (option_cases (cut_at 63 x)) [
  | inl none ↦
      let lacks = no_cut_says 63 x none in
      let is = without_query shown x lacks in
      ap (with_query shown) is ∙ without_query shown (shown x) (keeps x lacks) ∙ again x ∙ sym is
  | inr some ↦
      let a = some.0.0 in let b = some.0.1 in
      let says = cut_says 63 x a b some.1 in
      let is = ap (with_query shown) says.0 ∙ before_query shown a b says.1 in
      ap (with_query shown) (is ∙ append_assoc (shown a) (codes "?") (hidden_behind_mark b))
      ∙ before_query shown (shown a) (hidden_behind_mark b) (keeps a says.1)
      ∙ (λ i. again a i ++ codes "?" ++ mark_again b i) ∙ sym is
]

pub hidden_again : (text : List ℕ) → hidden (hidden text) ≡ hidden text
hidden_again = whole_again hidden_front front_again front_keeps
