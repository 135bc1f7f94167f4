-- Values and pieces of a query are shown alike.
use Rattle.std.proofs.Common.{◌≡◌, ◌∙◌, ℕ, ◌==◌, true, false, List, [], ◌∷◌, ◌++◌, ap, refl, subst, sym, append_assoc, append-nil, inl, inr}
use Rattle.std.proofs.lemmas.Bool.{cases_Bool}
use Rattle.std.proofs.lemmas.Bool.Decides.{Decides-eqb}
use Rattle.std.specs.List.{list_any}
use Rattle.std.specs.Prelude.{codes}
use Rattle.pytext.proofs.OptionsLemmas.{option_cases}
use Rattle.pywheel_core.proofs.Lemmas.Texts.Cuts.{cut_joined, cut_lacking, cut_says, no_cut_says}
use Rattle.pywheel_core.proofs.Lemmas.Texts.Cuts as cuts
use Rattle.pywheel_core.specs.Texts.{cut_at}
use Rattle.pylock_shown.proofs.EachLemmas.{each_at, each_one, each_tail, inner_at, lacks_both, lacks_more}
use Rattle.pylock_shown.proofs.MarkLemmas.{queries_alike}
use Rattle.pylock_shown.proofs.PlaceLaws.{lacks_one}
use Rattle.pylock_shown.specs.Hidden.{hidden, hidden_behind_mark, hidden_fragment, hidden_key, hidden_piece, hidden_query}
use Rattle.pylock_shown.specs.Inner.Parts.{query_part}
use Rattle.pylock_shown.specs.Parted.{Lacks, begins_piece, ends_piece, is_mark}

-- a query may be cut at each mark
query_at : (mark : ℕ) (p y : List ℕ) → is_mark mark ≡ true → hidden_query (p ++ (mark ∷ y)) ≡ hidden_query p ++ (mark ∷ hidden_query y)
query_at mark p y is = elim (cases_Bool (mark == 38)) [
  | inl one ↦ subst (λ b. hidden_query (p ++ (b ∷ y)) ≡ hidden_query p ++ (b ∷ hidden_query y)) (sym ((Decides-eqb mark 38).0 one)) (each_at 38 query_part p y)
  | inr isnt ↦
      let two : (mark == 59) ≡ true = rw isnt at is in
      subst (λ b. hidden_query (p ++ (b ∷ y)) ≡ hidden_query p ++ (b ∷ hidden_query y)) (sym ((Decides-eqb mark 59).0 two)) (inner_at 38 59 hidden_piece refl p y)
]

mark_is_no_hash : (mark : ℕ) → is_mark mark ≡ true → (mark == 35) ≡ false
mark_is_no_hash mark is = elim (cases_Bool (mark == 35)) [
  | inl hash ↦ absurd (let no : false ≡ true = subst (λ b. is_mark b ≡ true) ((Decides-eqb mark 35).0 hash) is in cc)
  | inr other ↦ other
]

-- ---- what stands behind a `?`

pub no_fragment : (x : List ℕ) → cuts.Lacks 35 x → hidden_behind_mark x ≡ hidden_query x
no_fragment x lacks = rw (cut_lacking 35 x lacks) refl

pub fragment : (x f : List ℕ) → cuts.Lacks 35 x → hidden_behind_mark (x ++ (35 ∷ f)) ≡ hidden_query x ++ codes "#" ++ hidden_fragment f
fragment x f lacks = rw (cut_joined 35 x f lacks) refl

-- two queries that are shown alike, before the end of a piece
module _ (x y : List ℕ) (no_x : cuts.Lacks 35 x) (no_y : cuts.Lacks 35 y) (same : hidden_query x ≡ hidden_query y) where
  more_alike : (mark : ℕ) (r : List ℕ) → is_mark mark ≡ true → hidden_query (x ++ (mark ∷ r)) ≡ hidden_query (y ++ (mark ∷ r))
  more_alike mark r is = query_at mark x r is ∙ ap (λ t. t ++ (mark ∷ hidden_query r)) same ∙ sym (query_at mark y r is)

  at_mark : (mark : ℕ) (r : List ℕ) → is_mark mark ≡ true → hidden_behind_mark (x ++ (mark ∷ r)) ≡ hidden_behind_mark (y ++ (mark ∷ r))
  at_mark mark r is = elim (option_cases (cut_at 35 r)) [
    | inl none ↦
        let no_r = lacks_more 35 mark r (mark_is_no_hash mark is) (no_cut_says 35 r none) in
        no_fragment (x ++ (mark ∷ r)) (lacks_both 35 x (mark ∷ r) no_x no_r)
        ∙ more_alike mark r is
        ∙ sym (no_fragment (y ++ (mark ∷ r)) (lacks_both 35 y (mark ∷ r) no_y no_r))
    | inr some ↦
        let a = some.0.0 in let f = some.0.1 in
        let says = cut_says 35 r a f some.1 in
        let no_a = lacks_more 35 mark a (mark_is_no_hash mark is) says.1 in
        ap (λ r. hidden_behind_mark (x ++ (mark ∷ r))) says.0
        ∙ ap hidden_behind_mark (sym (append_assoc x (mark ∷ a) (35 ∷ f)))
        ∙ fragment (x ++ (mark ∷ a)) f (lacks_both 35 x (mark ∷ a) no_x no_a)
        ∙ ap (λ t. t ++ codes "#" ++ hidden_fragment f) (more_alike mark a is)
        ∙ sym (fragment (y ++ (mark ∷ a)) f (lacks_both 35 y (mark ∷ a) no_y no_a))
        ∙ ap hidden_behind_mark (append_assoc y (mark ∷ a) (35 ∷ f))
        ∙ ap (λ r. hidden_behind_mark (y ++ (mark ∷ r))) (sym says.0)
  ]

  before_end : (rest : List ℕ) → ends_piece rest ≡ true → hidden_behind_mark (x ++ rest) ≡ hidden_behind_mark (y ++ rest)
  before_end [] ends =
      ap hidden_behind_mark (append-nil x) ∙ no_fragment x no_x ∙ same ∙ sym (no_fragment y no_y) ∙ ap hidden_behind_mark (sym (append-nil y))
  before_end (b ∷ rest) ends = elim (cases_Bool (is_mark b)) [
    | inl mark ↦ at_mark b rest mark
    | inr other ↦
        let hash : (b == 35) ≡ true = rw other at ends in
        subst (λ b. hidden_behind_mark (x ++ (b ∷ rest)) ≡ hidden_behind_mark (y ++ (b ∷ rest))) (sym ((Decides-eqb b 35).0 hash))
        (fragment x rest no_x ∙ ap (λ t. t ++ codes "#" ++ hidden_fragment rest) same ∙ sym (fragment y rest no_y))
  ]

-- ---- a value

pub keyed : (q s : List ℕ) → cuts.Lacks 61 q → hidden_piece (q ++ (61 ∷ s)) ≡ hidden_key q ++ codes "=***"
keyed q s lacks = rw (cut_joined 61 q s lacks) refl

piece_alike : (s t q : List ℕ) → hidden_piece (q ++ (61 ∷ s)) ≡ hidden_piece (q ++ (61 ∷ t))
piece_alike s t q = elim (option_cases (cut_at 61 q)) [
  | inl none ↦ let no_q = no_cut_says 61 q none in keyed q s no_q ∙ sym (keyed q t no_q)
  | inr some ↦
      let a = some.0.0 in let b = some.0.1 in
      let says = cut_says 61 q a b some.1 in
      earlier a b s says.0 says.1 ∙ sym (earlier a b t says.0 says.1)
]
  where
    earlier : (a b s : List ℕ) → q ≡ a ++ (61 ∷ b) → cuts.Lacks 61 a → hidden_piece (q ++ (61 ∷ s)) ≡ hidden_key a ++ codes "=***"
    earlier a b s is lacks =
        ap (λ q. hidden_piece (q ++ (61 ∷ s))) is ∙ ap hidden_piece (append_assoc a (61 ∷ b) (61 ∷ s)) ∙ keyed a (b ++ (61 ∷ s)) lacks

value_alike : (first second query : List ℕ) → Lacks (codes "&;#") first → Lacks (codes "&;#") second
    → hidden_query (query ++ (61 ∷ first)) ≡ hidden_query (query ++ (61 ∷ second))
value_alike first second query no_first no_second =
    each_tail 38 query_part (61 ∷ first) (61 ∷ second) (no 38 first refl refl no_first) (no 38 second refl refl no_second)
    (each_tail 59 hidden_piece (61 ∷ first) (61 ∷ second) (no 59 first refl refl no_first) (no 59 second refl refl no_second) (piece_alike first second))
    query
  where
    no : (c : ℕ) (s : List ℕ) → (61 == c) ≡ false → list_any (λ d. c == d) (codes "&;#") ≡ true → Lacks (codes "&;#") s → cuts.Lacks c (61 ∷ s)
    no c s other has lacks = lacks_more c 61 s other (lacks_one c (codes "&;#") s has lacks)

pub value_is_hidden : (place query first second rest : List ℕ) → Lacks (codes "?") place → Lacks (codes "#") query
    → Lacks (codes "&;#") first → Lacks (codes "&;#") second → ends_piece rest ≡ true
    → hidden (place ++ (63 ∷ (query ++ (61 ∷ (first ++ rest))))) ≡ hidden (place ++ (63 ∷ (query ++ (61 ∷ (second ++ rest)))))
value_is_hidden place query first second rest no_place no_query no_first no_second ends =
    let hash = lacks_one 35 (codes "#") query refl no_query in
    let no_one = lacks_both 35 query (61 ∷ first) hash (lacks_more 35 61 first refl (lacks_one 35 (codes "&;#") first refl no_first)) in
    let no_two = lacks_both 35 query (61 ∷ second) hash (lacks_more 35 61 second refl (lacks_one 35 (codes "&;#") second refl no_second)) in
    queries_alike place (query ++ (61 ∷ (first ++ rest))) (query ++ (61 ∷ (second ++ rest))) (lacks_one 63 (codes "?") place refl no_place)
    (ap hidden_behind_mark (sym (append_assoc query (61 ∷ first) rest))
    ∙ before_end (query ++ (61 ∷ first)) (query ++ (61 ∷ second)) no_one no_two (value_alike first second query no_first no_second) rest ends
    ∙ ap hidden_behind_mark (append_assoc query (61 ∷ second) rest))

-- ---- a piece without `=`

piece_starred : (s : List ℕ) → Lacks (codes "&;#=") s → hidden_query s ≡ codes "***"
piece_starred s lacks =
    let bytes = codes "&;#=" in
    each_one 38 query_part s (lacks_one 38 bytes s refl lacks)
    ∙ each_one 59 hidden_piece s (lacks_one 59 bytes s refl lacks)
    ∙ rw (cut_lacking 61 s (lacks_one 61 bytes s refl lacks)) refl

-- a text that ends with a mark, and that mark
last_mark : (b : ℕ) (q : List ℕ) → begins_piece (b ∷ q) ≡ true → (front : List ℕ) × (mark : ℕ) × (b ∷ q ≡ front ++ (mark ∷ [])) × (is_mark mark ≡ true)
last_mark b [] begins = ([], b, refl, begins)
last_mark a (b ∷ q) begins = let rest = last_mark b q begins in (a ∷ rest.0, rest.1, ap (λ t. a ∷ t) rest.2, rest.3)

pieces_alike : (query first second : List ℕ) → begins_piece query ≡ true → Lacks (codes "&;#=") first → Lacks (codes "&;#=") second
    → hidden_query (query ++ first) ≡ hidden_query (query ++ second)
pieces_alike [] first second begins no_first no_second = piece_starred first no_first ∙ sym (piece_starred second no_second)
pieces_alike (b ∷ q) first second begins no_first no_second =
    let cut = last_mark b q begins in
    behind cut.0 cut.1 first cut.2 cut.3 ∙ ap (λ t. hidden_query cut.0 ++ (cut.1 ∷ t)) (piece_starred first no_first ∙ sym (piece_starred second no_second))
    ∙ sym (behind cut.0 cut.1 second cut.2 cut.3)
  where
    behind : (front : List ℕ) (mark : ℕ) (s : List ℕ) → b ∷ q ≡ front ++ (mark ∷ []) → is_mark mark ≡ true
        → hidden_query ((b ∷ q) ++ s) ≡ hidden_query front ++ (mark ∷ hidden_query s)
    behind front mark s is mark_is =
        ap (λ t. hidden_query (t ++ s)) is ∙ ap hidden_query (append_assoc front (mark ∷ []) s) ∙ query_at mark front s mark_is

pub piece_is_hidden : (place query first second rest : List ℕ) → Lacks (codes "?") place → Lacks (codes "#") query → begins_piece query ≡ true
    → Lacks (codes "&;#=") first → Lacks (codes "&;#=") second → ends_piece rest ≡ true
    → hidden (place ++ (63 ∷ (query ++ (first ++ rest)))) ≡ hidden (place ++ (63 ∷ (query ++ (second ++ rest))))
piece_is_hidden place query first second rest no_place no_query begins no_first no_second ends =
    let hash = lacks_one 35 (codes "#") query refl no_query in
    let no_one = lacks_both 35 query first hash (lacks_one 35 (codes "&;#=") first refl no_first) in
    let no_two = lacks_both 35 query second hash (lacks_one 35 (codes "&;#=") second refl no_second) in
    queries_alike place (query ++ (first ++ rest)) (query ++ (second ++ rest)) (lacks_one 63 (codes "?") place refl no_place)
    (ap hidden_behind_mark (sym (append_assoc query first rest))
    ∙ before_end (query ++ first) (query ++ second) no_one no_two (pieces_alike query first second begins no_first no_second) rest ends
    ∙ ap hidden_behind_mark (append_assoc query second rest))
