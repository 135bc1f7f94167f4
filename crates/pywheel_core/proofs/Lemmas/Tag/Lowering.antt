-- A text in lower case is cut where the text is, and its parts are parts of a tag where those are.
use Rattle.std.proofs.Common.{◌≡◌, ℕ, ◌+◌, ◌*◌, ◌<◌, true, false, ◌==◌, ◌&&◌, nat_lt, List, [], ◌∷◌, length, Option, Some, None, option_map, Result, Ok, Err, refl, sym, ap, ◌∙◌, inl, inr, arith, map, nat_le}
use Rattle.std.proofs.lemmas.Bool.Decides.{nat_tests}
use Rattle.std.proofs.lemmas.List.{length-map}
use Rattle.std.specs.Char.{to_ascii_lowercase}
use Rattle.std.specs.List.{list_all, onto_first}
use Rattle.std.specs.Str.{str_to_ascii_lowercase}
use Rattle.pytext.proofs.OptionsLemmas.{option_cases}
use Rattle.std.proofs.lemmas.Bool.{cases_Bool}
use Rattle.pywheel_core.specs.Inner.Lent.{lower_set}
use Rattle.pywheel_core.specs.Spans.{spans_from, spans_of}
use Rattle.pytext.specs.Bytes.{is_word_byte}
use Rattle.pywheel_core.specs.Tag.{TAGS_LIMIT, TagParts, TagValue, are_tag_parts, is_tag, is_tag_part, is_tag_set, pieces, tag_of, tag_with, tags_in}
use Rattle.pywheel_core.specs.Texts.{before_cut, cut_at, three_parts}
use Rattle.pywheel_core.specs.Wheel.Reading.{set_tags_in, tag_set_in}
use Rattle.pywheel_core.specs.declared.error.TagError.TheVariants as tag
use Rattle.pywheel_core.specs.declared.error.WheelError.{WheelError}
use Rattle.pywheel_core.specs.declared.error.WheelError.TheVariants as wheel
use Rattle.pywheel_core.specs.declared.span.Span.{Span}
use Rattle.pywheel_core.proofs.Lemmas.Tag.Pieces.{SetStands, TagStands, made_of, set_spans, tag_stands, tag_taken}

-- ---- one byte

pub lower_eq : (c b : ℕ) → c < 65 → (to_ascii_lowercase b == c) ≡ (b == c)
lower_eq c b small = grind (arith, nat_tests, small)

lower_tag_byte : (b : ℕ) → is_word_byte (to_ascii_lowercase b) ≡ is_word_byte b
lower_tag_byte b = grind (arith, nat_tests)

-- ---- parts

lower_bytes : (s : List ℕ) → list_all is_word_byte (str_to_ascii_lowercase s) ≡ list_all is_word_byte s
lower_bytes [] = refl
lower_bytes (b ∷ s) = λ i. lower_tag_byte b i && lower_bytes s i

lower_length : (s : List ℕ) → length (str_to_ascii_lowercase s) ≡ length s
lower_length s = length-map s to_ascii_lowercase

pub lower_part : (s : List ℕ) → is_tag_part (str_to_ascii_lowercase s) ≡ is_tag_part s
lower_part s = λ i. nat_lt 0 (lower_length s i) && lower_bytes s i

pub lower_is_tag : (s : TagParts) → is_tag (lower_set s) ≡ is_tag s
lower_is_tag s = λ i. lower_part s.0 i && (lower_part s.1 i && lower_part s.2 i)

-- ---- cuts

before_map : (b : ℕ) (o : Option (List ℕ × List ℕ))
    → option_map (before_cut (to_ascii_lowercase b)) (option_map (λ x. (str_to_ascii_lowercase x.0, str_to_ascii_lowercase x.1)) o)
    ≡ option_map (λ x. (str_to_ascii_lowercase x.0, str_to_ascii_lowercase x.1)) (option_map (before_cut b) o)
before_map b None = refl
before_map b (Some x) = refl

lower_cut : (s : List ℕ) → cut_at 45 (str_to_ascii_lowercase s) ≡ option_map (λ x. (str_to_ascii_lowercase x.0, str_to_ascii_lowercase x.1)) (cut_at 45 s)
lower_cut [] = refl
lower_cut (b ∷ s) = elim (cases_Bool (b == 45)) [
  | inl e ↦ let q = lower_eq 45 b (omega arith) ∙ e in rw (q, e) refl
  | inr e ↦ let q = lower_eq 45 b (omega arith) ∙ e in rw (q, e) (ap (option_map (before_cut (to_ascii_lowercase b))) (lower_cut s) ∙ before_map b (cut_at 45 s))
]

lower_cut_none : (s : List ℕ) → cut_at 45 s ≡ None → cut_at 45 (str_to_ascii_lowercase s) ≡ None
lower_cut_none s e = lower_cut s ∙ ap (option_map (λ x. (str_to_ascii_lowercase x.0, str_to_ascii_lowercase x.1))) e

lower_cut_some : (s x y : List ℕ) → cut_at 45 s ≡ Some (x, y) → cut_at 45 (str_to_ascii_lowercase s) ≡ Some (str_to_ascii_lowercase x, str_to_ascii_lowercase y)
lower_cut_some s x y e = lower_cut s ∙ ap (option_map (λ z. (str_to_ascii_lowercase z.0, str_to_ascii_lowercase z.1))) e

pub lower_three_parts : (s : List ℕ) → three_parts 45 (str_to_ascii_lowercase s) ≡ option_map lower_set (three_parts 45 s)
unfolding three_parts
lower_three_parts s = elim (option_cases (cut_at 45 s)) [
  | inl none ↦ let n = lower_cut_none s none in rw (n, none) refl
  | inr f ↦
      let x = f.1 in
      let m = lower_cut_some s f.0.0 f.0.1 f.1 in
      elim (option_cases (cut_at 45 f.0.1)) [
        | inl none ↦ let n = lower_cut_none f.0.1 none in rw (m, x, n, none) refl
        | inr g ↦
            let y = g.1 in
            let k = lower_cut_some f.0.1 g.0.0 g.0.1 g.1 in
            elim (option_cases (cut_at 45 g.0.1)) [
              | inl none ↦ let n = lower_cut_none g.0.1 none in rw (m, x, k, y, n, none) refl
              | inr h ↦ let z = h.1 in let n = lower_cut_some g.0.1 h.0.0 h.0.1 h.1 in rw (m, x, k, y, n, z) refl
            ]
      ]
]

-- ---- one tag

pub no_tag : (text : List ℕ) → three_parts 45 text ≡ None → tag_of text ≡ Err tag.Shape
unfolding tag_of
no_tag text h = let e : three_parts 45 (str_to_ascii_lowercase text) ≡ None = lower_three_parts text ∙ ap (option_map lower_set) h in rw e refl

pub bad_tag : (text : List ℕ) (s : TagParts) → three_parts 45 text ≡ Some s → is_tag s ≡ false → tag_of text ≡ Err tag.Shape
unfolding tag_of
bad_tag text s h bad =
    let e : three_parts 45 (str_to_ascii_lowercase text) ≡ Some (lower_set s) = lower_three_parts text ∙ ap (option_map lower_set) h in
    let f = lower_is_tag s ∙ bad in
    rw (e, f) refl

-- the spans of three parts of these lengths
abbrev spans_at_lengths : ℕ → ℕ → ℕ → Span × Span × Span
spans_at_lengths n m k = (
  record { start = 0; end = n },
  record { start = n + 1; end = n + 1 + m },
  record { start = n + 1 + m + 1; end = n + 1 + m + 1 + k },
)

lower_spans : (s : TagParts) → spans_of s ≡ spans_of (lower_set s)
lower_spans s = sym (λ i. spans_at_lengths (lower_length s.0 i) (lower_length s.1 i) (lower_length s.2 i))

-- the spans of a text's parts in it in lower case, and that the tag is what stands there
pub tag_lowered : (text lower : List ℕ) (s : TagParts) (x : Span × Span × Span) → lower ≡ str_to_ascii_lowercase text → three_parts 45 text ≡ Some s → is_tag s ≡ true → x ≡ spans_of s
    → TagStands lower (lower_set s) x × (tag_of text ≡ Ok (tag_with (lower_set s)))
tag_lowered text lower s x e h ok made =
    let cut : three_parts 45 lower ≡ Some (lower_set s) = ap (three_parts 45) e ∙ (lower_three_parts text ∙ ap (option_map lower_set) h) in
    let is = lower_is_tag s ∙ ok in
    (tag_stands lower (lower_set s) x (made ∙ lower_spans s) cut is, tag_taken text lower (lower_set s) e cut is)

-- ---- pieces

onto_lower : (b : ℕ) (ps : List (List ℕ)) → onto_first (to_ascii_lowercase b) (map str_to_ascii_lowercase ps) ≡ map str_to_ascii_lowercase (onto_first b ps)
onto_lower b [] = refl
onto_lower b (p ∷ ps) = refl

lower_pieces : (s : List ℕ) → pieces (str_to_ascii_lowercase s) ≡ map str_to_ascii_lowercase (pieces s)
lower_pieces [] = refl
lower_pieces (b ∷ s) = elim (cases_Bool (b == 46)) [
  | inl e ↦ let q = lower_eq 46 b (omega arith) ∙ e in rw (q, e) (ap (λ l. [] ∷ l) (lower_pieces s))
  | inr e ↦ let q = lower_eq 46 b (omega arith) ∙ e in rw (q, e) (ap (onto_first (to_ascii_lowercase b)) (lower_pieces s) ∙ onto_lower b (pieces s))
]

lower_parts : (ps : List (List ℕ)) → are_tag_parts (map str_to_ascii_lowercase ps) ≡ are_tag_parts ps
lower_parts [] = refl
lower_parts (p ∷ ps) = λ i. lower_part p i && lower_parts ps i

lower_are : (s : List ℕ) → are_tag_parts (pieces (str_to_ascii_lowercase s)) ≡ are_tag_parts (pieces s)
lower_are s = ap are_tag_parts (lower_pieces s) ∙ lower_parts (pieces s)

lower_count : (s : List ℕ) → length (pieces (str_to_ascii_lowercase s)) ≡ length (pieces s)
lower_count s = ap length (lower_pieces s) ∙ length-map (pieces s) str_to_ascii_lowercase

lower_is_set : (s : TagParts) → is_tag_set (lower_set s) ≡ is_tag_set s
lower_is_set s = λ i. (lower_are s.0 i && (lower_are s.1 i && lower_are s.2 i)) && nat_le (lower_count s.0 i * (lower_count s.1 i * lower_count s.2 i)) TAGS_LIMIT

lower_from : (start : ℕ) (ps : List (List ℕ)) → spans_from start (map str_to_ascii_lowercase ps) ≡ spans_from start ps
lower_from start [] = refl
lower_from start (p ∷ ps) = (λ i. record { start = start; end = start + lower_length p i } ∷ spans_from (start + lower_length p i + 1) (map str_to_ascii_lowercase ps))
    ∙ ap (λ l. record { start = start; end = start + length p } ∷ l) (lower_from (start + length p + 1) ps)

pieces_from : (start : ℕ) (s : List ℕ) → spans_from start (pieces (str_to_ascii_lowercase s)) ≡ spans_from start (pieces s)
pieces_from start s = ap (spans_from start) (lower_pieces s) ∙ lower_from start (pieces s)

-- ---- compressed tag sets

pub lower_cut_set : (text : List ℕ) (s : TagParts) → three_parts 45 text ≡ Some s → three_parts 45 (str_to_ascii_lowercase text) ≡ Some (lower_set s)
lower_cut_set text s h = lower_three_parts text ∙ ap (option_map lower_set) h

abbrev pub made_tags : List TagValue → Result (List TagValue) WheelError
made_tags tags = Ok tags

pub set_read : (text lower : List ℕ) (s : TagParts) (tags : List TagValue) → lower ≡ str_to_ascii_lowercase text → three_parts 45 text ≡ Some s → is_tag_set s ≡ true
    → made_tags (tags_in (lower_set s)) ≡ made_tags tags → tag_set_in text ≡ Ok (lower, tags)
unfolding tag_set_in set_tags_in
set_read text lower s tags is h ok made =
    let e = lower_cut_set text s h in
    let f = lower_is_set s ∙ ok in
    let same : tags_in (lower_set s) ≡ tags = cc in rw (e, f) (λ i. Ok (sym is i, same i))

pub set_refused : (text : List ℕ) (s : TagParts) → three_parts 45 text ≡ Some s → (is_tag_set s ≡ true → ⊥) → tag_set_in text ≡ Err wheel.Tags
unfolding tag_set_in set_tags_in
set_refused text s h bad = elim (cases_Bool (is_tag_set s)) [
  | inl e ↦ absurd (bad e)
  | inr fails ↦ let e = lower_cut_set text s h in let f = lower_is_set s ∙ fails in rw (e, f) refl
]

-- the spans of the pieces of a text's parts in it in lower case
pub set_lowered : (text lower : List ℕ) (s : TagParts) (x : Span × Span × Span) (ps bs qs : List Span) → lower ≡ str_to_ascii_lowercase text → x ≡ spans_of s
    → made_of (spans_from x.0.start (pieces s.0)) ≡ made_of ps
    → made_of (spans_from x.1.start (pieces s.1)) ≡ made_of bs
    → made_of (spans_from x.2.start (pieces s.2)) ≡ made_of qs
    → three_parts 45 text ≡ Some s → is_tag_set s ≡ true → SetStands lower (lower_set s) ps bs qs
set_lowered text lower s x ps bs qs e made p b q h ok =
    set_spans lower (lower_set s) x ps bs qs (made ∙ lower_spans s)
    (ap made_of (pieces_from x.0.start s.0) ∙ p) (ap made_of (pieces_from x.1.start s.1) ∙ b) (ap made_of (pieces_from x.2.start s.2) ∙ q)
    (ap (three_parts 45) e ∙ lower_cut_set text s h) (lower_is_set s ∙ ok)
