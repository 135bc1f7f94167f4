-- Where the parts of a tag set and their pieces stand in its text.
use Rattle.std.proofs.Common.{◌≡◌, ℕ, ◌+◌, ◌*◌, ◌-◌, ◌≤◌, true, ◌==◌, ◌&&◌, List, [], ◌∷◌, ◌++◌, length, map, take, drop, Some, None, Result, Ok, refl, sym, ap, subst, ◌∙◌, inl, inr, arith}
use Rattle.std.specs.Char.{is_ascii}
use Rattle.std.specs.Str.{str_to_ascii_lowercase}
use Rattle.std.specs.List.{flat_map, join_with_byte, list_all}
use Rattle.std.proofs.Math.Seq.{drop-append_seam, take-append_seam}
use Rattle.std.proofs.lemmas.Bool.Decides.{nat_tests}
use Rattle.std.proofs.Math.Nat.{le-mul_of_pos_right, mul_comm}
use Rattle.std.proofs.lemmas.List.{append-nil, append_assoc, length-append}
use Rattle.std.proofs.lemmas.Option.{same_Some}
use Rattle.std.proofs.lemmas.Simd.{map-map}
use Rattle.std.proofs.lemmas.List.Elements.{All-cons}
use Rattle.std.proofs.lemmas.List.Folds.{flat_map-map, list_all-append}
use Rattle.std.proofs.lemmas.List.Splits.{join_with_byte-slice_split, length-slice_split}
use Rattle.std.proofs.lemmas.Bool.{and_parts}
use Rattle.pytext.proofs.OptionsLemmas.{option_cases}
use Rattle.pywheel_core.specs.Spans.{AreWithin, IsAsciiText, IsWithin, at, spans_from, spans_of, tag_at}
use Rattle.pytext.specs.Bytes.{is_word_byte}
use Rattle.pywheel_core.specs.Tag.{TagParts, are_tag_parts, has_tag_parts, is_tag, is_tag_part, is_tag_set, pieces, tag_of, tag_with, tags_in, triples}
use Rattle.pywheel_core.specs.Texts.{cut_at, three_parts}
use Rattle.pywheel_core.specs.declared.error.WheelError.{WheelError}
use Rattle.pywheel_core.specs.declared.span.Span.{Span}
use Rattle.pywheel_core.proofs.Lemmas.Texts.Cuts.{Lacks, cut_says, no_cut_says}

-- ---- a piece at its span

at_front : (text front piece back : List ℕ) (start : ℕ) → start ≡ length front → text ≡ front ++ (piece ++ back)
    → at text (record { start = start; end = start + length piece }) ≡ piece
at_front text front piece back start e h =
    let n : start + length piece - start ≡ length piece = omega arith in
    (λ i. take (n i) (drop (e i) (h i))) ∙ (ap (take (length piece)) (drop-append_seam front (piece ++ back)) ∙ take-append_seam piece back)

within_front : (text front piece back : List ℕ) (start : ℕ) → start ≡ length front → text ≡ front ++ (piece ++ back)
    → IsWithin text (record { start = start; end = start + length piece })
within_front text front piece back start e h =
    let n : length text ≡ length front + (length piece + length back) = ap length h ∙ (length-append front (piece ++ back) ∙ ap (λ k. length front + k) (length-append piece back)) in
    (omega arith, omega (arith, n, e))

pub pieces_stand : (text front : List ℕ) (ps : List (List ℕ)) (back : List ℕ) (start : ℕ) → start ≡ length front
    → text ≡ front ++ (join_with_byte 46 ps ++ back)
    → (map (at text) (spans_from start ps) ≡ ps) × AreWithin text (spans_from start ps)
pieces_stand text front [] back start e h = (refl, λ k d l. absurd (omega arith))
pieces_stand text front (p ∷ []) back start e h = (
  ap (λ x. x ∷ []) (at_front text front p back start e h),
  All-cons (IsWithin text) (record { start = start; end = start + length p }) [] (within_front text front p back start e h) (λ k d l. absurd (omega arith)),
)
pieces_stand text front (p ∷ (q ∷ ps)) back start e h =
    let rest = join_with_byte 46 (q ∷ ps) in
    let whole : text ≡ front ++ (p ++ ((46 ∷ rest) ++ back)) = h ∙ ap (λ l. front ++ l) (append_assoc p (46 ∷ rest) back) in
    let further : text ≡ (front ++ (p ++ (46 ∷ []))) ++ (rest ++ back) =
    whole ∙ (ap (λ l. front ++ l) (sym (append_assoc p (46 ∷ []) (rest ++ back))) ∙ sym (append_assoc front (p ++ (46 ∷ [])) (rest ++ back))) in
    let n : length (front ++ (p ++ (46 ∷ []))) ≡ length front + (length p + 1) = length-append front (p ++ (46 ∷ [])) ∙ ap (λ k. length front + k) (length-append p (46 ∷ [])) in
    let others = pieces_stand text (front ++ (p ++ (46 ∷ []))) (q ∷ ps) back (start + length p + 1) (omega (arith, n, e)) further in (
      (λ i. at_front text front p ((46 ∷ rest) ++ back) start e whole i ∷ others.0 i),
      All-cons (IsWithin text) (record { start = start; end = start + length p }) (spans_from (start + length p + 1) (q ∷ ps)) (within_front text front p ((46 ∷ rest) ++ back) start e whole) others.1,
    )

-- the whole part at its span
pub whole_stands : (text front part back : List ℕ) (start : ℕ) → start ≡ length front → text ≡ front ++ (part ++ back)
    → (at text (record { start = start; end = start + length part }) ≡ part) × IsWithin text (record { start = start; end = start + length part })
whole_stands text front part back start e h = (at_front text front part back start e h, within_front text front part back start e h)

-- ---- three parts

pub three_say : (c : ℕ) (text : List ℕ) (s : TagParts) → three_parts c text ≡ Some s
    → (text ≡ s.0 ++ (c ∷ (s.1 ++ (c ∷ s.2)))) × Lacks c s.0 × Lacks c s.1 × Lacks c s.2
unfolding three_parts
three_say c text s h = elim (option_cases (cut_at c text)) [
  | inl none ↦ absurd (let z : None ≡ Some s = rw none at h in cc)
  | inr f ↦ let h2 = rw f.1 at h in elim (option_cases (cut_at c f.0.1)) [
    | inl none ↦ absurd (let z : None ≡ Some s = rw none at h2 in cc)
    | inr g ↦ let h3 = rw g.1 at h2 in elim (option_cases (cut_at c g.0.1)) [
      | inl none ↦
          let z : Some (f.0.0, g.0.0, g.0.1) ≡ Some s = rw none at h3 in
          let p : (f.0.0, g.0.0, g.0.1) ≡ s = same_Some (f.0.0, g.0.0, g.0.1) s z in
          let first = cut_says c text f.0.0 f.0.1 f.1 in
          let second = cut_says c f.0.1 g.0.0 g.0.1 g.1 in
          subst (λ x. (text ≡ x.0 ++ (c ∷ (x.1 ++ (c ∷ x.2)))) × Lacks c x.0 × Lacks c x.1 × Lacks c x.2) p
          (first.0 ∙ ap (λ l. f.0.0 ++ (c ∷ l)) second.0, first.1, second.1, no_cut_says c g.0.1 none)
      | inr more ↦ absurd (let z : None ≡ Some s = rw more.1 at h3 in cc)
    ]
  ]
]

-- ---- ASCII

tag_byte_ascii : (b : ℕ) → is_word_byte b ≡ true → is_ascii b ≡ true
tag_byte_ascii b h = grind (arith, nat_tests)

bytes_ascii : (s : List ℕ) → list_all is_word_byte s ≡ true → IsAsciiText s
bytes_ascii [] h = refl
bytes_ascii (b ∷ s) h =
    let p = and_parts (is_word_byte b) (list_all is_word_byte s) h in
    let e = tag_byte_ascii b p.0 in rw e (bytes_ascii s p.1)

pub part_ascii : (s : List ℕ) → is_tag_part s ≡ true → IsAsciiText s
part_ascii s h = bytes_ascii s (and_parts _ (list_all is_word_byte s) h).1

both_ascii : (s t : List ℕ) → IsAsciiText s → IsAsciiText t → IsAsciiText (s ++ t)
both_ascii s t h g = list_all-append is_ascii s t ∙ rw (h, g) refl

joined_ascii : (ps : List (List ℕ)) → are_tag_parts ps ≡ true → IsAsciiText (join_with_byte 46 ps)
joined_ascii [] h = refl
joined_ascii (p ∷ []) h = part_ascii p (and_parts (is_tag_part p) true h).0
joined_ascii (p ∷ (q ∷ ps)) h =
    let x = and_parts (is_tag_part p) (are_tag_parts (q ∷ ps)) h in
    both_ascii p (46 ∷ join_with_byte 46 (q ∷ ps)) (part_ascii p x.0) (joined_ascii (q ∷ ps) x.1)

pub pieces_ascii : (s : List ℕ) → are_tag_parts (pieces s) ≡ true → IsAsciiText s
pieces_ascii s h = subst IsAsciiText (join_with_byte-slice_split 46 s) (joined_ascii (pieces s) h)

pub three_ascii : (text p a q : List ℕ) → text ≡ p ++ (45 ∷ (a ++ (45 ∷ q))) → IsAsciiText p → IsAsciiText a → IsAsciiText q → IsAsciiText text
three_ascii text p a q h x y z = subst IsAsciiText (sym h) (both_ascii p (45 ∷ (a ++ (45 ∷ q))) x (both_ascii a (45 ∷ q) y z))

-- ---- all triples

pub triples_at : (text : List ℕ) (pythons abis platforms : List Span)
    → flat_map (λ p. flat_map (λ a. map (λ q. tag_at text p a q) platforms) abis) pythons ≡ triples (map (at text) pythons) (map (at text) abis) (map (at text) platforms)
triples_at text pythons abis platforms = sym (flat_map-map (λ python. flat_map (λ abi. map (λ platform. record { python = python; abi = abi; platform = platform }) (map (at text) platforms)) (map (at text) abis)) (at text) pythons
    ∙ (λ i. flat_map (λ p. (flat_map-map (λ abi. map (λ platform. record { python = at text p; abi = abi; platform = platform }) (map (at text) platforms)) (at text) abis
    ∙ (λ j. flat_map (λ a. map-map (λ platform. record { python = at text p; abi = at text a; platform = platform }) (at text) platforms j) abis)) i) pythons))

-- ---- the three parts in their text

-- the part stands there in the text
abbrev pub Stands : List ℕ → List ℕ → ℕ → Type 0
Stands text part start = (front : List ℕ) × (back : List ℕ) × (start ≡ length front) × (text ≡ front ++ (part ++ back))

pub three_stand : (text : List ℕ) (s : TagParts) → three_parts 45 text ≡ Some s
    → Stands text s.0 0 × Stands text s.1 (length s.0 + 1) × Stands text s.2 (length s.0 + 1 + length s.1 + 1)
three_stand text s h =
    let whole = (three_say 45 text s h).0 in
    let second : text ≡ (s.0 ++ (45 ∷ [])) ++ (s.1 ++ (45 ∷ s.2)) = whole ∙ sym (append_assoc s.0 (45 ∷ []) (s.1 ++ (45 ∷ s.2))) in
    let third : text ≡ ((s.0 ++ (45 ∷ [])) ++ (s.1 ++ (45 ∷ []))) ++ (s.2 ++ []) =
    second ∙ (ap (λ l. (s.0 ++ (45 ∷ [])) ++ l) (sym (append_assoc s.1 (45 ∷ []) s.2)) ∙ (sym (append_assoc (s.0 ++ (45 ∷ [])) (s.1 ++ (45 ∷ [])) s.2)
    ∙ ap (λ l. ((s.0 ++ (45 ∷ [])) ++ (s.1 ++ (45 ∷ []))) ++ l) (sym (append-nil s.2)))) in
    let n : length (s.0 ++ (45 ∷ [])) ≡ length s.0 + 1 = length-append s.0 (45 ∷ []) in
    let m : length (s.1 ++ (45 ∷ [])) ≡ length s.1 + 1 = length-append s.1 (45 ∷ []) in
    let k = length-append (s.0 ++ (45 ∷ [])) (s.1 ++ (45 ∷ [])) in (
      ([], 45 ∷ (s.1 ++ (45 ∷ s.2)), refl, whole),
      (s.0 ++ (45 ∷ []), 45 ∷ s.2, sym n, second),
      ((s.0 ++ (45 ∷ [])) ++ (s.1 ++ (45 ∷ [])), [], omega (arith, n, m, k), third),
    )

-- what a compressed tag set's text is, and the spans of the pieces in it
pub record SetStands (text : List ℕ) (s : TagParts) (pythons abis platforms : List Span) : Type 0 where
  pub ascii : IsAsciiText text
  pub pythons_within : AreWithin text pythons
  pub abis_within : AreWithin text abis
  pub platforms_within : AreWithin text platforms
  pub tags : flat_map (λ p. flat_map (λ a. map (λ q. tag_at text p a q) platforms) abis) pythons ≡ tags_in s

-- the pieces of a part that stands in the text
part_spanned : (text part : List ℕ) (start : ℕ) → Stands text part start
    → (map (at text) (spans_from start (pieces part)) ≡ pieces part) × AreWithin text (spans_from start (pieces part))
part_spanned text part start (front, back, e, h) =
    pieces_stand text front (pieces part) back start e (h ∙ ap (λ l. front ++ (l ++ back)) (sym (join_with_byte-slice_split 46 part)))

pub set_stands : (text : List ℕ) (s : TagParts) → three_parts 45 text ≡ Some s → is_tag_set s ≡ true
    → SetStands text s (spans_from 0 (pieces s.0)) (spans_from (length s.0 + 1) (pieces s.1)) (spans_from (length s.0 + 1 + length s.1 + 1) (pieces s.2))
set_stands text s h ok =
    let all = (and_parts (has_tag_parts s) _ ok).0 in
    let x = and_parts (are_tag_parts (pieces s.0)) (are_tag_parts (pieces s.1) && are_tag_parts (pieces s.2)) all in
    let y = and_parts (are_tag_parts (pieces s.1)) (are_tag_parts (pieces s.2)) x.1 in
    let stand = three_stand text s h in
    let python = part_spanned text s.0 0 stand.0 in
    let abi = part_spanned text s.1 (length s.0 + 1) stand.1 in
    let platform = part_spanned text s.2 (length s.0 + 1 + length s.1 + 1) stand.2 in
    record {
      ascii = three_ascii text s.0 s.1 s.2 (three_say 45 text s h).0 (pieces_ascii s.0 x.0) (pieces_ascii s.1 y.0) (pieces_ascii s.2 y.1);
      pythons_within = python.1;
      abis_within = abi.1;
      platforms_within = platform.1;
      tags = triples_at text (spans_from 0 (pieces s.0)) (spans_from (length s.0 + 1) (pieces s.1)) (spans_from (length s.0 + 1 + length s.1 + 1) (pieces s.2))
          ∙ (λ i. triples (python.0 i) (abi.0 i) (platform.0 i));
    }

abbrev pub made_of : List Span → Result (List Span) WheelError
made_of spans = Ok spans

-- the same of the spans that the code made
pub set_spans : (text : List ℕ) (s : TagParts) (x : Span × Span × Span) (ps bs qs : List Span) → x ≡ spans_of s
    → made_of (spans_from x.0.start (pieces s.0)) ≡ made_of ps
    → made_of (spans_from x.1.start (pieces s.1)) ≡ made_of bs
    → made_of (spans_from x.2.start (pieces s.2)) ≡ made_of qs
    → three_parts 45 text ≡ Some s → is_tag_set s ≡ true → SetStands text s ps bs qs
set_spans text s x ps bs qs made p b q h ok =
    let ps_are : spans_from x.0.start (pieces s.0) ≡ ps = cc in
    let bs_are : spans_from x.1.start (pieces s.1) ≡ bs = cc in
    let qs_are : spans_from x.2.start (pieces s.2) ≡ qs = cc in
    let first : spans_from 0 (pieces s.0) ≡ ps = ap (λ y. spans_from y.0.start (pieces s.0)) (sym made) ∙ ps_are in
    let second : spans_from (length s.0 + 1) (pieces s.1) ≡ bs = ap (λ y. spans_from y.1.start (pieces s.1)) (sym made) ∙ bs_are in
    let third : spans_from (length s.0 + 1 + length s.1 + 1) (pieces s.2) ≡ qs = ap (λ y. spans_from y.2.start (pieces s.2)) (sym made) ∙ qs_are in
    let P : List Span × List Span × List Span → Type 0 = λ t. SetStands text s t.0 t.1 t.2 in
    subst P (λ i. (first i, second i, third i)) (set_stands text s h ok)

-- ---- how many

pub product_le : (s : List ℕ) (x : ℕ) → x ≤ length (pieces s) * x
product_le s x =
    let one : length (pieces s) ≡ _ + 1 = length-slice_split (λ b. b == 46) s in
    subst (λ n. x ≤ n) (mul_comm x (length (pieces s))) (le-mul_of_pos_right x (omega (arith, one)))

-- ---- one tag

pub three_length : (text : List ℕ) (s : TagParts) → three_parts 45 text ≡ Some s → length text ≡ length s.0 + length s.1 + length s.2 + 2
three_length text s h =
    let whole = ap length (three_say 45 text s h).0 in
    let first = length-append s.0 (45 ∷ (s.1 ++ (45 ∷ s.2))) in
    let second = length-append s.1 (45 ∷ s.2) in
    omega (arith, whole, first, second)

pub record TagStands (text : List ℕ) (s : TagParts) (x : Span × Span × Span) : Type 0 where
  pub ascii : IsAsciiText text
  pub python : IsWithin text x.0
  pub abi : IsWithin text x.1
  pub platform : IsWithin text x.2
  pub value : tag_at text x.0 x.1 x.2 ≡ tag_with s

tag_stands_at : (text : List ℕ) (s : TagParts) → three_parts 45 text ≡ Some s → is_tag s ≡ true → TagStands text s (spans_of s)
tag_stands_at text s h ok =
    let x = and_parts (is_tag_part s.0) (is_tag_part s.1 && is_tag_part s.2) ok in
    let y = and_parts (is_tag_part s.1) (is_tag_part s.2) x.1 in
    let stand = three_stand text s h in
    let P : ℕ → Type 0 = λ n. (at text (record { start = 0; end = n }) ≡ s.0) × IsWithin text (record { start = 0; end = n }) in
    let none : 0 + length s.0 ≡ length s.0 = omega arith in
    let python = subst P none (whole_stands text stand.0.0 s.0 stand.0.1 0 stand.0.2 stand.0.3) in
    let abi = whole_stands text stand.1.0 s.1 stand.1.1 (length s.0 + 1) stand.1.2 stand.1.3 in
    let platform = whole_stands text stand.2.0 s.2 stand.2.1 (length s.0 + 1 + length s.1 + 1) stand.2.2 stand.2.3 in
    record {
      ascii = three_ascii text s.0 s.1 s.2 (three_say 45 text s h).0 (part_ascii s.0 x.0) (part_ascii s.1 y.0) (part_ascii s.2 y.1);
      python = python.1;
      abi = abi.1;
      platform = platform.1;
      value = λ i. record { python = python.0 i; abi = abi.0 i; platform = platform.0 i };
    }

pub tag_stands : (text : List ℕ) (s : TagParts) (x : Span × Span × Span) → x ≡ spans_of s → three_parts 45 text ≡ Some s → is_tag s ≡ true → TagStands text s x
tag_stands text s x made h ok = subst (TagStands text s) (sym made) (tag_stands_at text s h ok)

pub tag_taken : (text lower : List ℕ) (s : TagParts) → lower ≡ str_to_ascii_lowercase text → three_parts 45 lower ≡ Some s → is_tag s ≡ true → tag_of text ≡ Ok (tag_with s)
unfolding tag_of
tag_taken text lower s e h ok = let g : three_parts 45 (str_to_ascii_lowercase text) ≡ Some s = ap (three_parts 45) (sym e) ∙ h in rw (g, ok) refl
