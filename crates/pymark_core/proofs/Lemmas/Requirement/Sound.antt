-- What is read of a requirement, the text is.
use Rattle.std.proofs.Common.{◌≡◌, ℕ, ◌+◌, ◌-◌, ◌<◌, ◌≤◌, Bool, true, false, not, ◌&&◌, ◌||◌, List, [], ◌∷◌, ◌++◌, length, take, drop, map, get_or, Option, Some, None, ok_or, Result, Ok, Err, ◌∙◌, ap, refl, sym, subst, inl, inr, append_assoc, append-nil, arith}
use Rattle.std.specs.Prelude.{IfOk, ◌==◌, nat_lt, option_map, slice_get, unwrap_or}
use Rattle.std.specs.List.{list_all, list_any, prefix_len, slice_split}
use Rattle.std.proofs.lemmas.Bool.{ltb-false, cases_Bool}
use Rattle.std.proofs.lemmas.Bool.Decides.{Decides-eqb, Decides-ltb}
use Rattle.std.proofs.lemmas.List.{drop_all, drop_more, take-append-drop, take_all}
use Rattle.std.proofs.lemmas.List.Sums.{prefix_len_stops}
use Rattle.std.proofs.lemmas.List.Folds.{length-prefix_len}
use Rattle.std.proofs.lemmas.Option.{slice_get-get_or}
use Rattle.pytext.specs.Agreement.{Gives}
use Rattle.pytext.specs.Bytes.{is_name_byte, is_white, starts}
use Rattle.pyver_core.specs.Name.{is_name}
use Rattle.pyver_core.specs.Parsed.{parsed_set}
use Rattle.pytext.specs.Results.{◌>>=◌}
use Rattle.pyver_core.specs.Set.Reading.{set_of, specifiers_of}
use Rattle.pytext.specs.White.{after_white, trim_white}
use Rattle.pyver_core.specs.declared.set.specifier.Specifier.{Specifier}
use Rattle.pytext.proofs.BytesLemmas.{list_all_prefix, starts_drop}
use Rattle.pytext.proofs.WhiteLemmas.{after_white_splits}
use Rattle.pytext.proofs.ResultsLemmas.{bind_ok, if_ok, ok_or_some}
use Rattle.pymark_core.specs.Marker.Reading.{MarkerValue, marker_of}
use Rattle.pymark_core.specs.Requirement.Grammar.{ExtrasText, IsExtras, IsGap, IsWithin, Lacks, MarkerPart, RequirementText, SourceText}
use Rattle.pymark_core.specs.Requirement.Reading.{SourceParts, cut_around, before_last, after_byte, cut_or_whole, extra_in, extras_at, extras_after_bracket, extras_from, extras_in, marker_in, marker_text_at, name_at, names_in, refused_as, requirement_of, set_source, source_at, source_from, url_len, url_source, within_from, within_parentheses}
use Rattle.pymark_core.specs.Requirement.Value.{RequirementValue}
use Rattle.pymark_core.specs.declared.requirement.error.RequirementError.{RequirementError}
use Rattle.pymark_core.specs.declared.requirement.error.RequirementError.TheVariants as refusal
use Rattle.pymark_core.proofs.ChoiceLemmas.{cond_cases}

-- ---- steps

pub unrefused : {A E : Type 0} (refusal : RequirementError) (r : Result A E) (x : A) → refused_as refusal r ≡ Ok x → r ≡ Ok x
unrefused refusal (Ok z) x e = let same : z ≡ x = cc in ap Ok same
unrefused refusal (Err r) x e = absurd cc

gap_sound : (text : List ℕ) → (white : List ℕ) × (text ≡ white ++ after_white text) × IsGap white (after_white text)
gap_sound text = let white = after_white_splits text in (white.0, white.1, record { all = white.2; ends = starts_drop is_white text })

-- ---- the name

name_sound : (text name next : List ℕ) → name_at text ≡ Ok (name, next) → (text ≡ name ++ next) × (is_name name ≡ true) × (starts is_name_byte next ≡ false)
unfolding name_at
name_sound text name next e =
    let n = prefix_len is_name_byte text in
    let c = if_ok (is_name (take n text)) (take n text, drop n text) (name, next) refusal.Name e in
    let front : take n text ≡ name = ap (λ x. x.0) c.1 in
    let back : drop n text ≡ next = ap (λ x. x.1) c.1 in
    (sym (take-append-drop n text) ∙ (λ i. front i ++ back i), ap is_name (sym front) ∙ c.0, ap (starts is_name_byte) (sym back) ∙ starts_drop is_name_byte text)

-- ---- cuts

after_byte_sound : (byte : ℕ) (text rest : List ℕ) → after_byte byte text ≡ Some rest → text ≡ byte ∷ rest
after_byte_sound byte [] rest e = absurd cc
after_byte_sound byte (b ∷ t) rest e = elim (cond_cases (b == byte) (Some t) None (Some rest) e) [
  | inl w ↦ let next : t ≡ rest = cc in (λ i. (Decides-eqb b byte).0 w.0 i ∷ next i)
  | inr w ↦ absurd cc
]

after_byte_none : (byte : ℕ) (text : List ℕ) → after_byte byte text ≡ None → starts (λ b. b == byte) text ≡ false
after_byte_none byte text e = elim (cond_cases (starts (λ b. b == byte) text) (Some (drop 1 text)) None None e) [
  | inl w ↦ absurd cc
  | inr w ↦ w.0
]

lacks_front : (byte : ℕ) (text : List ℕ) → list_all (λ b. not (b == byte)) text ≡ true → Lacks byte text
lacks_front byte [] all = refl
lacks_front byte (b ∷ rest) all =
    elim (b == byte) as (λ t. (not t && list_all (λ x. not (x == byte)) rest) ≡ true → (t || list_any (λ x. x == byte) rest) ≡ false) [
      | true ↦ λ is. absurd cc
      | false ↦ λ is. lacks_front byte rest is
    ] all

is_it : (b byte : ℕ) → not (b == byte) ≡ false → b ≡ byte
is_it b byte e = elim (cases_Bool (b == byte)) [
  | inl w ↦ (Decides-eqb b byte).0 w
  | inr w ↦ absurd (let n : not false ≡ false = ap not (sym w) ∙ e in cc)
]

cut_around_sound : (byte : ℕ) (text front back : List ℕ) → cut_around byte text ≡ Some (front, back) → (text ≡ front ++ byte ∷ back) × Lacks byte front
cut_around_sound byte text front back e =
    let test : ℕ → Bool = λ b. not (b == byte) in
    let n = prefix_len test text in
    elim (cond_cases (nat_lt n (length text)) (Some (take n text, drop (n + 1) text)) None (Some (front, back)) e) [
      | inl w ↦
          let inside = (Decides-ltb n (length text)).0 w.0 in
          let pair : ◌≡◌ {A = List ℕ × List ℕ} (take n text, drop (n + 1) text) (front, back) = cc in
          let is_front : take n text ≡ front = ap (λ x. x.0) pair in
          let is_back : drop (n + 1) text ≡ back = ap (λ x. x.1) pair in
          let at : get_or text n 0 ≡ byte = is_it (get_or text n 0) byte (prefix_len_stops test text 0 inside) in (
            sym (take-append-drop n text) ∙ (λ i. is_front i ++ drop_more text n 0 inside i) ∙ (λ i. front ++ at i ∷ is_back i),
            lacks_front byte front (ap (list_all test) (sym is_front) ∙ list_all_prefix test text),
          )
      | inr w ↦ absurd cc
    ]

cut_around_absent : (byte : ℕ) (text : List ℕ) → cut_around byte text ≡ None → Lacks byte text
cut_around_absent byte text e =
    let test : ℕ → Bool = λ b. not (b == byte) in
    let n = prefix_len test text in
    elim (cond_cases (nat_lt n (length text)) (Some (take n text, drop (n + 1) text)) None None e) [
      | inl w ↦ absurd cc
      | inr w ↦
          let past : length text ≤ n = ltb-false n (length text) w.0 in
          lacks_front byte text (ap (list_all test) (sym (take_all n text past)) ∙ list_all_prefix test text)
    ]

-- ---- extras

names_sound : (pieces names : List (List ℕ)) → names_in pieces ≡ Ok names → (names ≡ map trim_white pieces) × (list_all is_name names ≡ true)
unfolding names_in
names_sound [] names e = let none : names ≡ [] = cc in (none, ap (list_all is_name) none)
names_sound (piece ∷ rest) names e =
    let first = bind_ok (extra_in piece) (λ name. names_in rest >>= λ others. Ok (name ∷ others)) names e in
    let is = if_ok (is_name (trim_white piece)) (trim_white piece) first.0 refusal.Extras first.1 in
    let second = bind_ok (names_in rest) (λ others. Ok (first.0 ∷ others)) names first.2 in
    let others = names_sound rest second.0 second.1 in
    let whole : first.0 ∷ second.0 ≡ names = cc in (
      sym whole ∙ (λ i. sym is.1 i ∷ others.0 i),
      ap (list_all is_name) (sym whole)
          ∙ (λ i. is_name (sym is.1 i) && list_all is_name second.0) ∙ (λ i. is.0 i && others.1 i),
    )

extras_in_sound : (inner : List ℕ) (extras : List (List ℕ)) → extras_in inner ≡ Ok extras → IsExtras inner extras
extras_in_sound inner extras e = elim (cond_cases (list_all is_white inner) (Ok []) (names_in (slice_split (λ b. b == 44) inner)) (Ok extras) e) [
  | inl w ↦ let none : extras ≡ [] = cc in inl (w.0, none)
  | inr w ↦ let names = names_sound (slice_split (λ b. b == 44) inner) extras w.1 in inr (w.0, names.0, names.1)
]

-- what is read of extras: their text, and the text after them
extras_sound : (text : List ℕ) (extras : List (List ℕ)) (next : List ℕ) → extras_at text ≡ Ok (extras, next)
    → (front : List ℕ) × (text ≡ front ++ next) × ExtrasText front extras next
unfolding extras_at extras_after_bracket
extras_sound text extras next e = by (after_byte 91 text) refl e
  where
    by : (o : Option (List ℕ)) → after_byte 91 text ≡ o → extras_from text o ≡ Ok (extras, next) → (front : List ℕ) × (text ≡ front ++ next) × ExtrasText front extras next
    by None is e =
        let pair : ◌≡◌ {A = List (List ℕ) × List ℕ} ([], text) (extras, next) = cc in
        let same : text ≡ next = ap (λ x. x.1) pair in
        ([], same, inl (refl, ap (λ x. x.0) (sym pair), ap (starts (λ b. b == 91)) (sym same) ∙ after_byte_none 91 text is))
    by (Some rest) is e =
        let first = bind_ok (ok_or (cut_around 93 rest) refusal.Extras) (λ cut. extras_in cut.0 >>= λ found. Ok (found, cut.1)) (extras, next) e in
        let second = bind_ok (extras_in first.0.0) (λ found. Ok (found, first.0.1)) (extras, next) first.2 in
        let pair : ◌≡◌ {A = List (List ℕ) × List ℕ} (second.0, first.0.1) (extras, next) = cc in
        let cut = cut_around_sound 93 rest first.0.0 first.0.1 (ok_or_some (cut_around 93 rest) refusal.Extras first.0 first.1) in (
          91 ∷ (first.0.0 ++ 93 ∷ []),
          after_byte_sound 91 text rest is ∙ ap (λ t. 91 ∷ t) cut.0 ∙ ap (λ t. 91 ∷ (first.0.0 ++ 93 ∷ t)) (ap (λ x. x.1) pair)
              ∙ ap (λ t. 91 ∷ t) (sym (append_assoc first.0.0 (93 ∷ []) next)),
          inr (first.0.0, refl, cut.1, extras_in_sound first.0.0 extras (second.1 ∙ ap (λ x. Ok x.0) pair)),
        )

-- ---- the marker

-- how a marker's text stands in the whole
part_of : Option (List ℕ) → List ℕ
part_of None = []
part_of (Some text) = 59 ∷ text

marker_sound : (part : Option (List ℕ)) (marker : Option MarkerValue) → marker_in part ≡ Ok marker → MarkerPart (part_of part) marker
unfolding part_of
marker_sound None None e = refl
marker_sound None (Some m) e = absurd cc
marker_sound (Some text) marker e =
    let found = bind_ok (refused_as refusal.Marker (marker_of text)) (λ m. Ok (Some m)) marker e in
    let is : Some found.0 ≡ marker = cc in
    subst (MarkerPart (59 ∷ text)) is (text, refl, unrefused refusal.Marker (marker_of text) found.0 found.1)

marker_text_sound : (text : List ℕ) (part : Option (List ℕ)) → marker_text_at text ≡ Ok part → text ≡ part_of part
unfolding part_of
marker_text_sound [] part e = let is : None ≡ part = cc in ap part_of is
marker_text_sound (b ∷ rest) part e =
    let c = if_ok (b == 59) (Some rest) part refusal.Trailing e in
    (λ i. (Decides-eqb b 59).0 c.0 i ∷ rest) ∙ ap part_of c.1

-- ---- the URL

not_empty : (n : ℕ) (text url : List ℕ) → (n == 0) ≡ false → length (take n text) ≡ n → take n text ≡ url → url ≡ [] → ⊥
not_empty n text url some len front none =
    let zero_long : n ≡ 0 = sym len ∙ ap length (front ∙ none) in
    let is : (n == 0) ≡ true = (Decides-eqb n 0).1 zero_long in
    absurd cc

url_sound : (text rest : List ℕ) (s : SourceParts) (marker : Option MarkerValue) → text ≡ 64 ∷ rest → url_source (after_white rest) ≡ Ok s → marker_in s.marker ≡ Ok marker
    → SourceText text s.set s.url marker
unfolding url_source
url_sound text rest s marker at e m =
    let space : ℕ → Bool = λ b. not (is_white b) in
    let t = after_white rest in
    let n = url_len t in
    let found : (part : Option (List ℕ)) → SourceParts = λ part. record { set = []; url = Some (take n t); marker = part } in
    elim (cond_cases {X = Result SourceParts RequirementError} (n == 0) (Err refusal.Url) (marker_text_at (after_white (drop n t)) >>= λ part. Ok (found part)) (Ok s) e) [
      | inl w ↦ absurd cc
      | inr w ↦
          let part = bind_ok (marker_text_at (after_white (drop n t))) (λ part. Ok (found part)) s w.1 in
          let is : found part.0 ≡ s = cc in
          let gap = gap_sound rest in
          let second = gap_sound (drop n t) in
          let last = marker_text_sound (after_white (drop n t)) part.0 part.1 in
          let cut : t ≡ take n t ++ (second.0 ++ part_of part.0) =
          sym (take-append-drop n t) ∙ ap (λ x. take n t ++ x) second.1 ∙ ap (λ x. take n t ++ (second.0 ++ x)) last in
          let behind : drop n t ≡ second.0 ++ part_of part.0 = second.1 ∙ ap (λ x. second.0 ++ x) last in
          subst (λ (x : SourceParts). marker_in x.marker ≡ Ok marker → SourceText text x.set x.url marker) is
          (λ m. (
            refl,
            not_empty n t (take n t) w.0 (length-prefix_len space t) refl,
            record {
              gap = gap.0;
              second_gap = second.0;
              last = part_of part.0;
              whole = at ∙ ap (λ x. 64 ∷ x) gap.1 ∙ ap (λ x. 64 ∷ (gap.0 ++ x)) cut;
              is_gap = subst (IsGap gap.0) cut gap.2;
              is_url = list_all_prefix space t;
              longest = ap (starts space) (sym behind) ∙ starts_drop space t;
              is_second_gap = subst (IsGap second.0) last second.2;
              is_last = marker_sound part.0 marker m;
            },
          ))
          m
    ]

-- ---- the specifiers

before_last_sound : (text inner : List ℕ) → before_last 41 text ≡ Some inner → text ≡ inner ++ 41 ∷ []
before_last_sound [] inner e = absurd cc
before_last_sound (b ∷ rest) inner e =
    let text = b ∷ rest in
    let n = length text - 1 in
    let inside : n < length text = omega arith in
    let past : length text ≤ n + 1 = omega arith in
    elim (cond_cases (unwrap_or (option_map (λ b. b == 41) (slice_get text n)) false) (Some (take n text)) None (Some inner) e) [
      | inl w ↦
          let front : take n text ≡ inner = cc in
          let last : (get_or text n 0 == 41) ≡ true = ap (λ o. unwrap_or (option_map (λ b. b == 41) o) false) (sym (slice_get-get_or text n 0 inside)) ∙ w.0 in
          sym (take-append-drop n text) ∙ (λ i. front i ++ drop_more text n 0 inside i)
          ∙ (λ i. inner ++ (Decides-eqb (get_or text n 0) 41).0 last i ∷ drop_all (n + 1) text past i)
      | inr w ↦ absurd cc
    ]

within_sound : (text inner : List ℕ) → within_parentheses text ≡ Some inner → IsWithin text inner
within_sound text inner e = by (after_byte 40 text) refl e
  where
    by : (o : Option (List ℕ)) → after_byte 40 text ≡ o → within_from text o ≡ Some inner → IsWithin text inner
    by None is e = let same : text ≡ inner = cc in inl (same, after_byte_none 40 text is)
    by (Some rest) is e = inr (after_byte_sound 40 text rest is ∙ ap (λ t. 40 ∷ t) (before_last_sound rest inner e))

cut_sound : (text : List ℕ) → (text ≡ (cut_or_whole text (cut_around 59 text)).0 ++ part_of (cut_or_whole text (cut_around 59 text)).1) × Lacks 59 (cut_or_whole text (cut_around 59 text)).0
unfolding part_of
cut_sound text = by (cut_around 59 text) refl
  where
    by : (o : Option (List ℕ × List ℕ)) → cut_around 59 text ≡ o → (text ≡ (cut_or_whole text o).0 ++ part_of (cut_or_whole text o).1) × Lacks 59 (cut_or_whole text o).0
    by None is = (sym (append-nil text), cut_around_absent 59 text is)
    by (Some cut) is = cut_around_sound 59 text cut.0 cut.1 is

set_sound : (text : List ℕ) (s : SourceParts) (marker : Option MarkerValue) → starts (λ b. b == 64) text ≡ false → set_source text ≡ Ok s → marker_in s.marker ≡ Ok marker
    → SourceText text s.set s.url marker
unfolding set_source
set_sound text s marker no_url e m =
    let cut = cut_or_whole text (cut_around 59 text) in
    let cuts = cut_sound text in
    let found : (set : List Specifier) → SourceParts = λ set. record { set = set; url = None; marker = cut.1 } in
    let inner = bind_ok (ok_or (within_parentheses (trim_white cut.0)) refusal.Specifier) (λ inner. refused_as refusal.Specifier (parsed_set inner) >>= λ set. Ok (found set)) s e in
    let set = bind_ok (refused_as refusal.Specifier (parsed_set inner.0)) (λ set. Ok (found set)) s inner.2 in
    let is : found set.0 ≡ s = cc in
    subst (λ (x : SourceParts). marker_in x.marker ≡ Ok marker → SourceText text x.set x.url marker) is
    (λ m. record {
      declared = cut.0;
      inner = inner.0;
      last = part_of cut.1;
      whole = cuts.0;
      no_url = no_url;
      is_declared = cuts.1;
      is_inner = within_sound (trim_white cut.0) inner.0 (ok_or_some (within_parentheses (trim_white cut.0)) refusal.Specifier inner.0 inner.1);
      is_set = unrefused refusal.Specifier (parsed_set inner.0) set.0 set.1;
      is_last = marker_sound cut.1 marker m;
    })
    m

source_sound : (text : List ℕ) (s : SourceParts) (marker : Option MarkerValue) → source_at text ≡ Ok s → marker_in s.marker ≡ Ok marker → SourceText text s.set s.url marker
unfolding source_at
source_sound text s marker e m = by (after_byte 64 text) refl e
  where
    by : (o : Option (List ℕ)) → after_byte 64 text ≡ o → source_from text o ≡ Ok s → SourceText text s.set s.url marker
    by None is e = set_sound text s marker (after_byte_none 64 text is) e m
    by (Some rest) is e = url_sound text rest s marker (after_byte_sound 64 text rest is) e m

-- ---- the whole

pub requirement_sound : (text : List ℕ) (parts : RequirementValue) → requirement_of text ≡ Ok parts → RequirementText text parts
unfolding requirement_of
requirement_sound text parts e =
    let first = bind_ok (name_at (after_white text)) _ parts e in
    let second = bind_ok (extras_at (after_white first.0.1)) _ parts first.2 in
    let third = bind_ok (source_at (after_white second.0.1)) _ parts second.2 in
    let fourth = bind_ok (marker_in third.0.marker) _ parts third.2 in
    let found : RequirementValue = record { name = first.0.0; extras = second.0.0; set = third.0.set; url = third.0.url; marker = fourth.0 } in
    let is : found ≡ parts = cc in
    let before = gap_sound text in
    let gap = gap_sound first.0.1 in
    let second_gap = gap_sound second.0.1 in
    let name = name_sound (after_white text) first.0.0 first.0.1 first.1 in
    let extras = extras_sound (after_white first.0.1) second.0.0 second.0.1 second.1 in
    let source = after_white second.0.1 in
    let end : second.0.1 ≡ second_gap.0 ++ source = second_gap.1 in
    let middle : after_white first.0.1 ≡ extras.0 ++ (second_gap.0 ++ source) = extras.1 ∙ ap (λ x. extras.0 ++ x) end in
    let next : first.0.1 ≡ gap.0 ++ (extras.0 ++ (second_gap.0 ++ source)) = gap.1 ∙ ap (λ x. gap.0 ++ x) middle in
    let named : after_white text ≡ first.0.0 ++ (gap.0 ++ (extras.0 ++ (second_gap.0 ++ source))) = name.0 ∙ ap (λ x. first.0.0 ++ x) next in
    subst (RequirementText text) is (record {
      before = before.0;
      gap = gap.0;
      extras = extras.0;
      second_gap = second_gap.0;
      source = source;
      whole = before.1 ∙ ap (λ x. before.0 ++ x) named;
      is_before = subst (IsGap before.0) named before.2;
      is_name = name.1;
      longest = ap (starts is_name_byte) (sym next) ∙ name.2;
      is_gap = subst (IsGap gap.0) middle gap.2;
      is_extras = subst (ExtrasText extras.0 second.0.0) end extras.2;
      is_second_gap = second_gap.2;
      is_source = source_sound source third.0 fourth.0 third.1 fourth.1;
    })

-- ---- what a call says, over what it gives

pub given_requirement : (text : List ℕ) (r : Result RequirementValue RequirementError) → Gives refusal.Memory (λ parts. parts) r (requirement_of text) → IfOk r (λ parts. RequirementText text parts)
given_requirement text (Ok parts) gives = requirement_sound text parts gives
given_requirement text (Err e) gives = tt

-- an empty text writes the empty set
pub empty_set : parsed_set [] ≡ Ok []
unfolding parsed_set set_of specifiers_of
empty_set = refl
