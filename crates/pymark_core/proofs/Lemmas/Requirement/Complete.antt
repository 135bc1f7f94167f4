-- A requirement's text is read as the requirement that it is.
use Rattle.std.proofs.Common.{◌≡◌, ◌≢◌, ℕ, ◌+◌, ◌-◌, ◌<◌, Bool, true, false, cond, not, ◌&&◌, ◌||◌, List, [], ◌∷◌, ◌++◌, length, take, drop, map, Option, Some, None, ok_or, Result, Ok, Err, ◌∙◌, ap, refl, sym, inl, inr, append_assoc, append-nil, length-append, arith}
use Rattle.std.specs.Prelude.{◌==◌, IfErr, nat_lt, option_map, slice_get, unwrap_or}
use Rattle.std.specs.List.{after_first, before_first, list_all, list_any, position_or_len, prefix_len, slice_split}
use Rattle.std.proofs.Math.Dec.{eqb-suc-zero}
use Rattle.std.proofs.Math.Seq.{drop-append-add, take-append_seam}
use Rattle.std.proofs.lemmas.Bool.{and_parts, le-ltb}
use Rattle.std.proofs.lemmas.List.{get_or_push}
use Rattle.std.proofs.lemmas.Option.{slice_get-get_or}
use Rattle.std.proofs.lemmas.Bool.Decides.{Decides-ltb}
use Rattle.pytext.specs.Agreement.{Gives}
use Rattle.pytext.specs.Bytes.{is_name_byte, is_white, starts}
use Rattle.pyver_core.specs.Name.{is_name}
use Rattle.pyver_core.specs.Parsed.{parsed_set}
use Rattle.pytext.specs.Results.{◌>>=◌}
use Rattle.pytext.specs.White.{after_white, trim_white}
use Rattle.pyver_core.specs.declared.set.specifier.Specifier.{Specifier}
use Rattle.pytext.proofs.BytesLemmas.{drop_exact, prefix_len_exact, take_exact}
use Rattle.pytext.proofs.WhiteLemmas.{after_white_exact}
use Rattle.pymark_core.specs.Marker.Reading.{MarkerValue}
use Rattle.pymark_core.specs.Requirement.Grammar.{ExtrasText, IsExtras, IsWithin, Lacks, MarkerPart, RequirementText, SetPart, SourceText, UrlText}
use Rattle.pymark_core.specs.Requirement.Reading.{SourceParts, cut_around, after_byte, cut_or_whole, cut_source, extras_at, extras_after_bracket, extras_from, extras_in, marker_in, marker_text_at, name_at, names_in, refused_as, requirement_of, set_source, source_at, source_from, url_len, url_source, within_from, within_parentheses, before_last}
use Rattle.pymark_core.specs.Requirement.Value.{RequirementValue}
use Rattle.pymark_core.specs.declared.requirement.error.RequirementError.{RequirementError}
use Rattle.pymark_core.specs.declared.requirement.error.RequirementError.TheVariants as refusal

-- ---- the name

name_cut : (text name next : List ℕ) (n : ℕ) → take n text ≡ name → drop n text ≡ next → is_name name ≡ true
    → cond {A = Result (List ℕ × List ℕ) RequirementError} (is_name (take n text)) (Ok (take n text, drop n text)) (Err refusal.Name) ≡ Ok (name, next)
name_cut text name next n front back is =
    (λ i. cond {A = Result (List ℕ × List ℕ) RequirementError} (is_name (front i)) (Ok (front i, back i)) (Err refusal.Name))
    ∙ ap (λ b. cond {A = Result (List ℕ × List ℕ) RequirementError} b (Ok (name, next)) (Err refusal.Name)) is

pub name_complete : (name next : List ℕ) → is_name name ≡ true → starts is_name_byte next ≡ false → name_at (name ++ next) ≡ Ok (name, next)
unfolding name_at
name_complete name next is longest =
    let all = (and_parts (list_all is_name_byte name) _ is).0 in
    name_cut (name ++ next) name next (prefix_len is_name_byte (name ++ next))
    (take_exact is_name_byte name next all longest) (drop_exact is_name_byte name next all longest) is

-- ---- cuts round a byte

none_all : (byte : ℕ) (text : List ℕ) → Lacks byte text → list_all (λ b. not (b == byte)) text ≡ true
none_all byte [] lacks = refl
none_all byte (b ∷ rest) lacks =
    elim (b == byte) as (λ t. (t || list_any (λ x. x == byte) rest) ≡ false → (not t && list_all (λ x. not (x == byte)) rest) ≡ true) [
      | true ↦ λ no. absurd cc
      | false ↦ λ no. none_all byte rest no
    ] lacks

cut_around_is : (byte : ℕ) (text front back : List ℕ) (n : ℕ) → position_or_len (λ b. b == byte) text ≡ n → n < length text
    → take n text ≡ front → drop (n + 1) text ≡ back → cut_around byte text ≡ Some (front, back)
cut_around_is byte text front back n at inside is_front is_back =
    (λ i. cond (nat_lt (at i) (length text)) (Some (take (at i) text, drop (at i + 1) text)) None)
    ∙ ap (λ t. cond t (Some (take n text, drop (n + 1) text)) None) ((Decides-ltb n (length text)).1 inside)
    ∙ (λ i. Some (is_front i, is_back i))

stops_at : (byte : ℕ) (next : List ℕ) → (byte == byte) ≡ true → starts (λ b. not (b == byte)) (byte ∷ next) ≡ false
stops_at byte next same = ap not same

pub cut_around_complete : (byte : ℕ) (front next : List ℕ) → (byte == byte) ≡ true → Lacks byte front → cut_around byte (front ++ byte ∷ next) ≡ Some (front, next)
cut_around_complete byte front next same lacks =
    let inside : length front < length (front ++ byte ∷ next) = omega (arith, length-append front (byte ∷ next)) in
    cut_around_is byte (front ++ byte ∷ next) front next (length front)
    (prefix_len_exact (λ b. not (b == byte)) front (byte ∷ next) (none_all byte front lacks) (stops_at byte next same))
    inside (take-append_seam front (byte ∷ next)) (drop-append-add front (byte ∷ next) 1)

-- ---- extras

names_complete : (pieces : List (List ℕ)) → list_all is_name (map trim_white pieces) ≡ true → names_in pieces ≡ Ok (map trim_white pieces)
unfolding names_in
names_complete [] all = refl
names_complete (piece ∷ rest) all =
    (λ i. cond ((and_parts (is_name (trim_white piece)) _ all).0 i) (Ok (trim_white piece)) (Err refusal.Extras) >>= λ name. names_in rest >>= λ others. Ok (name ∷ others))
    ∙ ap (λ r. r >>= λ others. Ok (trim_white piece ∷ others)) (names_complete rest (and_parts (is_name (trim_white piece)) _ all).1)

extras_in_complete : (inner : List ℕ) (extras : List (List ℕ)) → IsExtras inner extras → extras_in inner ≡ Ok extras
extras_in_complete inner extras (inl blank) = (λ i. cond (blank.0 i) (Ok []) (names_in (slice_split (λ b. b == 44) inner))) ∙ ap Ok (sym blank.1)
extras_in_complete inner extras (inr names) =
    (λ i. cond (names.0 i) (Ok []) (names_in (slice_split (λ b. b == 44) inner)))
    ∙ names_complete (slice_split (λ b. b == 44) inner) (ap (list_all is_name) (sym names.1) ∙ names.2)
    ∙ ap Ok (sym names.1)

pub extras_complete : (text : List ℕ) (extras : List (List ℕ)) (next : List ℕ) → ExtrasText text extras next → extras_at (text ++ next) ≡ Ok (extras, next)
unfolding extras_at extras_after_bracket
extras_complete text extras next (inl none) =
    ap (λ t. extras_from (t ++ next) (after_byte 91 (t ++ next))) none.0
    ∙ ap (λ t. extras_from next (cond t (Some (drop 1 next)) None)) none.2
    ∙ (λ i. Ok (sym none.1 i, next))
extras_complete text extras next (inr some) =
    ap (λ t. extras_from (t ++ next) (after_byte 91 (t ++ next))) some.1
    ∙ ap (λ t. ok_or (cut_around 93 t) refusal.Extras >>= λ cut. extras_in cut.0 >>= λ found. Ok (found, cut.1)) (append_assoc some.0 (93 ∷ []) next)
    ∙ ap (λ o. ok_or o refusal.Extras >>= λ cut. extras_in cut.0 >>= λ found. Ok (found, cut.1)) (cut_around_complete 93 some.0 next refl some.2)
    ∙ ap (λ r. r >>= λ found. Ok (found, next)) (extras_in_complete some.0 extras some.3)

-- ---- the marker

-- the text of a marker part
part_text : (last : List ℕ) (marker : Option MarkerValue) → MarkerPart last marker → Option (List ℕ)
part_text last None part = None
part_text last (Some marker) part = Some part.0

marker_complete : (last : List ℕ) (marker : Option MarkerValue) (part : MarkerPart last marker) → marker_in (part_text last marker part) ≡ Ok marker
unfolding part_text
marker_complete last None part = refl
marker_complete last (Some marker) part = ap (λ r. refused_as refusal.Marker r >>= λ m. Ok (Some m)) part.2

marker_text_complete : (last : List ℕ) (marker : Option MarkerValue) (part : MarkerPart last marker) → marker_text_at last ≡ Ok (part_text last marker part)
unfolding part_text
marker_text_complete last None part = ap marker_text_at part
marker_text_complete last (Some marker) part = ap marker_text_at part.1

-- ---- the URL

not_nothing : (text : List ℕ) → (text ≡ [] → ⊥) → (length text == 0) ≡ false
not_nothing [] some = absurd (some refl)
not_nothing (b ∷ rest) some = eqb-suc-zero (length rest)

url_cut : (text url rest : List ℕ) (marker : Option (List ℕ)) (n : ℕ) → n ≡ length url → (url ≡ [] → ⊥) → take n text ≡ url
    → marker_text_at (after_white (drop n text)) ≡ Ok marker
    → cond {A = Result SourceParts RequirementError} (n == 0) (Err refusal.Url) (marker_text_at (after_white (drop n text)) >>= λ m. Ok (record { set = []; url = Some (take n text); marker = m }))
    ≡ Ok (record { set = []; url = Some url; marker = marker })
url_cut text url rest marker n len some front last =
    ap (λ t. cond {A = Result SourceParts RequirementError} t (Err refusal.Url) (marker_text_at (after_white (drop n text)) >>= λ m. Ok (record { set = []; url = Some (take n text); marker = m })))
    (ap (λ k. k == 0) len ∙ not_nothing url some)
    ∙ (λ i. last i >>= λ m. Ok (record { set = []; url = Some (front i); marker = m }))

url_complete : (text url : List ℕ) (marker : Option MarkerValue) (u : UrlText text url marker) → (url ≡ [] → ⊥)
    → source_at text ≡ Ok (record { set = []; url = Some url; marker = part_text u.last marker u.is_last })
unfolding source_at url_source
url_complete text url marker u some =
    let rest = u.second_gap ++ u.last in
    let space : ℕ → Bool = λ b. not (is_white b) in
    ap (λ t. source_from t (after_byte 64 t)) u.whole
    ∙ ap (λ t. url_source t) (after_white_exact u.gap (url ++ rest) u.is_gap.all u.is_gap.ends)
    ∙ url_cut (url ++ rest) url rest (part_text u.last marker u.is_last) (url_len (url ++ rest))
    (prefix_len_exact space url rest u.is_url u.longest) some (take_exact space url rest u.is_url u.longest)
    (ap (λ t. marker_text_at (after_white t)) (drop_exact space url rest u.is_url u.longest)
    ∙ ap marker_text_at (after_white_exact u.second_gap u.last u.is_second_gap.all u.is_second_gap.ends)
    ∙ marker_text_complete u.last marker u.is_last)

-- ---- the specifiers

none_inside : (byte : ℕ) (text : List ℕ) → Lacks byte text → prefix_len (λ b. not (b == byte)) text ≡ length text
none_inside byte text lacks =
    let exact = prefix_len_exact (λ b. not (b == byte)) text [] (none_all byte text lacks) refl in
    ap (prefix_len (λ b. not (b == byte))) (sym (append-nil text)) ∙ exact

cut_around_none : (byte : ℕ) (text : List ℕ) → Lacks byte text → cut_around byte text ≡ None
cut_around_none byte text lacks =
    ap (λ t. cond {A = Option (List ℕ × List ℕ)} t (Some (before_first (λ b. b == byte) text, after_first (λ b. b == byte) text)) None)
    (ap (λ n. nat_lt n (length text)) (none_inside byte text lacks) ∙ not_below (length text))
  where
    not_below : (n : ℕ) → nat_lt n n ≡ false
    not_below n = le-ltb n n (omega arith)

cut_complete : (declared last : List ℕ) (marker : Option MarkerValue) (part : MarkerPart last marker) → Lacks 59 declared
    → cut_or_whole (declared ++ last) (cut_around 59 (declared ++ last)) ≡ (declared, part_text last marker part)
unfolding part_text
cut_complete declared last None part lacks =
    ap (λ t. cut_or_whole t (cut_around 59 t)) (ap (λ t. declared ++ t) part ∙ append-nil declared) ∙ ap (cut_or_whole declared) (cut_around_none 59 declared lacks)
cut_complete declared last (Some marker) part lacks =
    ap (λ t. cut_or_whole (declared ++ t) (cut_around 59 (declared ++ t))) part.1 ∙ ap (cut_or_whole (declared ++ 59 ∷ part.0)) (cut_around_complete 59 declared part.0 refl lacks)

within_complete : (text inner : List ℕ) → IsWithin text inner → within_parentheses text ≡ Some inner
within_complete text inner (inl plain) = ap (λ t. within_from text (cond t (Some (drop 1 text)) None)) plain.1 ∙ ap Some plain.0
within_complete text inner (inr closed) = ap within_parentheses closed ∙ before_last_complete inner
  where
    at_end : (text front : List ℕ) (n : ℕ) → n ≡ length front → slice_get text n ≡ Some 41 → take (length front) text ≡ front
        → cond (unwrap_or (option_map (λ b. b == 41) (slice_get text n)) false) (Some (take n text)) None ≡ Some front
    at_end text front n len last is =
        (λ i. cond (unwrap_or (option_map (λ b. b == 41) (last i)) false) (Some (take (len i) text)) None) ∙ ap Some is

    before_last_complete : (inner : List ℕ) → before_last 41 (inner ++ 41 ∷ []) ≡ Some inner
    before_last_complete inner =
        let text = inner ++ 41 ∷ [] in
        let len : length text - 1 ≡ length inner = omega (arith, length-append inner (41 ∷ [])) in
        let inside : length text - 1 < length text = omega (arith, length-append inner (41 ∷ [])) in
        at_end text inner (length text - 1) len
        (slice_get-get_or text (length text - 1) 0 inside ∙ ap Some (get_or_push inner 41 0 (length text - 1) (sym len)))
        (take-append_seam inner (41 ∷ []))

set_complete : (text : List ℕ) (set : List Specifier) (marker : Option MarkerValue) (s : SetPart text set marker)
    → source_at text ≡ Ok (record { set = set; url = None; marker = part_text s.last marker s.is_last })
unfolding source_at set_source
set_complete text set marker s =
    ap (λ t. source_from text (cond t (Some (drop 1 text)) None)) s.no_url
    ∙ ap set_source s.whole
    ∙ ap cut_source (cut_complete s.declared s.last marker s.is_last s.is_declared)
    ∙ (λ i. ok_or (within_complete (trim_white s.declared) s.inner s.is_inner i) refusal.Specifier
    >>= λ inner. refused_as refusal.Specifier (parsed_set inner) >>= λ found. Ok (record { set = found; url = None; marker = part_text s.last marker s.is_last }))
    ∙ (λ i. refused_as refusal.Specifier (s.is_set i) >>= λ found. Ok (record { set = found; url = None; marker = part_text s.last marker s.is_last }))

-- ---- the whole

-- the source with its marker
source_part : (text : List ℕ) (set : List Specifier) (url : Option (List ℕ)) (marker : Option MarkerValue) → SourceText text set url marker → Option (List ℕ)
source_part text set None marker s = part_text s.last marker s.is_last
source_part text set (Some url) marker s = part_text s.2.last marker s.2.is_last

source_complete : (text : List ℕ) (set : List Specifier) (url : Option (List ℕ)) (marker : Option MarkerValue) (s : SourceText text set url marker)
    → source_at text ≡ Ok (record { set = set; url = url; marker = source_part text set url marker s })
unfolding source_part
source_complete text set None marker s = set_complete text set marker s
source_complete text set (Some url) marker s =
    url_complete text url marker s.2 s.1 ∙ (λ i. Ok (record { set = sym s.0 i; url = Some url; marker = part_text s.2.last marker s.2.is_last }))

source_marker : (text : List ℕ) (set : List Specifier) (url : Option (List ℕ)) (marker : Option MarkerValue) (s : SourceText text set url marker)
    → marker_in (source_part text set url marker s) ≡ Ok marker
unfolding source_part
source_marker text set None marker s = marker_complete s.last marker s.is_last
source_marker text set (Some url) marker s = marker_complete s.2.last marker s.2.is_last

pub requirement_complete : (text : List ℕ) (parts : RequirementValue) → RequirementText text parts → requirement_of text ≡ Ok parts
unfolding requirement_of
requirement_complete text parts r =
    let end = r.second_gap ++ r.source in
    let next = r.gap ++ (r.extras ++ end) in
    ap (λ t. name_at (after_white t) >>= λ name. after_name name) r.whole
    ∙ ap (λ t. name_at t >>= λ name. after_name name) (after_white_exact r.before (parts.name ++ next) r.is_before.all r.is_before.ends)
    ∙ ap (λ n. n >>= λ name. after_name name) (name_complete parts.name next r.is_name r.longest)
    ∙ ap (λ t. extras_at t >>= λ extras. after_extras parts.name extras) (after_white_exact r.gap (r.extras ++ end) r.is_gap.all r.is_gap.ends)
    ∙ ap (λ e. e >>= λ extras. after_extras parts.name extras) (extras_complete r.extras parts.extras end r.is_extras)
    ∙ ap (λ t. source_at t >>= λ source. after_source parts.name parts.extras source) (after_white_exact r.second_gap r.source r.is_second_gap.all r.is_second_gap.ends)
    ∙ ap (λ s. s >>= λ source. after_source parts.name parts.extras source) (source_complete r.source parts.set parts.url parts.marker r.is_source)
    ∙ ap (λ m. m >>= λ marker. Ok (record { name = parts.name; extras = parts.extras; set = parts.set; url = parts.url; marker = marker }))
    (source_marker r.source parts.set parts.url parts.marker r.is_source)
  where
    after_source : List ℕ → List (List ℕ) → SourceParts → Result RequirementValue RequirementError
    after_source name extras source = marker_in source.marker >>= λ marker. Ok (record { name = name; extras = extras; set = source.set; url = source.url; marker = marker })

    after_extras : List ℕ → List (List ℕ) × List ℕ → Result RequirementValue RequirementError
    after_extras name extras = source_at (after_white extras.1) >>= λ source. after_source name extras.0 source

    after_name : List ℕ × List ℕ → Result RequirementValue RequirementError
    after_name name = extras_at (after_white name.1) >>= λ extras. after_extras name.0 extras

-- ---- what a refusal says, over what a call gives

pub given_no_requirement : (text : List ℕ) (r : Result RequirementValue RequirementError) → Gives refusal.Memory (λ parts. parts) r (requirement_of text)
    → IfErr r (λ e. e ≢ refusal.Memory → (parts : RequirementValue) → RequirementText text parts → ⊥)
given_no_requirement text (Ok parts) gives = tt
given_no_requirement text (Err e) gives = λ other parts is.
    let read = requirement_complete text parts is in
    let refused = gives other in
    absurd cc
