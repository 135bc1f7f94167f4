-- Spans lie in their text, and the specifiers of the set stand at them.
use Rattle.std.proofs.Common.{◌≡◌, ◌++◌, [], ◌∷◌, ℕ, suc, ◌+◌, ◌-◌, ◌≤◌, Bool, false, List, Option, Some, None, length, drop, take, refl, sym, ap, subst, ◌∙◌, inl, inr, arith, append_assoc, length-append, length-drop}
use Rattle.std.proofs.Math.Seq.{drop-append_seam, take-append_seam}
use Rattle.std.specs.Prelude.{nat_eq, option_map}
use Rattle.std.specs.List.{join_with_byte, list_all, onto_first, prefix_len, slice_range, slice_split, starts_with, suffix_len}
use Rattle.std.proofs.lemmas.Bool.{cases_Bool}
use Rattle.std.proofs.lemmas.List.{append-nil, length-take-le, take-append-drop}
use Rattle.std.proofs.lemmas.List.Folds.{length-prefix_len}
use Rattle.std.proofs.lemmas.List.Splits.{join_with_byte-slice_split, length-slice_split, slice_split-cons_no, slice_split-cons_yes}
use Rattle.std.proofs.lemmas.List.Sums.{prefix_len-le-length}
use Rattle.std.proofs.lemmas.Option.{cond_some}
use Rattle.pytext.specs.Bytes.{is_white}
use Rattle.pytext.specs.Options.{◌>>=◌}
use Rattle.pytext.specs.White.{IsTrimmed, after_white, trim_white}
use Rattle.pytext.proofs.OptionsLemmas.{bind_some, map_some, option_cases}
use Rattle.pytext.proofs.WhiteLemmas.{trim_white_is}
use Rattle.pyver_core.specs.Set.Grammar.{SetText}
use Rattle.pyver_core.specs.Set.Normal.{operator_text}
use Rattle.pyver_core.specs.Set.Reading.{after_operator, operand_of, operator_among, operator_at, operators, set_of, specifier_of, specifiers_of}
use Rattle.pyver_core.specs.declared.set.specifier.Operator.{Operator}
use Rattle.pyver_core.specs.declared.set.specifier.Specifier.{Specifier}
use Rattle.pyver_core.proofs.Lemmas.Set.Reading.Complete.{set_complete}
use Rattle.pyver_core.proofs.Lemmas.Set.Reading.Sound.{begins_sound, operand_sound}
use Rattle.pylock_values.specs.Spans.{AreSpans, IsSpan, next_span, no_spans, piece_span, set_pieces, spans_from, specifier_span}

-- ---- an operator and what stands behind it are the text

operator_whole : (o : Operator) (text rest : List ℕ) → after_operator o text ≡ Some rest → text ≡ operator_text o ++ rest
operator_whole o text rest e =
    let c = cond_some (starts_with nat_eq text (operator_text o)) (drop (length (operator_text o)) text) rest e in
    begins_sound text (operator_text o) c.0 ∙ ap (λ (t : List ℕ). operator_text o ++ t) c.1

among_whole : (os : List Operator) (text : List ℕ) (cut : Operator × List ℕ) → operator_among os text ≡ Some cut → text ≡ operator_text cut.0 ++ cut.1
among_whole [] text cut e = absurd cc
among_whole (o ∷ os) text cut e = elim (option_cases (after_operator o text)) [
  | inl none ↦
      let later : operator_among os text ≡ Some cut = rw none at e in
      among_whole os text cut later
  | inr some ↦
      let here : ◌≡◌ {A = Option (Operator × List ℕ)} (Some (o, some.0)) (Some cut) = rw some.1 at e in
      let same : (o, some.0) ≡ cut = cc in
      subst (λ (c : Operator × List ℕ). text ≡ operator_text c.0 ++ c.1) same (operator_whole o text some.0 some.1)
]

pub cut_whole : (text : List ℕ) (cut : Operator × List ℕ) → operator_at text ≡ Some cut → text ≡ operator_text cut.0 ++ cut.1
unfolding operator_at
cut_whole text cut e = among_whole operators text cut e

-- ---- a span lies in its piece

white_fits : (text : List ℕ) → prefix_len is_white text + length (after_white text) ≡ length text
white_fits text =
    let within = prefix_len-le-length is_white text in
    let rest = length-drop (prefix_len is_white text) text in
    omega (arith, within, rest)

pub span_fits : (piece : List ℕ) (o : Operator) (rest : List ℕ) → operator_at (after_white piece) ≡ Some (o, rest)
    → prefix_len is_white piece + length (operator_text o) + prefix_len is_white rest + length (trim_white rest) ≤ length piece
span_fits piece o rest e =
    let whole : length (after_white piece) ≡ length (operator_text o) + length rest =
    ap length (cut_whole (after_white piece) (o, rest) e) ∙ length-append (operator_text o) rest in
    let before = white_fits piece in
    let behind = white_fits rest in
    let n = length (after_white rest) - suffix_len is_white (after_white rest) in
    let fewer : n ≤ length (after_white rest) = omega arith in
    let less : length (trim_white rest) ≡ n = length-take-le n (after_white rest) fewer in
    omega (arith, whole, before, behind, fewer, less)

-- ---- pieces and the commas between them are the text

-- how long the pieces are, with a byte behind each
abbrev pub capacity : List (List ℕ) → ℕ
capacity [] = 0
capacity (piece ∷ pieces) = length piece + 1 + capacity pieces

onto_capacity : (b : ℕ) (parts : List (List ℕ)) → 1 ≤ length parts → capacity (onto_first b parts) ≡ suc (capacity parts)
onto_capacity b [] some = absurd (omega arith)
onto_capacity b (part ∷ parts) some = omega arith

pub split_capacity : (p : ℕ → Bool) (text : List ℕ) → capacity (slice_split p text) ≡ length text + 1
split_capacity p [] = refl
split_capacity p (b ∷ rest) = elim (cases_Bool (p b)) [
  | inl cuts ↦ rw (slice_split-cons_yes p b rest cuts, split_capacity p rest) (omega arith)
  | inr other ↦ rw (slice_split-cons_no p b rest other, onto_capacity b (slice_split p rest) (omega (arith, length-slice_split p rest)), split_capacity p rest) (omega arith)
]

-- ---- what stands at the spans

at_offsets : (text before inner after : List ℕ) (a b : ℕ) → text ≡ before ++ (inner ++ after) → a ≡ length before → b ≡ length before + length inner
    → slice_range text a b ≡ inner
at_offsets text before inner after a b whole is_a is_b =
    let n : length before + length inner - length before ≡ length inner = omega arith in
    (λ i. slice_range (whole i) (is_a i) (is_b i))
    ∙ ap (take (length before + length inner - length before)) (drop-append_seam before (inner ++ after))
    ∙ ap (λ (k : ℕ). take k (inner ++ after)) n
    ∙ take-append_seam inner after

-- white space, and the text after it
around_white : (text : List ℕ) → text ≡ take (prefix_len is_white text) text ++ after_white text
around_white text = sym (take-append-drop (prefix_len is_white text) text)

-- a text without the white space round it, and the white space behind it
trimmed_front : (text : List ℕ) → (behind : List ℕ) × (text ≡ take (prefix_len is_white text) text ++ (trim_white text ++ behind))
trimmed_front text =
    let rest = after_white text in
    let n = length rest - suffix_len is_white rest in
    (drop n rest, around_white text ∙ ap (λ (t : List ℕ). take (prefix_len is_white text) text ++ t) (sym (take-append-drop n rest)))

span_is : (text front piece tail : List ℕ) (cut : Operator × List ℕ) (s : Specifier)
    → text ≡ front ++ (piece ++ tail) → operator_at (after_white piece) ≡ Some cut → operand_of cut.0 cut.1 ≡ Some s
    → let start = length front + prefix_len is_white piece in
    let end = start + length (operator_text cut.0) in
    let operand = end + prefix_len is_white cut.1 in
    IsSpan text s start end operand (operand + length (trim_white cut.1))
span_is text front piece tail cut s whole e read =
    let start = length front + prefix_len is_white piece in
    let end = start + length (operator_text cut.0) in
    let operand = end + prefix_len is_white cut.1 in
    let word = operator_text cut.0 in
    let white = take (prefix_len is_white piece) piece in
    let lead = take (prefix_len is_white cut.1) cut.1 in
    let inner = trim_white cut.1 in
    let front_white : length white ≡ prefix_len is_white piece = length-prefix_len is_white piece in
    let lead_white : length lead ≡ prefix_len is_white cut.1 = length-prefix_len is_white cut.1 in
    let trimmed = trimmed_front cut.1 in
    let is_piece : piece ≡ white ++ (word ++ cut.1) =
    around_white piece ∙ ap (λ (t : List ℕ). white ++ t) (cut_whole (after_white piece) cut e) in
    let at_word : text ≡ (front ++ white) ++ (word ++ (cut.1 ++ tail)) =
    whole ∙ ap (λ (t : List ℕ). front ++ (t ++ tail)) is_piece
    ∙ ap (λ (t : List ℕ). front ++ t) (append_assoc white (word ++ cut.1) tail ∙ ap (λ (t : List ℕ). white ++ t) (append_assoc word cut.1 tail))
    ∙ sym (append_assoc front white (word ++ (cut.1 ++ tail))) in
    let at_inner : text ≡ (((front ++ white) ++ word) ++ lead) ++ (inner ++ (trimmed.0 ++ tail)) =
    at_word ∙ sym (append_assoc (front ++ white) word (cut.1 ++ tail))
    ∙ ap (λ (t : List ℕ). ((front ++ white) ++ word) ++ (t ++ tail)) trimmed.1
    ∙ ap (λ (t : List ℕ). ((front ++ white) ++ word) ++ t) (append_assoc lead (inner ++ trimmed.0) tail ∙ ap (λ (t : List ℕ). lead ++ t) (append_assoc inner trimmed.0 tail))
    ∙ sym (append_assoc ((front ++ white) ++ word) lead (inner ++ (trimmed.0 ++ tail))) in
    let one : length (front ++ white) ≡ start = length-append front white ∙ ap (λ (n : ℕ). length front + n) front_white in
    let two : length ((front ++ white) ++ word) ≡ end = length-append (front ++ white) word ∙ ap (λ (n : ℕ). n + length word) one in
    let three : length (((front ++ white) ++ word) ++ lead) ≡ operand = length-append ((front ++ white) ++ word) lead ∙ (λ i. two i + lead_white i) in
    let known = operand_sound cut.0 cut.1 s read in
    record {
      around = cut.1;
      is_operator = at_offsets text (front ++ white) word (cut.1 ++ tail) start end at_word (sym one) (ap (λ (n : ℕ). n + length word) (sym one))
          ∙ ap operator_text (sym known.0);
      is_operand = known.1;
      is_trimmed = subst (IsTrimmed cut.1)
          (sym (at_offsets text (((front ++ white) ++ word) ++ lead) inner (trimmed.0 ++ tail) operand (operand + length inner) at_inner (sym three) (ap (λ (n : ℕ). n + length inner) (sym three))))
          (trim_white_is cut.1);
    }

-- ---- the spans of all pieces

-- the spans of a piece that is a specifier, before those of the others
piece_spans : (text front piece tail : List ℕ) (s : Specifier) (set : List Specifier) (spans : List ℕ)
    → text ≡ front ++ (piece ++ tail) → list_all is_white piece ≡ false → specifier_of piece ≡ Some s → AreSpans text set spans
    → AreSpans text (s ∷ set) (piece_span (length front) piece ++ spans)
unfolding specifier_of
piece_spans text front piece tail s set spans whole other read later = elim (option_cases (operator_at (after_white piece))) [
  | inl none ↦ absurd (let n : None ≡ Some s = rw none at read in cc)
  | inr some ↦
      let cut = some.0 in
      let operand : operand_of cut.0 cut.1 ≡ Some s = rw some.1 at read in
      let at : piece_span (length front) piece ≡ specifier_span (length front + prefix_len is_white piece) (Some cut) = rw (other, some.1) refl in
      subst (λ (p : List ℕ). AreSpans text (s ∷ set) (p ++ spans)) (sym at)
      (next_span text s set _ _ _ _ spans (span_is text front piece tail cut s whole some.1 operand) later)
]

-- the spans of one piece more
one_more : (text front piece tail : List ℕ) (pieces : List (List ℕ)) (set : List Specifier) (spans : List ℕ)
    → text ≡ front ++ (piece ++ tail) → specifiers_of (piece ∷ pieces) ≡ Some set
    → ((others : List Specifier) → specifiers_of pieces ≡ Some others → AreSpans text others spans)
    → AreSpans text set (piece_span (length front) piece ++ spans)
unfolding specifiers_of
one_more text front piece tail pieces set spans whole read later = elim (cases_Bool (list_all is_white piece)) [
  | inl blank ↦
      let rest : specifiers_of pieces ≡ Some set = rw blank at read in
      let at : piece_span (length front) piece ≡ [] = rw blank refl in
      subst (λ (p : List ℕ). AreSpans text set (p ++ spans)) (sym at) (later set rest)
  | inr other ↦
      let found : (specifier_of piece >>= λ s. option_map (λ others. s ∷ others) (specifiers_of pieces)) ≡ Some set = rw other at read in
      let first = bind_some (specifier_of piece) (λ s. option_map (λ others. s ∷ others) (specifiers_of pieces)) set found in
      let more = map_some (specifiers_of pieces) (λ others. first.0 ∷ others) set first.2 in
      subst (λ (all : List Specifier). AreSpans text all (piece_span (length front) piece ++ spans)) more.2
      (piece_spans text front piece tail first.0 more.0 spans whole other first.1 (later more.0 more.1))
]

no_more : (text : List ℕ) (n : ℕ) (others : List Specifier) → specifiers_of [] ≡ Some others → AreSpans text others (spans_from n [])
unfolding specifiers_of spans_from
no_more text n others read =
    let same : [] ≡ others = cc in
    subst (λ (s : List Specifier). AreSpans text s []) same (no_spans text)

all_spans : (text front : List ℕ) (pieces : List (List ℕ)) (set : List Specifier) → text ≡ front ++ join_with_byte 44 pieces
    → specifiers_of pieces ≡ Some set → AreSpans text set (spans_from (length front) pieces)
unfolding spans_from
all_spans text front [] set whole read = no_more text (length front) set read
all_spans text front (piece ∷ []) set whole read =
    one_more text front piece [] [] set (spans_from (length front + length piece + 1) []) (whole ∙ ap (λ (t : List ℕ). front ++ t) (sym (append-nil piece)))
    read (no_more text (length front + length piece + 1))
all_spans text front (piece ∷ next ∷ more) set whole read =
    let there = front ++ (piece ++ 44 ∷ []) in
    let rest = join_with_byte 44 (next ∷ more) in
    let at : length there ≡ length front + length piece + 1 =
    length-append front (piece ++ 44 ∷ []) ∙ ap (λ (n : ℕ). length front + n) (length-append piece (44 ∷ [])) ∙ omega arith in
    let behind : text ≡ there ++ rest =
    whole ∙ sym (append_assoc front (piece ++ 44 ∷ []) rest ∙ ap (λ (t : List ℕ). front ++ t) (append_assoc piece (44 ∷ []) rest)) in
    one_more text front piece (44 ∷ rest) (next ∷ more) set (spans_from (length front + length piece + 1) (next ∷ more)) whole read
    (λ others e. subst (λ (n : ℕ). AreSpans text others (spans_from n (next ∷ more))) at (all_spans text there (next ∷ more) others behind e))

pub set_spans_are : (text : List ℕ) (set : List Specifier) → SetText text set → AreSpans text set (spans_from 0 (set_pieces text))
unfolding set_of
set_spans_are text set is_set = all_spans text [] (set_pieces text) set (sym (join_with_byte-slice_split 44 text)) (set_complete text set is_set)
