-- Lemmas on how many lines a text has.
use Rattle.std.proofs.Common.{◌≡◌, ℕ, zero, suc, ◌+◌, ◌/◌, ◌%◌, ◌∙◌, ◌==◌, Bool, true, false, nat_lt, List, [], ◌∷◌, ◌++◌, length, Option, option_map, Some, None, cond, ap, sym, refl, arith}
use Rattle.std.specs.Fmt.{decimal, digit_glyph, digits, digits_onto}
use Rattle.std.specs.List.{All, AllByRecursion, Contains, count_by, flat_map}
use Rattle.std.specs.Option.{option_map_or}
use Rattle.std.specs.Prelude.{codes}
use Rattle.std.specs.Str.{bytes_eq}
use Rattle.std.proofs.lemmas.Bool.{eq-eqb, ne_eqb}
use Rattle.std.proofs.lemmas.List.Elements.{All-head, All-tail}
use Rattle.std.proofs.lemmas.List.Sums.{sum_by-append, sum_by-cons}
use Rattle.pylock_readers.specs.Entry.{EntryValue, place_of}
use Rattle.pylock_core.specs.Session.Picks.{IsPickAmong, SourceValue, OfVcs, OfDirectory, OfArchive, OfWheel, OfSdist, source_file_name, source_hashes, source_in, source_location, source_subdirectory, source_vcs, source_word}
use Rattle.pylock_core.specs.Session.State.{State, entry_at}
use Rattle.pylock_core.specs.declared.answer.Answer.TheVariants.{Plan}
use Rattle.pylock_core.specs.declared.answer.Pick.{Pick}
use Rattle.pylock_core.specs.declared.answer.PickSource.{PickSource}
use Rattle.pylock_run.specs.Text.Field.{escape_byte, escaped_text, field, line_of, fields_text}
use Rattle.pylock_run.specs.Text.Plan.{answer_text, hashes_text, pick_text, plan_line, revision, source_fields}

abbrev is_lf : ℕ → Bool
is_lf b = b == 10

abbrev lines : List ℕ → ℕ
lines text = count_by (λ b. b == 10) text

lines-append : (xs ys : List ℕ) → lines (xs ++ ys) ≡ lines xs + lines ys
lines-append xs ys = sum_by-append (λ b. cond (b == 10) 1 0) xs ys

lines-cons : (b : ℕ) (bs : List ℕ) → is_lf b ≡ false → lines (b ∷ bs) ≡ lines bs
lines-cons b bs other =
    let all = sum_by-cons (λ c. cond (c == 10) 1 0) b bs in
    let here : ◌≡◌ {A = ℕ} (cond {A = ℕ} (b == 10) 1 0) 0 = ap (λ t. cond {A = ℕ} t 1 0) other in
    omega (arith, all, here)

-- both without LF
no_lines : (xs ys : List ℕ) → lines xs ≡ 0 → lines ys ≡ 0 → lines (xs ++ ys) ≡ 0
no_lines xs ys none also = let both = lines-append xs ys in omega (arith, both, none, also)

adds : (xs ys : List ℕ) (m n : ℕ) → lines xs ≡ m → lines ys ≡ n → lines (xs ++ ys) ≡ m + n
adds xs ys m n h k = lines-append xs ys ∙ ap (λ t. t + lines ys) h ∙ ap (λ t. m + t) k

one_of : (b : Bool) (xs ys : List ℕ) (n : ℕ) → lines xs ≡ n → lines ys ≡ n → lines (cond b xs ys) ≡ n
one_of true xs ys n h k = h
one_of false xs ys n h k = k

-- ---- a number

glyph_one : (b : Bool) (x y : ℕ) → is_lf x ≡ false → is_lf y ≡ false → is_lf (cond b x y) ≡ false
glyph_one true x y h k = h
glyph_one false x y h k = k

glyph : (d : ℕ) → is_lf (digit_glyph false d) ≡ false
glyph d = glyph_one (nat_lt d 10) (48 + d) (87 + d) (ne_eqb (48 + d) 10 (λ same. omega (arith, same))) (ne_eqb (87 + d) 10 (λ same. omega (arith, same)))

digits_none : (k n : ℕ) (acc : List ℕ) → lines (digits_onto k 10 false n acc) ≡ lines acc
digits_none zero n acc = refl
digits_none (suc k) n acc =
    let g = digit_glyph false (n % 10) in
    let prefix : lines (g ∷ acc) ≡ lines acc = lines-cons g acc (glyph (n % 10)) in
    one_of (n / 10 == 0) (g ∷ acc) (digits_onto k 10 false (n / 10) (g ∷ acc)) (lines acc) prefix (digits_none k (n / 10) (g ∷ acc) ∙ prefix)

decimal_none : (n : ℕ) → lines (decimal n) ≡ 0
unfolding digits
decimal_none n = digits_none 64 n []

-- ---- a field

escape_none : (b : ℕ) → lines (escape_byte b) ≡ 0
escape_none b = by (b == 9) (b == 10) (b == 13) (b == 92) refl
  where
    by : (tab lf cr backslash : Bool) → is_lf b ≡ lf
        → lines (cond tab (codes "\\t") (cond lf (codes "\\n") (cond cr (codes "\\r") (cond backslash (codes "\\\\") (b ∷ []))))) ≡ 0
    by true lf cr backslash is = refl
    by false true cr backslash is = refl
    by false false true backslash is = refl
    by false false false true is = refl
    by false false false false is = lines-cons b [] is

escaped_none : (text : List ℕ) → lines (escaped_text text) ≡ 0
escaped_none [] = refl
escaped_none (b ∷ bs) = no_lines (escape_byte b) (escaped_text bs) (escape_none b) (escaped_none bs)

field_none : (text : Option (List ℕ)) → lines (field text) ≡ 0
field_none None = refl
field_none (Some text) = one_of (bytes_eq text (codes "-")) (codes "\\-") (escaped_text text) 0 refl (escaped_none text)

-- ---- a line

abbrev NoLines : List (List ℕ) → Type 0
NoLines fields = AllByRecursion (λ f. lines f ≡ 0) fields

tabbed_none : (fields : List (List ℕ)) → NoLines fields → lines (fields_text fields) ≡ 0
tabbed_none [] h = refl
tabbed_none (f ∷ fields) h = no_lines (9 ∷ f) (fields_text fields) (lines-cons 9 f refl ∙ h.0) (tabbed_none fields h.1)

line_one : (first : List ℕ) (fields : List (List ℕ)) → lines first ≡ 0 → NoLines fields → lines (line_of first fields) ≡ 1
line_one first fields none h =
    adds (first ++ fields_text fields) (codes "\n") 0 1 (no_lines first (fields_text fields) none (tabbed_none fields h)) refl

word_none : (source : SourceValue) → lines (source_word source) ≡ 0
word_none (OfVcs vcs) = refl
word_none (OfDirectory directory) = one_of directory.editable (codes "editable") (codes "directory") 0 refl refl
word_none (OfArchive archive) = refl
word_none (OfWheel file) = refl
word_none (OfSdist file) = refl

source_none : (source : SourceValue) → NoLines (source_fields source)
source_none source = (
  word_none source,
  (
    field_none (source_file_name source),
    (
      field_none (Some (place_of (source_location source))),
      (field_none (hashes_text (source_hashes source)), (field_none (option_map revision (source_vcs source)), (field_none (source_subdirectory source), tt))),
    ),
  ),
)

picked_none : (source : Option SourceValue) → NoLines (option_map_or source_fields source [])
picked_none None = tt
picked_none (Some source) = source_none source

plan_line_one : (n : ℕ) (s : PickSource) (entry : EntryValue) → lines (plan_line n s entry) ≡ 1
plan_line_one n s entry =
    line_one (decimal n) (field (Some entry.name) ∷ field entry.version ∷ option_map_or source_fields (source_in entry s) []) (decimal_none n)
    (field_none (Some entry.name), (field_none entry.version, picked_none (source_in entry s)))

-- ---- the lines of a plan

-- an entry that stands at a position is found by its number, or one before it is
entry_found : (n : ℕ) (entry : EntryValue) (es : List (ℕ × EntryValue)) → Contains es (n, entry) → (x : EntryValue) × (entry_at n es ≡ Some x)
entry_found n entry [] h = absurd (omega (arith, h.1))
entry_found n entry (e ∷ es) (zero, l, here) = (e.1, rw (eq-eqb n e.0 (sym (ap (λ p. p.0) here))))
entry_found n entry (e ∷ es) (suc k, l, here) =
    by (n == e.0) (entry_found n entry es (k, omega (arith, l), here))
  where
    by : (same : Bool) → ((x : EntryValue) × (entry_at n es ≡ Some x)) → (x : EntryValue) × (cond same (Some e.1) (entry_at n es) ≡ Some x)
    by true h = (e.1, refl)
    by false h = h

pick_one : (state : State) (pick : Pick) → IsPickAmong state.entries pick → lines (pick_text state pick) ≡ 1
pick_one state pick h =
    let at = entry_found pick.id h.0 state.entries h.1 in
    ap (λ o. lines (option_map_or (plan_line pick.id pick.source) o [])) at.1 ∙ plan_line_one pick.id pick.source at.0

picks_lines : (state : State) (plan : List Pick) → All (IsPickAmong state.entries) plan → lines (flat_map (pick_text state) plan) ≡ length plan
picks_lines state [] h = refl
picks_lines state (pick ∷ plan) h =
    let one = pick_one state pick (All-head (IsPickAmong state.entries) pick plan h) in
    let more = picks_lines state plan (All-tail (IsPickAmong state.entries) pick plan h) in
    let next : 1 + length plan ≡ suc (length plan) = omega arith in
    adds (pick_text state pick) (flat_map (pick_text state) plan) 1 (length plan) one more ∙ next

pub plan_text_lines : (state : State) (plan : List Pick) → All (IsPickAmong state.entries) plan → lines (answer_text state (Plan plan)) ≡ length plan + 1
plan_text_lines state plan h =
    let n = length plan in
    let rest = flat_map (pick_text state) plan in
    let all : 1 + length plan ≡ length plan + 1 = omega arith in
    adds (codes "plan " ++ decimal n ++ codes "\n") rest 1 n
    (adds (codes "plan " ++ decimal n) (codes "\n") 0 1 (no_lines (codes "plan ") (decimal n) refl (decimal_none n)) refl)
    (picks_lines state plan h)
    ∙ all
