-- The laws of the editing byte by byte, and what it says of the lines.
use Rattle.std.proofs.Common.{◌≡◌, ℕ, ◌+◌, ◌≤◌, ◌<◌, ◌-◌, suc, zero, List, [], ◌∷◌, ◌++◌, length, take, drop, take-append-drop, get_or, min, Some, None, Bool, true, false, cond, ◌||◌, ◌==◌, Result, Ok, Err, arith, refl, ap, sym, ◌∙◌, subst, ⊎_elim, append_assoc, append-nil}
use Rattle.std.proofs.lemmas.List.{take_all, length-take-le, length-take, take_more, get_or-take, take_min}
use Rattle.std.proofs.Math.Bool.{or-false, or_assoc}
use Rattle.std.proofs.lemmas.Bool.{cases_lt, lt-ltb, eqb-true, false_from_ne_true}
use Rattle.std.specs.Result.{is_err, result_unwrap_or}
use Rattle.memchr.specs.Find.{IsFirstByte, is_byte}
use Rattle.pylock_core.specs.Session.State.{State}
use Rattle.pytext.specs.Results.{◌>>=◌}
use Rattle.pylock_run.specs.Line.{cut_lines, input_lines, complete_lines, unless_empty, command_of, line_limit}
use Rattle.pylock_run.specs.Report.{Shown, is_plan, after_line, after_command, outcome_text, lines_text, state_after_all, any_refused}
use Rattle.pylock_run.specs.Inner.Editing.{EditingValue, start, lines_begun, plan_after, kept_part, end_line, end_text, keep_byte, editing_after, bytes_text, finish, finish_text, after_input, input_end_text}
use Rattle.pylock_core.specs.Session.Steps.{answer}
use Rattle.pylock_run.specs.declared.line.refusal.LineRefusal.{LineRefusal}
use Rattle.pylock_run.specs.declared.line.refusal.LineRefusal.TheVariants as refusal

-- no cutting of the input changes what it does

pub editing_after-append : (at : EditingValue) (xs ys : List ℕ) → editing_after at (xs ++ ys) ≡ editing_after (editing_after at xs) ys
editing_after-append at [] ys = refl
editing_after-append at (x ∷ xs) ys = editing_after-append (cond (x == 10) (end_line at) (keep_byte at x)) xs ys

pub bytes_text-append : (shown : Shown) (at : EditingValue) (xs ys : List ℕ) → bytes_text shown at (xs ++ ys) ≡ bytes_text shown at xs ++ bytes_text shown (editing_after at xs) ys
bytes_text-append shown at [] ys = refl
bytes_text-append shown at (x ∷ xs) ys =
    elim (x == 10) as (λ t. cond t (end_text shown at ++ bytes_text shown (end_line at) (xs ++ ys)) (bytes_text shown (keep_byte at x) (xs ++ ys))
    ≡ cond t (end_text shown at ++ bytes_text shown (end_line at) xs) (bytes_text shown (keep_byte at x) xs)
    ++ bytes_text shown (editing_after (cond t (end_line at) (keep_byte at x)) xs) ys) [
      | true ↦ ap (λ t. end_text shown at ++ t) (bytes_text-append shown (end_line at) xs ys) ∙ sym (append_assoc (end_text shown at) _ _)
      | false ↦ bytes_text-append shown (keep_byte at x) xs ys
    ]

-- what is kept of a line

take-take_append : {A : Type 0} (n : ℕ) (xs ys : List A) → take n (take n xs ++ ys) ≡ take n (xs ++ ys)
take-take_append zero xs ys = refl
take-take_append (suc n) [] ys = refl
take-take_append (suc n) (x ∷ xs) ys = ap (λ l. x ∷ l) (take-take_append n xs ys)

pub kept_part-append : (xs ys : List ℕ) → kept_part (kept_part xs ++ ys) ≡ kept_part (xs ++ ys)
unfolding kept_part
kept_part-append xs ys = take-take_append (line_limit + 1) xs ys

pub kept_part-short : (line : List ℕ) → length line ≤ line_limit + 1 → kept_part line ≡ line
unfolding kept_part
kept_part-short line short = take_all (line_limit + 1) line short

length-kept_long : (line : List ℕ) → line_limit < length line → length (kept_part line) ≡ line_limit + 1
unfolding kept_part
length-kept_long line long = length-take-le (line_limit + 1) line (omega arith)

kept_part-nil : kept_part [] ≡ []
unfolding kept_part
kept_part-nil = refl

-- the first byte of a line is kept
kept_part-cons : (b : ℕ) (line : List ℕ) → (rest : List ℕ) × (kept_part (b ∷ line) ≡ b ∷ rest)
unfolding kept_part
kept_part-cons b line = (take line_limit line, refl)

kept_part-kept_part : (xs : List ℕ) → kept_part (kept_part xs) ≡ kept_part xs
kept_part-kept_part xs = ap kept_part (sym (append-nil (kept_part xs))) ∙ kept_part-append xs [] ∙ ap kept_part (append-nil xs)

command_of-long : (line : List ℕ) → line_limit < length line → command_of line ≡ Err refusal.Long
command_of-long line long = rw (lt-ltb line_limit (length line) long)

-- what is kept of a line is read as the line
pub command_of-kept_part : (line : List ℕ) → command_of (kept_part line) ≡ command_of line
command_of-kept_part line = ⊎_elim
    (λ (long : line_limit < length line).
    let size : length (kept_part line) ≡ line_limit + 1 = length-kept_long line long in
    command_of-long (kept_part line) (omega arith) ∙ sym (command_of-long line long))
    (λ (short : length line ≤ line_limit). ap command_of (kept_part-short line (omega arith)))
    (cases_lt line_limit (length line))

after_line-kept_part : (state : State) (line : List ℕ) → after_line state (kept_part line) ≡ after_line state line
unfolding after_line
after_line-kept_part state line = ap (λ c. c >>= (λ command. after_command state command)) (command_of-kept_part line)

-- what the lines print and do, as `last` after `text` has it
pub record Edits (shown : Shown) (at last : EditingValue) (text : List ℕ) (lines : List (List ℕ)) : Type 0 where
  pub prints : text ≡ lines_text shown at.state (at.complete + 1) lines
  pub state : last.state ≡ state_after_all at.state lines
  pub refused : last.refused ≡ (at.refused || any_refused at.state lines)
  pub complete : last.complete ≡ at.complete + length lines

Edits-none : (shown : Shown) (at : EditingValue) → Edits shown at at [] []
Edits-none shown at = record { prints = refl; state = refl; refused = sym (or-false at.refused); complete = omega arith }

prints-more : (shown : Shown) (at : EditingValue) (line text : List ℕ) (lines : List (List ℕ)) → at.line ≡ kept_part line
    → text ≡ lines_text shown (end_line at).state ((end_line at).complete + 1) lines → end_text shown at ++ text ≡ lines_text shown at.state (at.complete + 1) (line ∷ lines)
unfolding end_line end_text
prints-more shown at line text lines has later =
    let same : after_line at.state at.line ≡ after_line at.state line = ap (after_line at.state) has ∙ after_line-kept_part at.state line in
    ap (λ t. end_text shown at ++ t) later ∙ ap (λ o. outcome_text shown (at.complete + 1) o ++ lines_text shown (result_unwrap_or o at.state) (at.complete + 1 + 1) lines) same

Edits-more : (shown : Shown) (at last : EditingValue) (line text : List ℕ) (lines : List (List ℕ)) → at.line ≡ kept_part line → Edits shown (end_line at) last text lines
    → Edits shown at last (end_text shown at ++ text) (line ∷ lines)
unfolding end_line
Edits-more shown at last line text lines has later =
    let same : after_line at.state at.line ≡ after_line at.state line = ap (after_line at.state) has ∙ after_line-kept_part at.state line in
    record {
      prints = prints-more shown at line text lines has later.prints;
      state = later.state ∙ ap (λ o. state_after_all (result_unwrap_or o at.state) lines) same;
      refused = later.refused ∙ or_assoc at.refused _ _
          ∙ ap (λ o. at.refused || (is_err o || any_refused (result_unwrap_or o at.state) lines)) same;
      complete = let more = later.complete in omega arith;
    }

line-end_line : (at : EditingValue) → (end_line at).line ≡ kept_part []
unfolding end_line
line-end_line at = sym kept_part-nil

line-keep_byte : (at : EditingValue) (prefix : List ℕ) (b : ℕ) → at.line ≡ kept_part prefix → (keep_byte at b).line ≡ kept_part (prefix ++ b ∷ [])
line-keep_byte at prefix b has = ap (λ l. kept_part (l ++ b ∷ [])) has ∙ kept_part-append prefix (b ∷ [])

-- the end of the input
edits_end : (shown : Shown) (at : EditingValue) (prefix : List ℕ) → at.line ≡ kept_part prefix → Edits shown at (finish at at.line) (finish_text shown at at.line) (unless_empty prefix)
edits_end shown at [] has = subst (λ l. Edits shown at (finish at l) (finish_text shown at l) []) (sym (has ∙ kept_part-nil)) (Edits-none shown at)
edits_end shown at (b ∷ prefix) has =
    let cons = kept_part-cons b prefix in
    let one : Edits shown at (end_line at) (end_text shown at ++ []) ((b ∷ prefix) ∷ []) = Edits-more shown at (end_line at) (b ∷ prefix) [] [] has (Edits-none shown (end_line at)) in
    let last : Edits shown at (end_line at) (end_text shown at) ((b ∷ prefix) ∷ []) = subst (λ t. Edits shown at (end_line at) t ((b ∷ prefix) ∷ [])) (append-nil (end_text shown at)) one in
    subst (λ l. Edits shown at (finish at l) (finish_text shown at l) ((b ∷ prefix) ∷ [])) (sym (has ∙ cons.1)) last

-- the whole input, of which `prefix` stands before what is to come
edits_on : (shown : Shown) (at : EditingValue) (prefix bytes : List ℕ) → at.line ≡ kept_part prefix
    → Edits shown at (after_input (editing_after at bytes)) (bytes_text shown at bytes ++ input_end_text shown (editing_after at bytes)) (cut_lines unless_empty prefix bytes)
edits_on shown at prefix [] has = edits_end shown at prefix has
edits_on shown at prefix (b ∷ bytes) has =
    elim (b == 10) as (λ t. Edits shown at (after_input (editing_after (cond t (end_line at) (keep_byte at b)) bytes))
    (cond t (end_text shown at ++ bytes_text shown (end_line at) bytes) (bytes_text shown (keep_byte at b) bytes) ++ input_end_text shown (editing_after (cond t (end_line at) (keep_byte at b)) bytes))
    (cond t (prefix ∷ cut_lines unless_empty [] bytes) (cut_lines unless_empty (prefix ++ b ∷ []) bytes))) [
      | true ↦
          let last = editing_after (end_line at) bytes in
          let lines = prefix ∷ cut_lines unless_empty [] bytes in
          let more = Edits-more shown at (after_input last) prefix _ _ has (edits_on shown (end_line at) [] bytes (line-end_line at)) in
          subst (λ t. Edits shown at (after_input last) t lines) (sym (append_assoc (end_text shown at) (bytes_text shown (end_line at) bytes) (input_end_text shown last))) more
      | false ↦
          let more = edits_on shown (keep_byte at b) (prefix ++ b ∷ []) bytes (line-keep_byte at prefix b has) in
          record { prints = more.prints; state = more.state; refused = more.refused; complete = more.complete }
    ]

-- a part of the input prints the text of the lines that end in it
prints_complete_on : (shown : Shown) (at : EditingValue) (prefix bytes : List ℕ) → at.line ≡ kept_part prefix
    → bytes_text shown at bytes ≡ lines_text shown at.state (at.complete + 1) (cut_lines (λ rest. []) prefix bytes)
prints_complete_on shown at prefix [] has = refl
prints_complete_on shown at prefix (b ∷ bytes) has =
    elim (b == 10) as (λ t. cond t (end_text shown at ++ bytes_text shown (end_line at) bytes) (bytes_text shown (keep_byte at b) bytes)
    ≡ lines_text shown at.state (at.complete + 1) (cond t (prefix ∷ cut_lines (λ rest. []) [] bytes) (cut_lines (λ rest. []) (prefix ++ b ∷ []) bytes))) [
      | true ↦ prints-more shown at prefix _ _ has (prints_complete_on shown (end_line at) [] bytes (line-end_line at))
      | false ↦ prints_complete_on shown (keep_byte at b) (prefix ++ b ∷ []) bytes (line-keep_byte at prefix b has)
    ]

-- the last answer, told as it was given

plan_after-told : (plan : Bool) (state : State) (after : Result State LineRefusal) → plan ≡ is_plan (answer state)
    → plan_after plan after ≡ is_plan (answer (result_unwrap_or after state))
plan_after-told plan state (Ok next) told = refl
plan_after-told plan state (Err refused) told = told

plan-end_line : (at : EditingValue) → at.plan ≡ is_plan (answer at.state) → (end_line at).plan ≡ is_plan (answer (end_line at).state)
unfolding end_line
plan-end_line at told = plan_after-told at.plan at.state (after_line at.state at.line) told

plan-editing_after : (at : EditingValue) (bytes : List ℕ) → at.plan ≡ is_plan (answer at.state)
    → (editing_after at bytes).plan ≡ is_plan (answer (editing_after at bytes).state)
plan-editing_after at [] told = told
plan-editing_after at (b ∷ bytes) told =
    elim (b == 10) as (λ t. (editing_after (cond t (end_line at) (keep_byte at b)) bytes).plan ≡ is_plan (answer (editing_after (cond t (end_line at) (keep_byte at b)) bytes).state)) [
      | true ↦ plan-editing_after (end_line at) bytes (plan-end_line at told)
      | false ↦ plan-editing_after (keep_byte at b) bytes told
    ]

plan-finish : (at : EditingValue) (line : List ℕ) → at.plan ≡ is_plan (answer at.state) → (finish at line).plan ≡ is_plan (answer (finish at line).state)
plan-finish at [] told = told
plan-finish at (b ∷ line) told = plan-end_line at told

pub plan_told : (state : State) (bytes : List ℕ) → (after_input (editing_after (start state) bytes)).plan ≡ is_plan (answer (after_input (editing_after (start state) bytes)).state)
plan_told state bytes =
    let at = editing_after (start state) bytes in
    plan-finish at at.line (plan-editing_after (start state) bytes refl)

-- the whole input
pub edits : (shown : Shown) (state : State) (bytes : List ℕ)
    → Edits shown (start state) (after_input (editing_after (start state) bytes)) (bytes_text shown (start state) bytes ++ input_end_text shown (editing_after (start state) bytes)) (input_lines bytes)
edits shown state bytes = edits_on shown (start state) [] bytes (sym kept_part-nil)

complete-finish : (at : EditingValue) (line : List ℕ) → (finish at line).complete ≡ at.complete + min 1 (length line)
unfolding end_line
complete-finish at [] = omega arith
complete-finish at (b ∷ line) = omega arith

-- the lines so far
pub complete-after_input : (at : EditingValue) → (after_input at).complete ≡ lines_begun at
complete-after_input at = complete-finish at at.line

-- a part of the input prints the text of the lines that end in it
pub prints_complete : (shown : Shown) (state : State) (bytes : List ℕ) → bytes_text shown (start state) bytes ≡ lines_text shown state 1 (complete_lines bytes)
prints_complete shown state bytes = prints_complete_on shown (start state) [] bytes (sym kept_part-nil)

-- bytes without an LF
IsPart : List ℕ → Type 0
IsPart bytes = (k : ℕ) → k < length bytes → (get_or bytes k 0 == 10) ≡ false

part_done : (at : EditingValue) (bytes : List ℕ) → IsPart bytes → kept_part at.line ≡ at.line → editing_after at bytes ≡ record at { line = kept_part (at.line ++ bytes) }
unfolding IsPart
part_done at [] part short = ap (λ l. record at { line = l }) (sym (ap kept_part (append-nil at.line) ∙ short))
part_done at (b ∷ bytes) part short =
    ap (λ t. editing_after (cond t (end_line at) (keep_byte at b)) bytes) (part 0 (omega arith))
    ∙ part_done (keep_byte at b) bytes (λ k below. part (suc k) (omega arith)) (kept_part-kept_part (at.line ++ b ∷ []))
    ∙ ap (λ l. record at { line = l }) (kept_part-append (at.line ++ b ∷ []) bytes ∙ ap kept_part (append_assoc at.line (b ∷ []) bytes))

part_text : (shown : Shown) (at : EditingValue) (bytes : List ℕ) → IsPart bytes → bytes_text shown at bytes ≡ []
unfolding IsPart
part_text shown at [] part = refl
part_text shown at (b ∷ bytes) part =
    ap (λ t. cond t (end_text shown at ++ bytes_text shown (end_line at) bytes) (bytes_text shown (keep_byte at b) bytes)) (part 0 (omega arith))
    ∙ part_text shown (keep_byte at b) bytes (λ k below. part (suc k) (omega arith))

IsPart-none : (bytes : List ℕ) → IsFirstByte (is_byte 10) bytes None → IsPart bytes
unfolding IsPart
IsPart-none bytes none k below = false_from_ne_true _ (none k (omega arith) below)

-- up to the first LF, and that LF
record UpToLf (bytes : List ℕ) (n : ℕ) : Type 0 where
  pub within : n < length bytes
  pub part : IsPart (take n bytes)
  pub whole : take (n + 1) bytes ≡ take n bytes ++ 10 ∷ []

UpToLf-some : (bytes : List ℕ) (n : ℕ) → IsFirstByte (is_byte 10) bytes (Some n) → UpToLf bytes n
unfolding IsPart
UpToLf-some bytes n found =
    record {
      within = found.0.high;
      part = λ k below.
          let less : k < n = (let size = length-take n bytes in omega arith) in
          ap (λ b. b == 10) (get_or-take n bytes k 0 less) ∙ false_from_ne_true _ (found.0.before k (omega arith) less);
      whole = take_more bytes n 0 found.0.high ∙ ap (λ b. take n bytes ++ b ∷ []) (eqb-true (get_or bytes n 0) 10 found.1);
    }

pub line_done : (at : EditingValue) (bytes : List ℕ) (n : ℕ) → IsFirstByte (is_byte 10) bytes (Some n) → kept_part at.line ≡ at.line
    → editing_after at (take (n + 1) bytes) ≡ end_line (record at { line = kept_part (at.line ++ take n bytes) })
line_done at bytes n some short =
    let up = UpToLf-some bytes n some in
    ap (editing_after at) up.whole ∙ editing_after-append at (take n bytes) (10 ∷ []) ∙ ap (λ a. end_line a) (part_done at (take n bytes) up.part short)

pub line_prints : (shown : Shown) (at : EditingValue) (bytes : List ℕ) (n : ℕ) → IsFirstByte (is_byte 10) bytes (Some n) → kept_part at.line ≡ at.line
    → bytes_text shown at (take (n + 1) bytes) ≡ end_text shown (record at { line = kept_part (at.line ++ take n bytes) })
line_prints shown at bytes n some short =
    let up = UpToLf-some bytes n some in
    ap (bytes_text shown at) up.whole ∙ bytes_text-append shown at (take n bytes) (10 ∷ [])
    ∙ ap (λ t. t ++ bytes_text shown (editing_after at (take n bytes)) (10 ∷ [])) (part_text shown at (take n bytes) up.part)
    ∙ append-nil (end_text shown (editing_after at (take n bytes)))
    ∙ ap (λ a. end_text shown a) (part_done at (take n bytes) up.part short)

-- all bytes, where none is an LF

pub rest_done : (at : EditingValue) (bytes : List ℕ) → IsFirstByte (is_byte 10) bytes None → kept_part at.line ≡ at.line
    → editing_after at bytes ≡ record at { line = kept_part (at.line ++ bytes) }
rest_done at bytes none short = part_done at bytes (IsPart-none bytes none) short

pub rest_prints : (shown : Shown) (at : EditingValue) (bytes : List ℕ) → IsFirstByte (is_byte 10) bytes None → bytes_text shown at bytes ≡ []
rest_prints shown at bytes none = part_text shown at bytes (IsPart-none bytes none)

-- what a line keeps of more bytes
take-append_capacity : (n : ℕ) (xs ys : List ℕ) → length xs ≤ n → take n (xs ++ ys) ≡ xs ++ take (n - length xs) ys
take-append_capacity n [] ys fits = ap (λ m. take m ys) (omega arith)
take-append_capacity zero (x ∷ xs) ys fits = absurd (omega arith)
take-append_capacity (suc n) (x ∷ xs) ys fits =
    let less : length xs ≤ n = omega arith in
    let same : n - length xs ≡ suc n - suc (length xs) = omega arith in
    ap (λ l. x ∷ l) (take-append_capacity n xs ys less ∙ ap (λ m. xs ++ take m ys) same)

take-min_length : (n : ℕ) (ys : List ℕ) → take (min (length ys) n) ys ≡ take n ys
take-min_length n ys = ap (λ m. take m ys) (omega arith) ∙ take_min n ys

pub kept_part_capacity : (xs ys : List ℕ) → length xs ≤ line_limit + 1 → kept_part (xs ++ ys) ≡ xs ++ take (min (length ys) (line_limit + 1 - length xs)) ys
unfolding kept_part
kept_part_capacity xs ys fits = take-append_capacity (line_limit + 1) xs ys fits ∙ ap (λ l. xs ++ l) (sym (take-min_length (line_limit + 1 - length xs) ys))

pub begun-end_line : (at : EditingValue) → lines_begun (end_line at) ≡ at.complete + 1
unfolding end_line
begun-end_line at = omega arith

kept_some : (line : List ℕ) (b : ℕ) → 0 < length (kept_part (line ++ b ∷ []))
kept_some [] b = rw ((kept_part-cons b []).1) (omega arith)
kept_some (c ∷ line) b = rw ((kept_part-cons c (line ++ b ∷ [])).1) (omega arith)

begun-keep_byte : (at : EditingValue) (b : ℕ) → lines_begun (keep_byte at b) ≡ at.complete + 1
begun-keep_byte at b =
    let some : 0 < length (kept_part (at.line ++ b ∷ [])) = kept_some at.line b in
    omega arith

-- the lines so far, with one byte more
pub begun-byte : (at : EditingValue) (b : ℕ) → lines_begun (cond (b == 10) (end_line at) (keep_byte at b)) ≡ at.complete + 1
begun-byte at b = elim (b == 10) as (λ t. lines_begun (cond t (end_line at) (keep_byte at b)) ≡ at.complete + 1) [
  | true ↦ begun-end_line at
  | false ↦ begun-keep_byte at b
]

begun_step : (complete len next last : ℕ) → next ≡ complete + 1 → next ≤ last → complete + min 1 len ≤ last
begun_step complete len next last one more = omega arith

begun_first : (complete next last : ℕ) → next ≡ complete + 1 → next ≤ last → complete + 1 ≤ last
begun_first complete next last one more = omega arith

pub begun-le : (at : EditingValue) (bytes : List ℕ) → lines_begun at ≤ lines_begun (editing_after at bytes)
begun-le at [] = omega arith
begun-le at (b ∷ bytes) =
    let next = cond (b == 10) (end_line at) (keep_byte at b) in
    let more : lines_begun next ≤ lines_begun (editing_after next bytes) = begun-le next bytes in
    let one : lines_begun next ≡ at.complete + 1 = begun-byte at b in
    begun_step (at.complete) (length at.line) (lines_begun next) (lines_begun (editing_after next bytes)) one more

-- a byte after the last line that may be
pub begun_past : (at : EditingValue) (bytes : List ℕ) → 0 < length bytes → at.complete + 1 ≤ lines_begun (editing_after at bytes)
begun_past at [] none = absurd (omega arith)
begun_past at (b ∷ bytes) some =
    let next = cond (b == 10) (end_line at) (keep_byte at b) in
    let more : lines_begun next ≤ lines_begun (editing_after next bytes) = begun-le next bytes in
    let one : lines_begun next ≡ at.complete + 1 = begun-byte at b in
    begun_first at.complete (lines_begun next) (lines_begun (editing_after next bytes)) one more

-- what a part prints stands before what the whole prints
pub text_prefix : (shown : Shown) (at : EditingValue) (bytes : List ℕ) (n : ℕ) → bytes_text shown at bytes ≡ bytes_text shown at (take n bytes) ++ bytes_text shown (editing_after at (take n bytes)) (drop n bytes)
text_prefix shown at bytes n = ap (bytes_text shown at) (sym (take-append-drop n bytes)) ∙ bytes_text-append shown at (take n bytes) (drop n bytes)

pub done_prefix : (at : EditingValue) (bytes : List ℕ) (n : ℕ) → editing_after at bytes ≡ editing_after (editing_after at (take n bytes)) (drop n bytes)
done_prefix at bytes n = ap (editing_after at) (sym (take-append-drop n bytes)) ∙ editing_after-append at (take n bytes) (drop n bytes)
