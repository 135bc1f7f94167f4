-- How far the readers go.
use Rattle.std.specs.Prelude.{ℕ, ◌-◌, ◌≤◌, ⊤, List, length, Option, Result, IfOk, IfSome}
use Rattle.std.specs.declared.alloc.AllocError.{AllocError}
use Rattle.pylock_spans.specs.declared.reading.Line.{Line}
use Rattle.pylock_spans.specs.declared.reading.Line.TheVariants.{Header, Pair}
use Rattle.pylock_spans.specs.declared.reading.LineAt.{LineAt}

-- what is read takes no more bytes than the text has
abbrev pub TakesSome : List ℕ → Result (Option ℕ) AllocError → Type 0
TakesSome text r = IfOk r (λ found. IfSome found (λ taken. taken ≤ length text))

-- a value begins within so many bytes
abbrev pub BeginsIn : ℕ → Line → Type 0
BeginsIn bytes (Header k a) = ⊤
BeginsIn bytes (Pair p) = p.before_value ≤ bytes

-- a line of the text
abbrev pub IsLineOf : List ℕ → LineAt → Type 0
IsLineOf text found =
    (found.start ≤ length text) × BeginsIn (length text - found.start) found.line
