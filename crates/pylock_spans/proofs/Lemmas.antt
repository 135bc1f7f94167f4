-- How a place moves on through a text.
use Rattle.std.proofs.Common.{◌≡◌, ◌∙◌, ℕ, ◌+◌, ◌-◌, ◌≤◌, ◌++◌, List, [], ◌∷◌, length, take, drop, ap, refl, sym, arith}
use Rattle.std.proofs.Math.Seq.{take-add}
use Rattle.std.proofs.lemmas.List.{length-take-le}
use Rattle.std.proofs.lemmas.Bool.Decides.{nat_tests}
use Rattle.pylock_spans.specs.declared.place.Place.{Place}
use Rattle.pylock_spans.specs.declared.start.EntryStart.{EntryStart}
use Rattle.pylock_spans.specs.Places.{IsStart}
use Rattle.pylock_spans.specs.Place.{behind, first_place, place_behind, place_of}

-- the bytes of two texts, one after the other
pub place_behind_both : (place : Place) (xs ys : List ℕ) → place_behind place (xs ++ ys) ≡ place_behind (place_behind place xs) ys
place_behind_both place [] ys = refl
place_behind_both place (x ∷ xs) ys = place_behind_both (behind place x) xs ys

-- a place that isn't behind a byte leads to the place of the byte
pub place_moves : (text : List ℕ) (from at : ℕ) → from ≤ at
    → place_behind (place_of (take from text)) (take (at - from) (drop from text)) ≡ place_of (take at text)
place_moves text from at order =
    let sum : from + (at - from) ≡ at = omega (arith, order) in
    sym (place_behind_both first_place (take from text) (take (at - from) (drop from text)))
    ∙ ap place_of (sym (take-add from (at - from) text))
    ∙ ap (λ n. place_of (take n text)) sum

-- ---- a byte adds at most a line, or a column

pub line_step : (place : Place) (b : ℕ) → (behind place b).line ≤ place.line + 1
line_step place b = grind (arith, nat_tests)

pub column_step : (place : Place) (b : ℕ) → (behind place b).column ≤ place.column + 1
column_step place b = grind (arith, nat_tests)

pub line_behind : (place : Place) (bs : List ℕ) → (place_behind place bs).line ≤ place.line + length bs
line_behind place [] = omega arith
line_behind place (b ∷ bs) =
    let step = line_step place b in
    let more = line_behind (behind place b) bs in
    omega (arith, step, more)

pub column_behind : (place : Place) (bs : List ℕ) → (place_behind place bs).column ≤ place.column + length bs
column_behind place [] = omega arith
column_behind place (b ∷ bs) =
    let step = column_step place b in
    let more = column_behind (behind place b) bs in
    omega (arith, step, more)

-- the place of a start is within as many lines and columns as there are bytes before it
pub starts_early : (text : List ℕ) (start : EntryStart) → IsStart text start
    → (start.place.line ≤ start.at + 1) × (start.place.column ≤ start.at + 1)
starts_early text start is =
    let before = take start.at text in
    let size : length before ≡ start.at = length-take-le start.at text is.0 in
    let lines : (place_of before).line ≤ 1 + length before = line_behind first_place before in
    let columns : (place_of before).column ≤ 1 + length before = column_behind first_place before in
    let line : start.place.line ≡ (place_of before).line = ap (λ p. p.line) is.1 in
    let column : start.place.column ≡ (place_of before).column = ap (λ p. p.column) is.1 in
    (omega (arith, size, lines, line), omega (arith, size, columns, column))
