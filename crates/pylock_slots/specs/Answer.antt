-- What a call answers and leaves behind.
use Rattle.std.specs.Prelude.{◌≡◌, ℕ, ℤ, pos, ◌++◌, List, length, drop, nat_lt, Bool, if◌then◌else◌}
use Rattle.std.specs.Prelude.{Option, Result, Ok, Err}
use Rattle.std.specs.Result.{result_map_both}
use Rattle.pytext.specs.Agreement.{Gives}
use Rattle.pylock_slots.specs.Refusal.{number}
use Rattle.pylock_slots.specs.declared.object.Object.{Object}
use Rattle.pylock_slots.specs.declared.refusal.Refusal.{Refusal}
use Rattle.pylock_slots.specs.declared.refusal.Refusal.TheVariants.{Memory}

-- ---- an outcome as C sees it: a code, and a place with the value or with what it had

abbrev pub code_of : {X : Type 0} → Result X Refusal → ℤ
code_of (Ok x) = pos 0
code_of (Err refusal) = number refusal

abbrev pub value_or : {X : Type 0} → X → Result X Refusal → X
value_or old (Ok x) = x
value_or old (Err refusal) = old

-- The call does what the definition says, or memory runs out: its outcome is what C sees by the
-- code and the place.
abbrev pub Tells : {X : Type 0} → Result X Refusal → X → X → ℤ → Type 0
Tells {X = X} definition old new code = (outcome : Result X Refusal)
    × Gives Memory (λ x. x) outcome definition
    × (code ≡ code_of outcome) × (new ≡ value_or old outcome)

-- an edit of what a slot keeps: the object after it, or the refusal, which leaves the slot
abbrev pub Edits : Result (Option Object) Refusal → Option Object → Option Object
    → Result (Unit {0}) Refusal → Type 0
Edits definition old new (Ok done) = definition ≡ Ok new
Edits definition old new (Err refusal) =
    (new ≡ old) × ((refusal ≡ Memory → ⊥) → definition ≡ Err refusal)

-- ---- an outcome in a buffer

-- whether the buffer is too small for the items
abbrev pub is_short : {X : Type 0} → List X → List X → Bool
is_short buffer items = nat_lt (length buffer) (length items)

abbrev pub written_code : {X : Type 0} → List X → Result (List X) Refusal → ℤ
written_code buffer (Ok items) = if is_short buffer items then pos 4 else pos 0
written_code buffer (Err refusal) = number refusal

-- the buffer after the call: the items and what stood behind them, or what it had
abbrev pub written : {X : Type 0} → List X → Result (List X) Refusal → List X
written buffer (Ok items) =
    if is_short buffer items then buffer else items ++ drop (length items) buffer
written buffer (Err refusal) = buffer

-- how many items the result has
abbrev pub needed_or : {X : Type 0} → ℕ → Result (List X) Refusal → ℕ
needed_or old (Ok items) = length items
needed_or old (Err refusal) = old

abbrev pub Writes : {X : Type 0} → Result (List X) Refusal → List X → List X → ℕ → ℕ → ℤ → Type 0
Writes {X = X} definition old new needed needed' code = (outcome : Result (List X) Refusal)
    × Gives Memory (λ items. items) outcome definition
    × (code ≡ written_code old outcome) × (new ≡ written old outcome)
    × (needed' ≡ needed_or needed outcome)

-- the items of a result, and the value beside them
abbrev pub items_of : {X V : Type 0} → Result (List X × V) Refusal → Result (List X) Refusal
items_of outcome = result_map_both (λ told. told.0) (λ refusal. refusal) outcome

abbrev pub beside : {X V : Type 0} → Result (List X × V) Refusal → Result V Refusal
beside outcome = result_map_both (λ told. told.1) (λ refusal. refusal) outcome

-- the same with a value at a place beside it, which is set also where the items have no room
abbrev pub WritesWith : {X V : Type 0} → Result (List X × V) Refusal → List X → List X → ℕ → ℕ
    → V → V → ℤ → Type 0
WritesWith {X = X} {V = V} definition old new needed needed' value value' code =
    (outcome : Result (List X × V) Refusal)
    × Gives Memory (λ told. told) outcome definition
    × (code ≡ written_code old (items_of outcome)) × (new ≡ written old (items_of outcome))
    × (needed' ≡ needed_or needed (items_of outcome))
    × (value' ≡ value_or value (beside outcome))

-- ---- an outcome in two buffers

-- the first items of a result, the second ones, and the value beside them
abbrev pub first_of : {X Y V : Type 0} → Result (List X × List Y × V) Refusal
    → Result (List X) Refusal
first_of outcome = result_map_both (λ told. told.0) (λ refusal. refusal) outcome

abbrev pub second_of : {X Y V : Type 0} → Result (List X × List Y × V) Refusal
    → Result (List Y) Refusal
second_of outcome = result_map_both (λ told. told.1) (λ refusal. refusal) outcome

abbrev pub beside_both : {X Y V : Type 0} → Result (List X × List Y × V) Refusal → Result V Refusal
beside_both outcome = result_map_both (λ told. told.2) (λ refusal. refusal) outcome

-- the code of the first items where they have no room, else that of the second ones
abbrev pub both_code : {X Y V : Type 0} → List X → List Y → Result (List X × List Y × V) Refusal → ℤ
both_code first second (Ok told) =
    if is_short first told.0 then pos 4 else written_code second (Ok told.1)
both_code first second (Err refusal) = number refusal

-- a buffer and the number that is told of it, after the call
abbrev pub told_in : {X : Type 0} → List X × ℕ → Result (List X) Refusal → List X × ℕ
told_in place outcome = (written place.0 outcome, needed_or place.1 outcome)

-- each of two lists in its buffer where it has room there, and a value at a place beside them,
-- which is set also where one of them has none
abbrev pub WritesBoth : {X Y V : Type 0} → Result (List X × List Y × V) Refusal
    → List X × ℕ → List X × ℕ → List Y × ℕ → List Y × ℕ → V → V → ℤ → Type 0
WritesBoth {X = X} {Y = Y} {V = V} definition first first' second second' value value' code =
    (outcome : Result (List X × List Y × V) Refusal)
    × Gives Memory (λ told. told) outcome definition
    × (code ≡ both_code first.0 second.0 outcome)
    × (first' ≡ told_in first (first_of outcome))
    × (second' ≡ told_in second (second_of outcome))
    × (value' ≡ value_or value (beside_both outcome))
