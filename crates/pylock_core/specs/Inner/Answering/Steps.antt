-- The installation steps over the flat rows of a session, where names are numbers.
use Rattle.std.specs.Prelude.{◌≡◌, ◌<◌, ℕ, Bool, true, false, ◌||◌, nat_eq, List, ◌∷◌, filter}
use Rattle.std.specs.Prelude.{Option, Some, None, Result, Ok, Err, slice_index_or}
use Rattle.std.specs.Prelude.{[], if◌then◌else◌}
use Rattle.std.specs.List.{list_any}
use Rattle.pylock_core.specs.Inner.Tables.Names.{policy_at}
use Rattle.pylock_core.specs.Session.Steps.{FirstFault, by_standing, pick_before}
use Rattle.pylock_core.specs.declared.answer.FaultCode.TheVariants.{Ambiguous}
use Rattle.pylock_core.specs.declared.answer.FaultCode.TheVariants.{Sources as ManySources}
use Rattle.pylock_core.specs.declared.answer.Pick.{Pick}
use Rattle.pylock_core.specs.declared.answer.Standing.{Standing}
use Rattle.pylock_core.specs.declared.answer.Standing.TheVariants.{Skipped, Faulty, Active}
use Rattle.pylock_core.specs.declared.edit.Policy.{Policy}
use Rattle.pylock_core.specs.Inner.Answering.SlatedNames.{HasPlace}
use Rattle.pylock_core.specs.declared.session.tables.rows.Row.{Row}
use Rattle.pylock_core.specs.declared.session.answering.slated_names.SlatedNames.{SlatedNames}
use Rattle.pylock_core.specs.Inner.Tables.Rows.{row_source, row_at}

-- whether a number is among these
abbrev pub has_number : List ℕ → ℕ → Bool
has_number numbers n = list_any (nat_eq n) numbers

abbrev pub put_row : ℕ × Row → Result (List (ℕ × Row)) FirstFault
    → Result (List (ℕ × Row)) FirstFault
put_row e (Ok slated) = Ok (e ∷ slated)
put_row e (Err fault) = Err fault

-- how an entry stands that is to be installed by its own, where its name is shared or not, and its
-- sources conflict or not
abbrev pub checked_standing : Bool → Bool → Standing
checked_standing shared conflict =
    if shared then Faulty Ambiguous else if conflict then Faulty ManySources else Active

-- how a row stands, where its name is shared or not
abbrev pub row_standing : Row → Bool → Standing
row_standing row shared =
    by_standing row.verdict.standing Skipped Faulty
    (checked_standing shared row.sources.conflict)

-- step 5
abbrev pub slate_rows : List (ℕ × Row) → List ℕ → Result (List (ℕ × Row)) FirstFault
slate_rows [] names = Ok []
slate_rows (e ∷ es) names =
    by_standing (row_standing e.1 (has_number names e.1.name))
    (slate_rows es names)
    (λ code. Err (e.0, code))
    (put_row e (slate_rows es (e.1.name ∷ names)))

-- step 6
abbrev pub pick_rows : List (ℕ × Row) → List Policy → Result (List Pick) FirstFault
pick_rows [] policies = Ok []
pick_rows (e ∷ es) policies =
    pick_before e.0 (row_source e.1 (policy_at policies e.1.name)) (pick_rows es policies)

abbrev pub picks_after_rows : Result (List (ℕ × Row)) FirstFault → List Policy
    → Result (List Pick) FirstFault
picks_after_rows (Ok slated) policies = pick_rows slated policies
picks_after_rows (Err fault) policies = Err fault

-- which names are slated after an entry that stands so, whose name has this number
abbrev pub slated_after : Standing → (ℕ → Bool) → ℕ → ℕ → Bool
slated_after Skipped slated name n = slated n
slated_after (Faulty code) slated name n = slated n
slated_after Active slated name n = nat_eq n name || slated n

-- these numbers, and no other, are slated
abbrev pub AreSlated : (ℕ → Bool) → List ℕ → Type 0
AreSlated slated names = (n : ℕ) → slated n ≡ has_number names n

-- each row has a name below the count
abbrev pub NamesBelow : ℕ → List (Option Row) → Type 0
NamesBelow count rows =
    (k : ℕ) (row : Row) → slice_index_or rows k None ≡ Some row → row.name < count

-- each row's name can be slated
abbrev pub HavePlaces : SlatedNames → List (Option Row) → Type 0
HavePlaces slated rows =
    (k : ℕ) (row : Row) → slice_index_or rows k None ≡ Some row → HasPlace slated row.name

-- a row with its number before others, where it stands
abbrev pub and_row : ℕ → Option Row → List (ℕ × Row) → List (ℕ × Row)
and_row n None es = es
and_row n (Some row) es = (n, row) ∷ es

-- the rows of these numbers
abbrev pub numbered : List (Option Row) → List ℕ → List (ℕ × Row)
numbered rows [] = []
numbered rows (n ∷ ns) = and_row n (row_at rows n) (numbered rows ns)

-- whether an entry stands by its marker and its Python check, and the rows of those that do
abbrev pub is_active : Row → Bool
is_active row = by_standing row.verdict.standing false (λ code. false) true

abbrev pub active_rows : List (ℕ × Row) → List (ℕ × Row)
active_rows es = filter (λ e. is_active e.1) es

-- the fault, where there is one
abbrev pub fault_in : {A : Type 0} → Result A FirstFault → Option FirstFault
fault_in (Ok value) = None
fault_in (Err fault) = Some fault
