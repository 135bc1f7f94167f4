-- The options before a move and after it.
use Rattle.std.proofs.Common.{◌≡◌, ◌∙◌, ◌++◌, ℕ, Bool, true, false, if◌then◌else◌, List, [], ◌∷◌, map, Option, None, Some, option_map, Result, Ok, Err, ap, append_assoc, refl, subst, sym}
use Rattle.std.proofs.lemmas.Bool.{false≢true}
use Rattle.std.proofs.lemmas.List.{append-nil}
use Rattle.std.specs.List.{list_all}
use Rattle.std.specs.Prelude.{ok_or, option_and_then, codes, is_some, slice_get, unwrap_or}
use Rattle.std.specs.Option.{option_map_or}
use Rattle.std.specs.Result.{is_err, result_map_both, result_ok, result_unwrap_or}
use Rattle.std.specs.Str.{bytes_eq}
use Rattle.pytext.specs.Results.{◌>>=◌}
use Rattle.pyver_core.specs.Name.{is_name}
use Rattle.pywheel_core.specs.Target.Tags.{target_tags}
use Rattle.pywheel_core.specs.Target.Value.{TargetValue}
use Rattle.pylock_command.specs.declared.form.Form.{Form}
use Rattle.pylock_command.specs.declared.form.Form.TheVariants.{Lines, Json}
use Rattle.pylock_command.specs.declared.option.PlanOption.{PlanOption}
use Rattle.pylock_command.specs.declared.option.PlanOption.TheVariants as option
use Rattle.pylock_command.specs.declared.task.FilesOutput.{FilesOutput}
use Rattle.pylock_command.specs.declared.task.FilesOutput.TheVariants.{Shown, Tool}
use Rattle.pylock_command.specs.declared.task.MatrixOutput.{MatrixOutput}
use Rattle.pylock_command.specs.declared.task.MatrixOutput.TheVariants.{Files, Rows}
use Rattle.pylock_command.specs.declared.task.MatrixQuestion.{MatrixQuestion}
use Rattle.pylock_readers.specs.Entry.{EntryValue}
use Rattle.pylock_readers.specs.Lock.{LockValue}
use Rattle.pylock_readers.specs.Target.{target_environment}
use Rattle.pylock_core.specs.Session.State.{State, after_edits, first}
use Rattle.pylock_core.specs.declared.answer.Pick.{Pick}
use Rattle.pylock_core.specs.declared.edit.Edit.{Edit}
use Rattle.pylock_core.specs.declared.edit.EditError.{EditError}
use Rattle.pylock_core.specs.declared.edit.NameChange.TheVariants.{AddExtra, DropExtra, AddGroup, DropGroup}
use Rattle.pylock_core.specs.declared.edit.Policy.{Policy as FilePolicy}
use Rattle.pylock_core.specs.declared.edit.Policy.TheVariants.{Wheel, Source}
use Rattle.pylock_matrix.proofs.EditLemmas.{edits_moved}
use Rattle.pylock_matrix.proofs.MovingLemmas.{first_placed, placed_has}
use Rattle.pylock_matrix.specs.Cell.{CellValue}
use Rattle.pylock_matrix.specs.Files.{files_on}
use Rattle.pylock_matrix.specs.Row.{row_of}
use Rattle.pylock_matrix.specs.declared.row.Row.{Row}
use Rattle.pylock_run.specs.Report.{Report}
use Rattle.pylock_run.specs.Report.Print.{Prints}
use Rattle.pylock_run.specs.Stream.{SinkValue}
use Rattle.pylock_run.specs.declared.report.fault.RunFault.{RunFault}
use Rattle.pylock_matrix.specs.Moving.{HasVariables, first_on, is_movable, placed, placed_if, settings_of, unmoved}
use Rattle.pylock_matrix.specs.declared.setting.Setting.{Setting}
use Rattle.pylock_program.specs.Matrix.{asked_settings, begun, begun_report, option_settings, picked_report, rows_from, rows_report, rows_status, targets_report}
use Rattle.pylock_program.specs.Opening.{chosen_state}
use Rattle.pylock_program.specs.PlanOptions.{after_option, after_options, edit_of_name, edits_of, has_entry, name_edit, no_edits_if, policies, set_edits, setting_of}
use Rattle.pylock_program.specs.declared.options.NameEdit.{NameEdit}
use Rattle.pylock_program.specs.declared.options.NameEdit.TheVariants.{Change, Policy}
use Rattle.pylock_program.specs.declared.refusal.Cause.{Cause}
use Rattle.pylock_program.specs.declared.refusal.Cause.TheVariants as cause

-- ---- the edits of an option

-- the edits may as well be made on another target, and make these settings
abbrev Moves : List Setting → List Edit → Type 0
Moves settings edits = (list_all is_movable edits ≡ true) × (settings_of edits ≡ settings)

abbrev MovesIf : List Setting → Option (List Edit) → Type 0
MovesIf settings None = Unit {0}
MovesIf settings (Some edits) = Moves settings edits

name_first : (change : NameEdit) (name : List ℕ) (edits : List Edit) → Moves [] edits → Moves [] (name_edit change name ∷ edits)
name_first (Change AddExtra) name edits moves = moves
name_first (Change DropExtra) name edits moves = moves
name_first (Change AddGroup) name edits moves = moves
name_first (Change DropGroup) name edits moves = moves
name_first (Policy policy) name edits moves = moves

names_move : (change : NameEdit) (names : List (List ℕ)) (edits : List Edit) → Moves [] edits → Moves [] (map (name_edit change) names ++ edits)
names_move change [] edits moves = moves
names_move change (name ∷ names) edits moves = name_first change name (map (name_edit change) names ++ edits) (names_move change names edits moves)

all_names_move : (change : NameEdit) (names : List (List ℕ)) → Moves [] (map (name_edit change) names)
all_names_move change [] = (refl, refl)
all_names_move change (name ∷ names) = name_first change name (map (name_edit change) names) (all_names_move change names)

entries_move : (policy : FilePolicy) (entries : List (ℕ × EntryValue)) → Moves [] (map (λ entry. name_edit (Policy policy) entry.1.name) entries)
entries_move policy [] = (refl, refl)
entries_move policy (entry ∷ entries) =
    name_first (Policy policy) entry.1.name (map (λ entry. name_edit (Policy policy) entry.1.name) entries) (entries_move policy entries)

if_moves : (test : Bool) (made : Option (List Edit)) (others : Option (List Edit)) → MovesIf [] made → MovesIf [] others → MovesIf [] (if test then made else others)
if_moves true made others moves also = moves
if_moves false made others moves also = also

name_moves : (change : NameEdit) (name : List ℕ) → MovesIf [] (edit_of_name change name)
name_moves change name = if_moves (is_name name) (Some (name_edit change name ∷ [])) None (name_first change name [] (refl, refl)) tt

policies_move : (state : State) (policy : FilePolicy) (text : List ℕ) → MovesIf [] (policies state policy text)
policies_move state policy text =
    if_moves (bytes_eq text (codes ":all:")) (Some (map (λ entry. name_edit (Policy policy) entry.1.name) state.entries)) (edit_of_name (Policy policy) text)
    (entries_move policy state.entries) (name_moves (Policy policy) text)

no_move : (is_so : Bool) → MovesIf [] (no_edits_if is_so)
no_move true = (refl, refl)
no_move false = tt

option_moves : (state : State) (option : PlanOption) → MovesIf (option_settings option) (edits_of state option)
option_moves state option.AllExtras = all_names_move (Change AddExtra) state.head.extras
option_moves state (option.Extra name) = name_moves (Change AddExtra) name.now
option_moves state option.NoDefaultGroups = all_names_move (Change DropGroup) state.head.default_groups
option_moves state option.AllGroups =
    names_move (Change AddGroup) state.head.groups (map (name_edit (Change AddGroup)) state.head.default_groups) (all_names_move (Change AddGroup) state.head.default_groups)
option_moves state (option.Group name) = name_moves (Change AddGroup) name.now
option_moves state (option.NoGroup name) = name_moves (Change DropGroup) name.now
option_moves state (option.OnlyBinary name) = policies_move state Wheel name.now
option_moves state (option.NoBinary name) = policies_move state Source name.now
option_moves state (option.Only name) = no_move (has_entry state name.now)
option_moves state (option.Except name) = no_move (has_entry state name.now)
option_moves state option.NoProject = no_move true
option_moves state (option.Set text) = by (setting_of text.now)
  where
    by : (setting : Option Setting) → MovesIf (option_map_or (λ s. s ∷ []) setting []) (option_map set_edits setting)
    by None = tt
    by (Some setting) = (refl, refl)

-- no move changes what an option means
edits_stay : (target : TargetValue) (settings : List Setting) (state : State) (option : PlanOption)
    → edits_of (placed target settings state) option ≡ edits_of state option
edits_stay target settings state option.AllExtras = refl
edits_stay target settings state (option.Extra name) = refl
edits_stay target settings state option.NoDefaultGroups = refl
edits_stay target settings state option.AllGroups = refl
edits_stay target settings state (option.Group name) = refl
edits_stay target settings state (option.NoGroup name) = refl
edits_stay target settings state (option.OnlyBinary name) = refl
edits_stay target settings state (option.NoBinary name) = refl
edits_stay target settings state (option.Set text) = refl
edits_stay target settings state (option.Only name) = refl
edits_stay target settings state (option.Except name) = refl
edits_stay target settings state option.NoProject = refl

-- ---- the state after options

ok_placed : (target : TargetValue) (settings : List Setting) (edited : Result State EditError)
    → result_ok (placed_if target settings edited) ≡ option_map (placed target settings) (result_ok edited)
ok_placed target settings (Ok state) = refl
ok_placed target settings (Err error) = refl

made_moved : (target : TargetValue) (settings more : List Setting) (state : State) (edits : Option (List Edit)) → MovesIf more edits
    → option_and_then (λ edits. result_ok (after_edits edits (placed target settings state))) edits
    ≡ option_map (placed target (settings ++ more)) (option_and_then (λ edits. result_ok (after_edits edits state)) edits)
made_moved target settings more state None moves = refl
made_moved target settings more state (Some edits) moves =
    ap result_ok (edits_moved edits target settings state moves.0)
    ∙ ap (λ (ss : List Setting). result_ok (placed_if target (settings ++ ss) (after_edits edits state))) moves.1
    ∙ ok_placed target (settings ++ more) (after_edits edits state)

option_moved : (option : PlanOption) (target : TargetValue) (settings : List Setting) (state : State)
    → after_option option (placed target settings state) ≡ option_map (placed target (settings ++ option_settings option)) (after_option option state)
option_moved option target settings state =
    ap (option_and_then (λ edits. result_ok (after_edits edits (placed target settings state)))) (edits_stay target settings state option)
    ∙ made_moved target settings (option_settings option) state (edits_of state option) (option_moves state option)

-- the state that options gave, on the target; a refusal stays
abbrev pub placed_or : {E : Type 0} → TargetValue → List Setting → Result State E → Result State E
placed_or target settings chosen = result_map_both (placed target settings) (λ refused. refused) chosen

behind : (target : TargetValue) (settings more others : List Setting) (option : PlanOption) (options : List PlanOption) (chosen : Option State)
    → ((state : State) → after_options options (placed target (settings ++ more) state) ≡ placed_or target ((settings ++ more) ++ others) (after_options options state))
    → (ok_or (option_map (placed target (settings ++ more)) chosen) option >>= after_options options)
    ≡ placed_or target (settings ++ (more ++ others)) (ok_or chosen option >>= after_options options)
behind target settings more others option options (Some state) moves =
    moves state ∙ ap (λ (ss : List Setting). placed_or target ss (after_options options state)) (append_assoc settings more others)
behind target settings more others option options None moves = refl

pub options_moved : (options : List PlanOption) (target : TargetValue) (settings : List Setting) (state : State)
    → after_options options (placed target settings state) ≡ placed_or target (settings ++ asked_settings options) (after_options options state)
options_moved [] target settings state = ap (λ (ss : List Setting). Ok (placed target ss state)) (sym (append-nil settings))
options_moved (option ∷ options) target settings state =
    ap (λ (chosen : Option State). ok_or chosen option >>= after_options options) (option_moved option target settings state)
    ∙ behind target settings (option_settings option) (asked_settings options) option options (after_option option state)
    (λ (s : State). options_moved options target (settings ++ option_settings option) s)

-- ---- the beginning

-- the options on a target, and on the first one
pub begun_moved : (options : List PlanOption) (target other : TargetValue) (lock : LockValue)
    → after_options options (first_on target lock) ≡ placed_or target (asked_settings options) (after_options options (first_on other lock))
begun_moved options target other lock =
    ap (after_options options) (first_placed target lock (target_environment other) (target_tags other))
    ∙ options_moved options target [] (first_on other lock)

-- the state after options on a target has a place for each variable
pub chosen_has : (options : List PlanOption) (target : TargetValue) (lock : LockValue) (state : State)
    → chosen_state options (first_on target lock) ≡ Ok state → HasVariables state
chosen_has options target lock state chosen =
    by (after_options options (first_on target lock)) (sym (ap (result_map_both (λ s. s) cause.Option) (begun_moved options target target lock)) ∙ chosen)
  where
    by : (after : Result State PlanOption)
        → result_map_both (λ s. s) cause.Option (placed_or target (asked_settings options) after) ≡ Ok state → HasVariables state
    by (Ok after) same =
        subst HasVariables (ap (λ r. result_unwrap_or r state) same) (placed_has target (asked_settings options) after)
    by (Err refused) same = absurd (false≢true (sym (ap is_err same)))

-- an option that is refused on the first target
pub begun_refused : (asked : MatrixQuestion) (cells : List CellValue) (lock : LockValue) (cell : CellValue) (because : Cause)
    → Some cell ≡ slice_get cells 0 → chosen_state asked.options.items (first_on cell.target lock) ≡ Err because
    → begun asked cells lock ≡ Err because
begun_refused asked [] lock cell because first chosen = absurd (false≢true (sym (ap is_some first)))
begun_refused asked (one ∷ others) lock cell because first chosen =
    let same : cell ≡ one = ap (λ (found : Option CellValue). unwrap_or found cell) first in
    ap (λ (state : Result State Cause). state >>= λ state. Ok (state, one ∷ others))
    (sym (ap (λ (c : CellValue). chosen_state asked.options.items (first_on c.target lock)) same) ∙ chosen)

-- the same options on the same state
pub chosen_so : {options options' : List PlanOption} {state state' : State} {made : Result State Cause} → options ≡ options' → state ≡ state'
    → chosen_state options state ≡ made → chosen_state options' state' ≡ made
chosen_so {options} {options'} {state} {state'} same also chosen =
    sym (ap (λ (os : List PlanOption). chosen_state os state) same ∙ ap (chosen_state options') also) ∙ chosen

-- ---- files

-- what is printed of files reads no more of a state than its entries
pub picked_same : (output : FilesOutput) (status : ℕ) (a b : State) (picks : List Pick) → unmoved a ≡ unmoved b
    → picked_report output status a picks ≡ picked_report output status b picks
picked_same (Shown Lines) status a b picks same = ap (λ (s : State). picked_report (Shown Lines) status s picks) same
picked_same (Shown Json) status a b picks same = ap (λ (s : State). picked_report (Shown Json) status s picks) same
picked_same (Tool format base) status a b picks same = ap (λ (s : State). picked_report (Tool format base) status s picks) same

-- what is printed of the state on each target is the report on the question
pub files_printed : (asked : MatrixQuestion) (output : FilesOutput) (settings : List Setting) (state last : State) (cells : List CellValue) (rows : List Row) (picks : List Pick)
    (status : ℕ) (sink sink' : SinkValue) (result : Result ℕ RunFault)
    → asked.output ≡ Files output → settings ≡ asked_settings asked.options.items → rows ≡ map (row_of settings state) cells → picks ≡ files_on settings state cells
    → status ≡ rows_status asked.no_build rows → unmoved last ≡ unmoved state
    → Prints (picked_report output status last picks) sink sink' result → Prints (begun_report asked (state, cells)) sink sink' result
files_printed asked output settings state last cells rows picks status sink sink' result is set rowed picked told stays prints =
    let known : status ≡ rows_status asked.no_build (rows_from asked (state, cells)) =
    told ∙ ap (rows_status asked.no_build) (rowed ∙ ap (λ (ss : List Setting). map (row_of ss state) cells) set) in
    let report : picked_report output status last picks ≡ begun_report asked (state, cells) =
    picked_same output status last state picks stays
    ∙ ap (λ (n : ℕ). picked_report output n state picks) known
    ∙ ap (λ (ps : List Pick). picked_report output (rows_status asked.no_build (rows_from asked (state, cells))) state ps)
    (picked ∙ ap (λ (ss : List Setting). files_on ss state cells) set)
    ∙ ap (λ (o : MatrixOutput). targets_report o (rows_status asked.no_build (rows_from asked (state, cells))) asked (state, cells)) (sym is) in
    subst (λ (r : Report). Prints r sink sink' result) report prints

pub rows_printed : (asked : MatrixQuestion) (form : Form) (settings : List Setting) (state : State) (cells : List CellValue) (rows : List Row)
    (status : ℕ) (sink sink' : SinkValue) (result : Result ℕ RunFault)
    → asked.output ≡ Rows form → settings ≡ asked_settings asked.options.items → rows ≡ map (row_of settings state) cells
    → status ≡ rows_status asked.no_build rows
    → Prints (rows_report form status rows) sink sink' result → Prints (begun_report asked (state, cells)) sink sink' result
rows_printed asked form settings state cells rows status sink sink' result is set rowed told prints =
    let made : rows ≡ rows_from asked (state, cells) = rowed ∙ ap (λ (ss : List Setting). map (row_of ss state) cells) set in
    let report : rows_report form status rows ≡ begun_report asked (state, cells) =
    ap (λ (n : ℕ). rows_report form n rows) (told ∙ ap (rows_status asked.no_build) made)
    ∙ ap (λ (rs : List Row). rows_report form (rows_status asked.no_build (rows_from asked (state, cells))) rs) made
    ∙ ap (λ (o : MatrixOutput). targets_report o (rows_status asked.no_build (rows_from asked (state, cells))) asked (state, cells)) (sym is) in
    subst (λ (r : Report). Prints r sink sink' result) report prints

pub ruleset printed = (files_printed, rows_printed)
