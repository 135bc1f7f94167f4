-- Each row of a matrix is what `plan` answers with the words of its target.
use Rattle.std.proofs.Common.{◌≡◌, ◌∙◌, ◌++◌, ℕ, Bool, List, [], ◌∷◌, Result, Ok, Err, ap, refl, subst, sym, suc, zero, arith}
use Rattle.std.proofs.lemmas.Bool.{false≢true}
use Rattle.std.proofs.lemmas.List.Elements.{All-append, All-weaker}
use Rattle.std.specs.List.{All}
use Rattle.std.specs.Result.{is_err, result_map_both, result_unwrap_or}
use Rattle.pytext.specs.Results.{◌>>=◌}
use Rattle.pymark_core.specs.Environment.{EnvironmentValue}
use Rattle.pywheel_core.specs.Tag.{TagValue}
use Rattle.pywheel_core.specs.Target.Reading.{target_of}
use Rattle.pywheel_core.specs.Target.Tags.{target_tags}
use Rattle.pywheel_core.specs.Target.Value.{TargetValue}
use Rattle.pywheel_core.specs.declared.error.TargetError.{TargetError}
use Rattle.pylock_audit.specs.Finding.{LockFindingValue}
use Rattle.pylock_command.specs.declared.option.PlanOption.{PlanOption}
use Rattle.pylock_command.specs.declared.task.MatrixQuestion.{MatrixQuestion}
use Rattle.pylock_readers.specs.Environment.{EnvironmentRead}
use Rattle.pylock_readers.specs.Lock.{LockValue}
use Rattle.pylock_readers.specs.Lock.Reading.{lock_of}
use Rattle.pylock_readers.specs.Target.{environment_of, target_env_of, target_environment}
use Rattle.pylock_readers.specs.declared.error.LockError.{LockError}
use Rattle.pylock_core.specs.Session.State.{State, first}
use Rattle.pylock_matrix.specs.Cell.{CellValue, before, cell_by, cell_of, cells_of, cells_with}
use Rattle.pylock_matrix.specs.Defaults.{default_platforms, default_pythons}
use Rattle.pylock_matrix.specs.Moving.{first_on, placed}
use Rattle.pylock_matrix.specs.declared.cell.CellError.{CellError}
use Rattle.pylock_run.specs.Report.{refuse_as, state_in, state_on}
use Rattle.pylock_run.specs.declared.report.opening.OpenError.TheVariants as refusal
use Rattle.pylock_program.specs.Matrix.{asked_cells, asked_settings, begun, cell_cause, lock_by, lock_unless, opened_matrix, plan_state, words_or}
use Rattle.pylock_program.specs.Opening.{chosen_state, found_by, open_unless, opened_by}
use Rattle.pylock_program.specs.PlanOptions.{after_options}
use Rattle.pylock_program.specs.declared.refusal.Cause.{Cause}
use Rattle.pylock_program.specs.declared.refusal.Cause.TheVariants as cause
use Rattle.pylock_program.proofs.MatrixLemmas.{begun_moved, placed_or}

-- ---- results

-- what one step after another gives is what the second gives of the first
bound : {A B E : Type 0} (result : Result A E) (f : A → Result B E) (value : B) → (result >>= f) ≡ Ok value
    → (x : A) × ((result ≡ Ok x) × (f x ≡ Ok value))
bound (Ok x) f value given = (x, (refl, given))
bound (Err e) f value given = absurd (false≢true (sym (ap is_err given)))

-- the value under a refusal that has another name
named : {A E D : Type 0} (name : E → D) (result : Result A E) (value : A) → result_map_both (λ x. x) name result ≡ Ok value → result ≡ Ok value
named name (Ok x) value given = ap (λ r. Ok (result_unwrap_or r value)) given
named name (Err e) value given = absurd (false≢true (sym (ap is_err given)))

value_same : {A E : Type 0} {x y : A} → ◌≡◌ {A = Result A E} (Ok x) (Ok y) → x ≡ y
value_same {A} {E} {x} {y} same = ap (λ (r : Result A E). result_unwrap_or r x) same

-- ---- the targets were read

abbrev IsRead : CellValue → Type 0
IsRead cell = target_of cell.python cell.platform ≡ Ok cell.target

cell_read : (python platform : List ℕ) (read : Result TargetValue TargetError) (cell : CellValue)
    → target_of python platform ≡ read → cell_by python platform read ≡ Ok cell → IsRead cell
cell_read python platform (Ok target) cell is given = subst IsRead (value_same given) is
cell_read python platform (Err error) cell is given = absurd (false≢true (sym (ap is_err given)))

none_read : All IsRead []
none_read k d below = absurd (omega arith)

one_read : (cell : CellValue) → IsRead cell → All IsRead (cell ∷ [])
one_read cell read zero d below = read
one_read cell read (suc k) d below = absurd (omega arith)

-- these cells before the others
before_read : (cells whole : List CellValue) (others : Result (List CellValue) CellError) → All IsRead cells
    → ((rest : List CellValue) → others ≡ Ok rest → All IsRead rest) → before cells others ≡ Ok whole → All IsRead whole
before_read cells whole others read follow given =
    let (rest, (is, same)) = bound others (λ others. Ok (cells ++ others)) whole given in
    subst (All IsRead) (value_same same) (All-append IsRead cells rest read (follow rest is))

with_read : (python : List ℕ) (platforms : List (List ℕ)) (cells : List CellValue) → cells_with python platforms ≡ Ok cells → All IsRead cells
with_read python [] cells given = subst (All IsRead) (value_same given) none_read
with_read python (platform ∷ platforms) cells given =
    let (cell, (is, same)) = bound (cell_of python platform) (λ cell. before (cell ∷ []) (cells_with python platforms)) cells given in
    before_read (cell ∷ []) cells (cells_with python platforms) (one_read cell (cell_read python platform (target_of python platform) cell refl is))
    (with_read python platforms) same

cells_read : (pythons platforms : List (List ℕ)) (cells : List CellValue) → cells_of pythons platforms ≡ Ok cells → All IsRead cells
cells_read [] platforms cells given = subst (All IsRead) (value_same given) none_read
cells_read (python ∷ pythons) platforms cells given =
    let (some, (is, same)) = bound (cells_with python platforms) (λ cells. before cells (cells_of pythons platforms)) cells given in
    before_read some cells (cells_of pythons platforms) (with_read python platforms some is) (cells_read pythons platforms) same

-- ---- the lock and the environment

-- a lock that was taken opens on each environment
taken : (found : List LockFindingValue) (read : Result LockValue LockError) (lock : LockValue) (environment : EnvironmentValue) (tags : List TagValue)
    → result_map_both (λ lock. lock) cause.Unopened (lock_unless found read) ≡ Ok lock
    → result_map_both (λ state. state) cause.Unopened (open_unless found (refuse_as refusal.Lock read >>= state_on (Ok (environment, tags)))) ≡ Ok (first lock environment tags)
taken [] (Ok one) lock environment tags given = ap (λ (l : LockValue). Ok (first l environment tags)) (value_same given)
taken [] (Err error) lock environment tags given = absurd (false≢true (sym (ap is_err given)))
taken (found ∷ others) read lock environment tags given = absurd (false≢true (sym (ap is_err given)))

opened : (strict : Bool) (bytes : List ℕ) (lock : LockValue) (environment : EnvironmentValue) (tags : List TagValue)
    → lock_by strict bytes ≡ Ok lock
    → result_map_both (λ state. state) cause.Unopened (opened_by strict bytes (Ok (environment, tags))) ≡ Ok (first lock environment tags)
unfolding state_in
opened strict bytes lock environment tags given = taken (found_by strict bytes) (lock_of bytes) lock environment tags given

-- the environment of a target that was read
read_environment : (python platform : List ℕ) (target : TargetValue) → target_of python platform ≡ Ok target
    → target_env_of python platform ≡ Ok (target_environment target, target_tags target)
unfolding target_env_of
read_environment python platform target read = ap environment_of read

-- ---- the options

moved_state : (options : List PlanOption) (target : TargetValue) (after : Result State PlanOption) (state : State)
    → result_map_both (λ s. s) cause.Option after ≡ Ok state
    → result_map_both (λ s. s) cause.Option (placed_or target (asked_settings options) after) ≡ Ok (placed target (asked_settings options) state)
moved_state options target (Ok one) state given = ap (λ (s : State). Ok (placed target (asked_settings options) s)) (value_same given)
moved_state options target (Err refused) state given = absurd (false≢true (sym (ap is_err given)))

chosen_moved : (options : List PlanOption) (target other : TargetValue) (lock : LockValue) (state : State)
    → chosen_state options (first_on other lock) ≡ Ok state → chosen_state options (first_on target lock) ≡ Ok (placed target (asked_settings options) state)
chosen_moved options target other lock state given =
    ap (result_map_both (λ s. s) cause.Option) (begun_moved options target other lock)
    ∙ moved_state options target (after_options options (first_on other lock)) state given

-- ---- all together

-- what `plan` opens on a target that was read
plan_moved : (asked : MatrixQuestion) (bytes : List ℕ) (lock : LockValue) (one : CellValue) (state : State) (cell : CellValue)
    → lock_by asked.strict bytes ≡ Ok lock → chosen_state asked.options.items (first_on one.target lock) ≡ Ok state → IsRead cell
    → plan_state asked bytes cell ≡ Ok (placed cell.target (asked_settings asked.options.items) state)
plan_moved asked bytes lock one state cell locked chosen read =
    ap (λ (r : EnvironmentRead). result_map_both (λ s. s) cause.Unopened (opened_by asked.strict bytes r) >>= chosen_state asked.options.items)
    (read_environment cell.python cell.platform cell.target read)
    ∙ ap (λ (r : Result State Cause). r >>= chosen_state asked.options.items)
    (opened asked.strict bytes lock (target_environment cell.target) (target_tags cell.target) locked)
    ∙ chosen_moved asked.options.items cell.target one.target lock state chosen

asked_read : (asked : MatrixQuestion) (lock : LockValue) (cells : List CellValue) → asked_cells asked lock.head ≡ Ok cells → All IsRead cells
asked_read asked lock cells given =
    let pythons = words_or (default_pythons lock.head.requires_python) asked.pythons in
    let platforms = words_or default_platforms asked.platforms in
    cells_read pythons platforms cells (named cell_cause (cells_of pythons platforms) cells given)

module _ (asked : MatrixQuestion) (bytes : List ℕ) (state : State) (cells : List CellValue) where
  abbrev IsPlanned : CellValue → Type 0
  IsPlanned cell = plan_state asked bytes cell ≡ Ok (placed cell.target (asked_settings asked.options.items) state)

  each_planned : (lock : LockValue) (one : CellValue) → lock_by asked.strict bytes ≡ Ok lock
      → chosen_state asked.options.items (first_on one.target lock) ≡ Ok state → All IsRead cells → All IsPlanned cells
  each_planned lock one locked chosen read =
      All-weaker IsRead IsPlanned (λ cell is. plan_moved asked bytes lock one state cell locked chosen is) cells read

  -- the state, and these targets
  abbrev with_cells : List CellValue → Result State Cause → Result (State × List CellValue) Cause
  with_cells found chosen = chosen >>= λ state. Ok (state, found)

  -- from the options on the first target
  after_chosen : (lock : LockValue) (one : CellValue) (found : List CellValue) (reached : State) → lock_by asked.strict bytes ≡ Ok lock → All IsRead found
      → chosen_state asked.options.items (first_on one.target lock) ≡ Ok reached
      → ◌≡◌ {A = Result (State × List CellValue) Cause} (Ok (reached, found)) (Ok (state, cells)) → All IsPlanned cells
  after_chosen lock one found reached locked read chosen ends =
      let pair : ◌≡◌ {A = State × List CellValue} (reached, found) (state, cells) = value_same {x = (reached, found)} {y = (state, cells)} ends in
      each_planned lock one locked (chosen ∙ ap (λ (p : State × List CellValue). Ok p.0) pair)
      (subst (All IsRead) (ap (λ (p : State × List CellValue). p.1) pair) read)

  after_first : (lock : LockValue) (one : CellValue) (found : List CellValue) → lock_by asked.strict bytes ≡ Ok lock → All IsRead found
      → with_cells found (chosen_state asked.options.items (first_on one.target lock)) ≡ Ok (state, cells) → All IsPlanned cells
  after_first lock one found locked read given =
      let (reached, (chosen, ends)) = bound (chosen_state asked.options.items (first_on one.target lock)) (λ state. Ok (state, found)) (state, cells) given in
      after_chosen lock one found reached locked read chosen ends

  after_cells : (lock : LockValue) (found : List CellValue) → lock_by asked.strict bytes ≡ Ok lock → All IsRead found
      → begun asked found lock ≡ Ok (state, cells) → All IsPlanned cells
  after_cells lock [] locked read given = absurd (false≢true (sym (ap is_err given)))
  after_cells lock (one ∷ others) locked read given = after_first lock one (one ∷ others) locked read given

  after_lock : (lock : LockValue) → lock_by asked.strict bytes ≡ Ok lock
      → (asked_cells asked lock.head >>= λ cells. begun asked cells lock) ≡ Ok (state, cells) → All IsPlanned cells
  after_lock lock locked given =
      let (found, (asks, begins)) = bound (asked_cells asked lock.head) (λ cells. begun asked cells lock) (state, cells) given in
      after_cells lock found locked (asked_read asked lock found asks) begins

  pub rows_of_plans : opened_matrix asked bytes ≡ Ok (state, cells) → All IsPlanned cells
  rows_of_plans given =
      let (lock, (locked, leads)) = bound (lock_by asked.strict bytes) (λ lock. asked_cells asked lock.head >>= λ cells. begun asked cells lock) (state, cells) given in
      after_lock lock locked leads
