-- The state of a session, and what an edit makes of it.
use Rattle.std.specs.Prelude.{ℕ, ◌+◌, ◌≤◌, Bool, true, false, not, ◌==◌, ◌||◌, nat_lt, List, []}
use Rattle.std.specs.Prelude.{◌∷◌, ◌++◌, map, length, filter, Option, Some, None, is_some}
use Rattle.std.specs.Prelude.{unwrap_or, Result, Ok, Err, if◌then◌else◌}
use Rattle.std.specs.Cmp.Lexicographic.{slice_cmp}
use Rattle.std.specs.FinMap as map_of
use Rattle.std.specs.FinSet as set
use Rattle.std.specs.List.{enumerate_from, list_any}
use Rattle.std.specs.Ordering.{nat_cmp}
use Rattle.std.specs.Str.{bytes_eq}
use Rattle.pytext.specs.Results.{◌>>=◌}
use Rattle.pymark_core.specs.Change.{changed}
use Rattle.pymark_core.specs.Environment.{EnvironmentValue, with_group}
use Rattle.pymark_core.specs.declared.change.Change.{Change}
use Rattle.pymark_core.specs.declared.change.Change.TheVariants as change
use Rattle.pywheel_core.specs.Tag.{TagValue}
use Rattle.pylock_readers.specs.Entry.{EntryValue}
use Rattle.pylock_readers.specs.Lock.{HeadValue, LockValue}
use Rattle.pylock_core.specs.Session.Names.{name_change}
use Rattle.pylock_core.specs.declared.edit.Edit.{Edit}
use Rattle.pylock_core.specs.declared.edit.Edit.TheVariants as edit
use Rattle.pylock_core.specs.declared.edit.Policy.{Policy}
use Rattle.pylock_core.specs.declared.edit.Policy.TheVariants.{Any, Wheel, Source}
use Rattle.pylock_core.specs.declared.edit.EditError.{EditError}
use Rattle.pylock_core.specs.declared.edit.EditError.TheVariants.{UnknownExtra, UnknownGroup}
use Rattle.pylock_core.specs.declared.edit.EditError.TheVariants.{NoEntry, TooMany}
use Rattle.pylock_core.specs.declared.edit.NameChange.{NameChange}

-- the policies that edits gave, by name in normal form; a name that isn't here has `Any`
abbrev pub Policies : Type 0
Policies = map_of.FinMap (slice_cmp nat_cmp) Policy

-- the head of the lock; the entries that are there, each with its number, in order; the last number
-- given out; what the entries are judged by: the environment, the tags, the best first, the
-- policies
pub record State : Type 0 where
  pub head : HeadValue
  pub entries : List (ℕ × EntryValue)
  pub last : ℕ
  pub environment : EnvironmentValue
  pub tags : List TagValue
  pub policies : Policies

-- each number is at least n and more than the one before
abbrev pub Rises : ℕ → List ℕ → Type 0
Rises n [] = Unit {0}
Rises n (x ∷ xs) = (n ≤ x) × Rises (x + 1) xs

-- the numbers of the entries increase, and none is 0
abbrev pub NumbersRise : State → Type 0
NumbersRise state = Rises 1 (map (λ e. e.0) state.entries)

-- the environment in which these groups are asked for beside those that were
abbrev pub with_groups : List (List ℕ) → EnvironmentValue → EnvironmentValue
with_groups [] environment = environment
with_groups (group ∷ groups) environment = with_groups groups (with_group group environment)

-- the environment with no extra asked for, and of the groups these
abbrev pub asked_environment : List (List ℕ) → EnvironmentValue → EnvironmentValue
asked_environment groups environment =
    with_groups groups (record environment { extras = set.empty; groups = set.empty })

-- the state at the start: the entries of the lock have the numbers 1, 2, .., no extra is asked for,
-- and of the groups those that the lock names as the default
abbrev pub first : LockValue → EnvironmentValue → List TagValue → State
first lock environment tags = record {
  head = lock.head;
  entries = enumerate_from 1 lock.entries;
  last = length lock.entries;
  environment = asked_environment lock.head.default_groups environment;
  tags = tags;
  policies = map_of.empty;
}

-- what stands in rows, with its numbers: n for the first row, and one more for each
abbrev pub in_rows : {X : Type 0} → ℕ → List (Option X) → List (ℕ × X)
in_rows n [] = []
in_rows n (None ∷ rows) = in_rows (n + 1) rows
in_rows n (Some x ∷ rows) = (n, x) ∷ in_rows (n + 1) rows

-- the entry of the number
abbrev pub entry_at : ℕ → List (ℕ × EntryValue) → Option EntryValue
entry_at n [] = None
entry_at n (e ∷ es) = if n == e.0 then Some e.1 else entry_at n es

-- the entries without that of the number
abbrev pub without : ℕ → List (ℕ × EntryValue) → List (ℕ × EntryValue)
without n es = filter (λ e. not (n == e.0)) es

-- the entries with this one in place of that of the number
abbrev pub with_entry : ℕ → EntryValue → List (ℕ × EntryValue) → List (ℕ × EntryValue)
with_entry n entry es = map (λ e. (e.0, if n == e.0 then entry else e.1)) es

-- whether one of the names is this one
abbrev pub is_among : List (List ℕ) → List ℕ → Bool
is_among names name = list_any (bytes_eq name) names

-- the policy of a name in normal form
abbrev pub policy_of : Policies → List ℕ → Policy
policy_of policies name = unwrap_or (map_of.get policies name) Any

-- the policies where the name, in normal form, has this one
abbrev pub with_policy : Policies → List ℕ → Policy → Policies
with_policy policies name Any = map_of.remove policies name
with_policy policies name Wheel = map_of.insert policies name Wheel
with_policy policies name Source = map_of.insert policies name Source

-- the policies where each of these names, in normal form, has this one
abbrev pub with_policies : Policies → List (List ℕ) → Policy → Policies
with_policies policies [] policy = policies
with_policies policies (name ∷ names) policy =
    with_policies (with_policy policies name policy) names policy

-- the state with this environment
abbrev pub in_environment : EnvironmentValue → State → State
in_environment environment state = record state { environment = environment }

-- an extra may change where the lock names it, a group where it names it, as a default or not
abbrev pub if_extra : List ℕ → State → State → Result State EditError
if_extra name state next = if is_among state.head.extras name then Ok next else Err UnknownExtra

abbrev pub if_group : List ℕ → State → State → Result State EditError
if_group name state next =
    if is_among state.head.groups name || is_among state.head.default_groups name
    then Ok next
    else Err UnknownGroup

abbrev pub if_named : Change → State → State → Result State EditError
if_named (change.AddExtra name) state next = if_extra name state next
if_named (change.DropExtra name) state next = if_extra name state next
if_named (change.AddGroup name) state next = if_group name state next
if_named (change.DropGroup name) state next = if_group name state next
if_named _ state next = Ok next

-- the state after a change of its environment
abbrev pub after_change : Change → State → Result State EditError
after_change change state =
    if_named change state (in_environment (changed change state.environment) state)

-- the state after the changes for these names, one after another, or the first refusal
abbrev pub after_names : NameChange → List (List ℕ) → State → Result State EditError
after_names change [] state = Ok state
after_names change (name ∷ names) state =
    after_change (name_change change name) state >>= after_names change names

abbrev pub if_entry : ℕ → State → State → Result State EditError
if_entry n state next = if is_some (entry_at n state.entries) then Ok next else Err NoEntry

-- the state with one more entry, which has the next number; the numbers end at 100,000
abbrev pub with_next : EntryValue → State → Result State EditError
with_next entry state =
    if nat_lt state.last 100000
    then Ok (record state {
      entries = state.entries ++ (state.last + 1, entry) ∷ [];
      last = state.last + 1;
    })
    else Err TooMany

-- whether an edit takes memory, and so may be refused for want of it: each but `Del` does
abbrev pub takes_memory : Edit → Bool
takes_memory (edit.Del n) = false
takes_memory _ = true

-- the state after an edit, or why the edit is refused
abbrev pub apply : Edit → State → Result State EditError
apply (edit.Environment change) state = after_change change state
apply (edit.Names change names) state = after_names change names.items state
apply (edit.Tags tags) state = Ok (record state { tags = tags })
apply (edit.Add entry) state = with_next entry state
apply (edit.Put n entry) state =
    if_entry n state (record state { entries = with_entry n entry state.entries })
apply (edit.Del n) state = if_entry n state (record state { entries = without n state.entries })
apply (edit.Policy name policy) state =
    Ok (record state { policies = with_policy state.policies name policy })
apply (edit.Policies names policy) state =
    Ok (record state { policies = with_policies state.policies names.items policy })

-- the edits that an edit is: of several names one for each
abbrev pub in_turn : Edit → List Edit
in_turn (edit.Names change names) =
    map (λ name. edit.Environment (name_change change name)) names.items
in_turn (edit.Policies names policy) = map (λ name. edit.Policy name policy) names.items
in_turn edit = edit ∷ []

-- the state after edits, one after another, or the first refusal
abbrev pub after_edits : List Edit → State → Result State EditError
after_edits [] state = Ok state
after_edits (edit ∷ edits) state = apply edit state >>= after_edits edits
