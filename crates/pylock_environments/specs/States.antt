-- The states of a session on a lock, whose answers the laws speak of.
use Rattle.std.specs.Prelude.{◌≡◌, List}
use Rattle.std.specs.List.{enumerate_from}
use Rattle.pylock_readers.specs.Entry.{EntryValue}
use Rattle.pylock_readers.specs.Lock.{HeadValue}
use Rattle.pylock_core.specs.Session.State.{State}
use Rattle.pylock_environments.specs.Environments.{IsOf}

-- The state has the head and the entries of the lock, which have the numbers 1, 2, .., and its
-- environment is one of the lock's. It may have any tags and any policies.
pub record IsStateOf (head : HeadValue) (entries : List EntryValue) (state : State) : Type 0 where
  pub of_head : state.head ≡ head
  pub of_entries : state.entries ≡ enumerate_from 1 entries
  pub in_environment : IsOf head state.environment
