use Rattle.std.proofs.Common.{refl}
use Rattle.pylock_readers.specs.declared.error.EntryError.TheVariants as entry
use Rattle.pylock_readers.specs.declared.error.LockError.TheVariants as lock
use Rattle.pylock_readers.proofs.NeverMemory.{entry_text_never_memory, env_never_memory, lock_never_memory}
use Rattle.pylock_readers.proofs.laws.answers_are_never_out_of_memory.Goals as goal

pub returns : goal.returns
returns c = record {
  lock = lock_never_memory lock.Memory refl;
  entry_of_lock = λ bytes place. lock_never_memory (lock.Entry place entry.Memory) refl bytes;
  entry = entry_text_never_memory;
  environment = env_never_memory;
}
