-- What a run of the program leaves, of words and files that come joined.
use Rattle.std.specs.Prelude.{◌≡◌, ◌⊎◌, ℕ, ℤ, pos, List, Option, None, Some, Result, Err}
use Rattle.pylock_memory.specs.Parts.{cut_by}
use Rattle.pylock_memory.specs.Run.{IsRunOfBytes, status_of}
use Rattle.pylock_program.specs.declared.failure.Failure.{Failure}
use Rattle.pylock_program.specs.declared.failure.Failure.TheVariants.{Memory}
use Rattle.pylock_slots.specs.declared.object.Object.{Object}
use Rattle.pylock_slots.specs.declared.object.Object.TheVariants as kind

-- the program ran with these words on these files and this standard input, didn't end for want of
-- memory, and left what it printed and its status; what it says on standard error is no one's
-- promise
pub record IsLeft (words files : List (List ℕ)) (input : List ℕ)
    (output diagnostics : Option Object) (status : ℤ) : Type 0 where
  pub end : Result ℕ Failure
  pub printed : List ℕ
  pub said : List ℕ
  pub run : IsRunOfBytes words files input end printed
  pub ended : end ≡ Err Memory → ⊥
  pub kept : output ≡ Some (kind.Text printed)
  pub kept_too : diagnostics ≡ Some (kind.Text said)
  pub told : status ≡ pos (status_of end)

-- the same of words and files that come joined, with their lengths beside them
pub record Runs (word_lengths words file_lengths files input : List ℕ)
    (output diagnostics : Option Object) (status : ℤ) : Type 0 where
  pub word_parts : List (List ℕ)
  pub file_parts : List (List ℕ)
  pub words_cut : cut_by word_lengths words ≡ Some word_parts
  pub files_cut : cut_by file_lengths files ≡ Some file_parts
  pub left : IsLeft word_parts file_parts input output diagnostics status

-- the lengths of the words, or of the files, don't add up to their bytes
abbrev pub AreNoParts : (word_lengths words file_lengths files : List ℕ) → Type 0
AreNoParts word_lengths words file_lengths files =
    (cut_by word_lengths words ≡ None) ⊎ (cut_by file_lengths files ≡ None)
