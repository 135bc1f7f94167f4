-- The words of what becomes of an entry, and of what stands in its way.
use Rattle.std.specs.Prelude.{ℕ, List, [], codes, if◌then◌else◌}
use Rattle.std.specs.Option.{option_map_or}
use Rattle.pylock_readers.specs.Entry.{EntryValue, DirectoryValue}
use Rattle.pylock_core.specs.declared.answer.FaultCode.{FaultCode}
use Rattle.pylock_core.specs.declared.answer.FaultCode.TheVariants as fault
use Rattle.pylock_core.specs.declared.answer.PickSource.{PickSource}
use Rattle.pylock_core.specs.declared.answer.PickSource.TheVariants as source
use Rattle.pylock_core.specs.declared.edit.Policy.{Policy}
use Rattle.pylock_core.specs.declared.edit.Policy.TheVariants as policy
use Rattle.pylock_core.specs.declared.fate.Fate.{Fate}
use Rattle.pylock_core.specs.declared.fate.Fate.TheVariants as fate

abbrev pub fault_word : FaultCode → List ℕ
fault_word fault.PythonUnknown = codes "python-unknown"
fault_word fault.PythonNotMet = codes "python-not-met"
fault_word fault.MarkerUnset = codes "marker-unset"
fault_word fault.MarkerExtra = codes "marker-extra"
fault_word fault.MarkerUndefined = codes "marker-undefined"
fault_word fault.MarkerNumber = codes "marker-number"
fault_word fault.NoEnvironment = codes "no-environment"
fault_word fault.Ambiguous = codes "ambiguous"
fault_word fault.Sources = codes "sources"
fault_word fault.NoFile = codes "no-file"

abbrev pub directory_word : DirectoryValue → List ℕ
directory_word directory = if directory.editable then codes "editable" else codes "directory"

abbrev pub policy_word : Policy → List ℕ
policy_word policy.Any = codes "any"
policy_word policy.Wheel = codes "wheel"
policy_word policy.Source = codes "source"

-- the kind of the source that is picked
abbrev pub kind_word : EntryValue → PickSource → List ℕ
kind_word entry source.Vcs = codes "vcs"
kind_word entry source.Directory = option_map_or directory_word entry.directory []
kind_word entry source.Archive = codes "archive"
kind_word entry (source.Wheel place) = codes "wheel"
kind_word entry source.Sdist = codes "sdist"

abbrev pub verdict_word : EntryValue → Fate → List ℕ
verdict_word entry fate.Skipped = codes "skipped"
verdict_word entry (fate.Faulty code) = fault_word code
verdict_word entry (fate.Ambiguous first) = fault_word fault.Ambiguous
verdict_word entry fate.Sources = fault_word fault.Sources
verdict_word entry (fate.NoFile policy) = fault_word fault.NoFile
verdict_word entry (fate.Picked source) = kind_word entry source
