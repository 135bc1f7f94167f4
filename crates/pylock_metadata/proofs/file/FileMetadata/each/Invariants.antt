use Rattle.std.proofs.Common.{◌≡◌, ◌++◌, drop}
use Rattle.toml.specs.View.{items_view}
use Rattle.pylock_metadata.specs.Metadata.{files_of}
use Rattle.pylock_metadata.proofs.file.FileMetadata.each.Given as goal

-- what is said so far, and what the values that are left say
abbrev pub invariant-loop-value : goal.invariant-loop-value
invariant-loop-value l =
    l.files.items ++ files_of (items_view (drop l.value-index l.values)) ≡ files_of (items_view l.values)
