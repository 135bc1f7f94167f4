use Rattle.std.proofs.Common.{◌≡◌, drop}
use Rattle.pylock_audit.specs.Entry.{first_version}
use Rattle.pylock_audit.proofs.files.first_version.Given as goal

abbrev pub invariant-loop-name : goal.invariant-loop-name
invariant-loop-name l =
    first_version l.names ≡ first_version (drop l.name-index l.names)
