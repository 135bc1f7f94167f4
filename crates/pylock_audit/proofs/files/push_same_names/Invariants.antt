use Rattle.std.proofs.Common.{◌≡◌, ◌++◌, ℕ, List, take}
use Rattle.pylock_audit.specs.Entry.{same_names, with_names}
use Rattle.pylock_audit.specs.Inner.Names.{Holds}
use Rattle.pylock_audit.proofs.files.push_same_names.Given as goal

abbrev pub invariant-loop-file : goal.invariant-loop-file
invariant-loop-file l =
    (names : List (List ℕ)) → Holds l.initial.earlier names
    → Holds l.earlier (with_names (take l.file-index l.files) names)
    × (l.list.items ≡ l.initial.list.items ++ same_names names (take l.file-index l.files))
