-- Files, as the host gives them.
use Rattle.std.specs.Prelude.{ℕ, List, Result}
use Rattle.pylock_run.specs.declared.stream.whole.FileFault.{FileFault}

-- the most bytes of a file
abbrev pub most_file_bytes : ℕ
most_file_bytes = 268435456

-- what a read of the file at a path may give
abbrev pub Reads : Type 1
Reads = List ℕ → Result (List ℕ) FileFault → Type 0
