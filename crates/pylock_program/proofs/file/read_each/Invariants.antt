use Rattle.std.proofs.Common.{◌≡◌, drop, map}
use Rattle.pylock_program.specs.Inner.Audit.{file_bytes}
use Rattle.pylock_program.proofs.PathLemmas.{Continues}
use Rattle.pylock_program.proofs.file.read_each.Given as goal

-- whatever the paths that are left give, it comes behind the files so far
abbrev pub invariant-loop-path : goal.invariant-loop-path
invariant-loop-path g l =
    Continues (g.F.Files.read_gives l.initial.host.files) (map (λ path. path.now) l.paths) (map (λ path. path.now) (drop l.path-index l.paths))
    (file_bytes l.files.items) (g.R.Source.value l.initial.host.reader) (g.R.Source.value l.host.reader)
    × (l.host.files ≡ l.initial.host.files) × (l.host.outputs.writer ≡ l.initial.host.outputs.writer)
