use Rattle.std.proofs.Common.{◌≡◌, ◌+◌, drop, map}
use Rattle.pylock_advisories.specs.File.{lines_from}
use Rattle.pylock_advisories.proofs.PrefixLemmas.{after_prefix}
use Rattle.pylock_advisories.proofs.reading.file.read_lines.Given as goal

abbrev pub invariant-loop-index : goal.invariant-loop-index
invariant-loop-index l =
    after_prefix l.read.items (lines_from (l.index + 1) (map (λ line. line.now) (drop l.index l.lines)))
    ≡ lines_from 1 (map (λ line. line.now) l.lines)
