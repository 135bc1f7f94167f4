use Rattle.std.proofs.Common.{◌≡◌, ◌==◌, ◌+◌, ◌≤◌, count_by, drop, length}
use Rattle.pywheel_core.specs.Tag.{are_tag_parts, pieces}
use Rattle.pywheel_core.proofs.Lemmas.Tag.Counts.{goes_on}
use Rattle.pywheel_core.proofs.tag_set.count_tag_parts.Given as goal

abbrev pub invariant-loop-byte : goal.invariant-loop-byte
invariant-loop-byte l = (goes_on l.is_empty (drop l.byte-index l.part) ≡ are_tag_parts (pieces l.part))
    × (l.count + count_by (λ b. b == 46) (drop l.byte-index l.part) ≡ length (pieces l.part))
    × (l.count ≤ l.byte-index + 1)
