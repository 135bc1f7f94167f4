use Rattle.std.proofs.Common.{◌≡◌, ◌+◌, drop, map}
use Rattle.pywheel_core.specs.Tag.{tags_after, tags_of}
use Rattle.pywheel_core.proofs.tag_list.TagList.parse.Given as goal

abbrev pub invariant-loop-i : goal.invariant-loop-i
invariant-loop-i l = tags_after l.list (l.i + 1) (map (λ t. t.now) (drop l.i l.texts)) ≡ tags_of (map (λ t. t.now) l.texts)
