use Rattle.std.proofs.Common.{◌≡◌, ◌++◌, take}
use Rattle.std.specs.List.{flat_map}
use Rattle.pylock_values.specs.Tags.{tag_field}
use Rattle.pylock_values.proofs.tags.push_tags.Given as goal

abbrev pub invariant-loop-tag : goal.invariant-loop-tag
invariant-loop-tag l = l.out.items ≡ l.initial.out.items ++ flat_map tag_field (take l.tag-index l.tags)
