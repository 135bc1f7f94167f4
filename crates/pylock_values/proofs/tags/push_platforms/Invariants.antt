use Rattle.pywheel_core.specs.Tag.{pieces}
use Rattle.pylock_values.specs.Tags.{platform_field}
use Rattle.pylock_values.proofs.TagsLemmas.{PushedSoFar}
use Rattle.pylock_values.proofs.tags.push_platforms.Given as goal

abbrev pub invariant-loop-platform : goal.invariant-loop-platform
invariant-loop-platform l = PushedSoFar (platform_field l.python l.abi) (pieces l.fn.platforms) l.platform-iterator l.fn.out.items l.out.items
