use Rattle.pywheel_core.specs.Tag.{pieces}
use Rattle.pylock_values.specs.Tags.{abi_fields}
use Rattle.pylock_values.proofs.TagsLemmas.{PushedSoFar}
use Rattle.pylock_values.proofs.tags.push_abis.Given as goal

abbrev pub invariant-loop-abi : goal.invariant-loop-abi
invariant-loop-abi l = PushedSoFar (abi_fields l.python (pieces l.platforms)) (pieces l.fn.abis) l.abi-iterator l.fn.out.items l.out.items
