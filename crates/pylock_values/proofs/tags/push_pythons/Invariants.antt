use Rattle.pywheel_core.specs.Tag.{pieces}
use Rattle.pylock_values.specs.Tags.{python_fields}
use Rattle.pylock_values.proofs.TagsLemmas.{PushedSoFar}
use Rattle.pylock_values.proofs.tags.push_pythons.Given as goal

abbrev pub invariant-loop-python : goal.invariant-loop-python
invariant-loop-python l = PushedSoFar (python_fields (pieces l.abis) (pieces l.platforms)) (pieces l.fn.pythons) l.python-iterator l.fn.out.items l.out.items
