use Rattle.std.proofs.Common.{◌≡◌, drop}
use Rattle.pylock_documents.specs.Reasons.{best_tag}
use Rattle.pylock_documents.proofs.reasons.best_tag.Given as goal

-- none of the tags so far is one of the wheel's
abbrev pub invariant-loop-tag : goal.invariant-loop-tag
invariant-loop-tag l = best_tag l.own l.tags ≡ best_tag l.own (drop l.tag-index l.tags)
