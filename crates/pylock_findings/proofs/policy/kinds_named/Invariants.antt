use Rattle.std.proofs.Common.{◌≡◌, drop}
use Rattle.pylock_findings.specs.Texts.{lent_texts}
use Rattle.pylock_findings.specs.Policy.{before, kinds_named}
use Rattle.pylock_findings.proofs.policy.kinds_named.Given as goal

-- the kinds of the words that are left come behind those so far
abbrev pub invariant-loop-word : goal.invariant-loop-word
invariant-loop-word l =
    before l.kinds.items (kinds_named (lent_texts (drop l.word-index l.words))) ≡ kinds_named (lent_texts l.words)
