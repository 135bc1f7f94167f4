use Rattle.std.proofs.Common.{◌≡◌, drop}
use Rattle.pylock_findings.specs.Texts.{lent_texts}
use Rattle.pylock_findings.specs.Policy.{all_ignored_of, before}
use Rattle.pylock_findings.proofs.policy.all_ignored_of.Given as goal

-- what the texts say that are left comes behind what was said so far
abbrev pub invariant-loop-text : goal.invariant-loop-text
invariant-loop-text l =
    before l.all.items (all_ignored_of (lent_texts (drop l.text-index l.texts))) ≡ all_ignored_of (lent_texts l.texts)
