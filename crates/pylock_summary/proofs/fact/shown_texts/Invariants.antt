use Rattle.std.proofs.Common.{◌≡◌, map, take}
use Rattle.pylock_shown.specs.Hidden.{hidden}
use Rattle.pylock_summary.proofs.fact.shown_texts.Given as goal

-- the texts so far are there
abbrev pub invariant-loop-text : goal.invariant-loop-text
invariant-loop-text l = l.shown.items ≡ map hidden (map (λ text. text.now) (take l.text-index l.texts))
