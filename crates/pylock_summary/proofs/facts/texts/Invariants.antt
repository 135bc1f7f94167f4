use Rattle.std.proofs.Common.{◌≡◌, map, string_bytes, take}
use Rattle.pylock_summary.proofs.facts.texts.Given as goal

-- the texts so far are there
abbrev pub invariant-loop-text : goal.invariant-loop-text
invariant-loop-text l = map (λ text. text.now) l.list.items ≡ map string_bytes (take l.text-index l.texts)
