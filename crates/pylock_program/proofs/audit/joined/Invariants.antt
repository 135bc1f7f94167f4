use Rattle.std.proofs.Common.{◌≡◌, take}
use Rattle.pylock_program.specs.Audit.{words_of}
use Rattle.pylock_program.proofs.audit.joined.Given as goal

-- the texts so far
abbrev pub invariant-loop-text : goal.invariant-loop-text
invariant-loop-text l = words_of l.all.items ≡ take l.text-index l.settings
