use Rattle.std.proofs.Common.{◌≡◌, map, string_bytes, take}
use Rattle.pylock_program.proofs.text.json.lent_words.Given as goal

-- the texts so far
abbrev pub invariant-loop-text : goal.invariant-loop-text
invariant-loop-text l = map (λ word. word.now) l.words.items ≡ map string_bytes (take l.text-index l.texts)
