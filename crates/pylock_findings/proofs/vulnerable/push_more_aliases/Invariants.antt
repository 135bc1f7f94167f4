use Rattle.std.proofs.Common.{◌≡◌, ◌++◌, codes, flat_map, string_bytes, take}
use Rattle.pylock_shown.specs.Hidden.{hidden}
use Rattle.pylock_findings.proofs.vulnerable.push_more_aliases.Given as goal

-- the ids so far stand behind what was there
abbrev pub invariant-loop-alias : goal.invariant-loop-alias
invariant-loop-alias l =
    string_bytes l.text ≡ string_bytes l.initial.text ++ flat_map (λ alias. codes "," ++ hidden alias) (take l.alias-index l.aliases)
