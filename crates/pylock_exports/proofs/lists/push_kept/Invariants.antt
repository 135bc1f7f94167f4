use Rattle.std.proofs.Common.{◌≡◌, ◌++◌, flat_map, string_bytes, take}
use Rattle.pylock_exports.specs.Inner.{all_lent}
use Rattle.pylock_exports.specs.Lists.{source_lines}
use Rattle.pylock_exports.specs.Texts.{lines_text}
use Rattle.pylock_exports.proofs.lists.push_kept.Given as goal

-- the lines of the sources so far are in the text
abbrev pub invariant-loop-listed : goal.invariant-loop-listed
invariant-loop-listed l =
    string_bytes l.text ≡ string_bytes l.initial.text ++ flat_map (λ s. lines_text (source_lines l.format s.source)) (all_lent (take l.listed-index l.kept))
