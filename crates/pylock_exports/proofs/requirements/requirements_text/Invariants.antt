use Rattle.std.proofs.Common.{◌≡◌, codes, drop, string_bytes}
use Rattle.pylock_exports.specs.Inner.{all_lent, parts_behind}
use Rattle.pylock_exports.proofs.requirements.requirements_text.Given as goal

-- the text so far, and behind it the lines of what is left
abbrev pub invariant-loop-listed : goal.invariant-loop-listed
invariant-loop-listed l =
    parts_behind l.part (string_bytes l.text) (all_lent (drop l.listed-index l.list)) ≡ parts_behind l.part (codes "# plan by pylock\n") (all_lent l.list)
