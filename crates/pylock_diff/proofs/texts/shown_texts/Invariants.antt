use Rattle.std.proofs.Common.{◌≡◌, ◌++◌, codes, map, string_bytes, take, unwrap_or}
use Rattle.std.specs.List.{flat_map}
use Rattle.std.specs.Option.{option_copied}
use Rattle.pylock_shown.specs.Hidden.{hidden}
use Rattle.pylock_diff.proofs.texts.shown_texts.Given as goal

abbrev pub invariant-loop-other : goal.invariant-loop-other
invariant-loop-other l =
    string_bytes l.text ≡ string_bytes l.initial.text
    ++ flat_map (λ t. l.separator ++ hidden (unwrap_or t (codes "-"))) (map option_copied (take l.other-index l.others))
