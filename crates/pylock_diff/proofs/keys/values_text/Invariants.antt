use Rattle.std.proofs.Common.{◌≡◌, ◌++◌, codes, string_bytes, take}
use Rattle.std.specs.List.{flat_map}
use Rattle.pytoml_code.specs.Shown.{shown}
use Rattle.pylock_diff.specs.Inner.Lent.{lent_places}
use Rattle.pylock_diff.proofs.keys.values_text.Given as goal

abbrev pub invariant-loop-other : goal.invariant-loop-other
invariant-loop-other l =
    string_bytes l.text ≡ string_bytes l.initial.text ++ flat_map (λ placed. codes " | " ++ shown placed.1) (lent_places (take l.other-index l.others))
