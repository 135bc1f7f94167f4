use Rattle.std.proofs.Common.{◌≡◌, ◌++◌, codes, string_bytes, take}
use Rattle.std.specs.List.{flat_map}
use Rattle.pywheel_core.specs.Tag.{tag_text}
use Rattle.pywheel_core.proofs.display.tags_text.Given as goal

abbrev pub invariant-loop-tag : goal.invariant-loop-tag
invariant-loop-tag l = string_bytes l.text
    ≡ string_bytes l.initial.text ++ flat_map (λ tag. codes " " ++ tag_text tag) (take l.tag-index l.rest)
