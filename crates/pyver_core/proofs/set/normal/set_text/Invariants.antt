use Rattle.std.proofs.Common.{◌≡◌, ◌++◌, string_bytes, take}
use Rattle.std.specs.List.{flat_map}
use Rattle.pyver_core.specs.Set.Normal.{comma_specifier}
use Rattle.pyver_core.proofs.set.normal.set_text.Given as goal

abbrev pub invariant-loop-specifier : goal.invariant-loop-specifier
invariant-loop-specifier l =
    string_bytes l.text ≡ string_bytes l.initial.text ++ flat_map comma_specifier (take l.specifier-index l.rest)
