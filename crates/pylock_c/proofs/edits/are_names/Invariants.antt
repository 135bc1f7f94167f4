use Rattle.std.proofs.Common.{◌≡◌, drop, map}
use Rattle.std.specs.List.{list_all}
use Rattle.pyver_core.specs.Name.{is_name}
use Rattle.pylock_c.proofs.edits.are_names.Given as goal

abbrev pub invariant-loop-text : goal.invariant-loop-text
invariant-loop-text l =
    list_all is_name (map (λ text. text.now) (drop l.text-index l.texts)) ≡ list_all is_name (map (λ text. text.now) l.texts)
