use Rattle.std.proofs.Common.{◌≡◌, ◌||◌, map, take}
use Rattle.std.specs.BTreeSet.{contains}
use Rattle.std.specs.List.{list_any}
use Rattle.pylock_core.specs.Session.Picks.{lent_source}
use Rattle.pylock_compare.specs.Texts.{Texts, are_alike, texts_cmp}
use Rattle.pylock_diff.specs.Sources.{identity}
use Rattle.pylock_diff.proofs.sources.put_sources.Given as goal

abbrev pub invariant-loop-source : goal.invariant-loop-source
invariant-loop-source l =
    (key : Texts) → contains texts_cmp l.set key
    ≡ (contains texts_cmp l.initial.set key
    || list_any (λ source. are_alike key (identity source)) (map lent_source (take l.source-index l.sources)))
