-- The sources of items that the others haven't, item by item.
use Rattle.std.proofs.Common.{◌≡◌, ◌∙◌, ◌++◌, ◌∷◌, [], ℕ, ◌+◌, ◌<◌, List, length, get_or, take, sym, ap, append-nil}
use Rattle.std.proofs.lemmas.Grind.{flat_map-append}
use Rattle.std.proofs.lemmas.List.{take_more}
use Rattle.std.specs.List.{flat_map}
use Rattle.pylock_core.specs.Session.Picks.{SourceValue}
use Rattle.pylock_diff.specs.Item.{ItemValue}
use Rattle.pylock_diff.specs.Sources.{lone_in, lone_sources}

-- with one item more
pub lone_more : (items others : List ItemValue) (i : ℕ) (d : ItemValue) (before after : List SourceValue) → i < length items
    → after ≡ before ++ lone_in others (get_or items i d) → before ≡ lone_sources (take i items) others → after ≡ lone_sources (take (i + 1) items) others
lone_more items others i d before after within added so_far =
    added ∙ (λ j. so_far j ++ sym (append-nil (lone_in others (get_or items i d))) j)
    ∙ sym (flat_map-append (lone_in others) (take i items) (get_or items i d ∷ []))
    ∙ ap (flat_map (lone_in others)) (sym (take_more items i d within))
