use Rattle.std.proofs.Common.{◌≡◌, ◌++◌, drop, string_bytes}
use Rattle.toml.specs.Data.{array}
use Rattle.toml.specs.View.{items_view}
use Rattle.pylock_diff.specs.Head.{list_text, more_texts}
use Rattle.pylock_diff.proofs.head.push_items.Given as goal

-- the texts so far, and those of what is to come
abbrev pub invariant-loop-item : goal.invariant-loop-item
invariant-loop-item l =
    string_bytes l.text ++ more_texts (items_view (drop l.item-index l.others)) ≡ string_bytes l.fn.text ++ list_text (array (items_view l.items))
