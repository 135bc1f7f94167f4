use Rattle.std.proofs.Common.{◌≡◌, drop, map}
use Rattle.serde_json.specs.View.{items_view}
use Rattle.pylock_advisories.specs.Members.{read_each, text_in}
use Rattle.pylock_advisories.proofs.PrefixLemmas.{after_prefix}
use Rattle.pylock_advisories.proofs.reading.member.member_texts.Given as goal

abbrev pub invariant-loop-item : goal.invariant-loop-item
invariant-loop-item l =
    after_prefix (map (λ text. text.now) l.texts.items) (read_each (text_in l.name) (items_view (drop l.item-index l.items)))
    ≡ read_each (text_in l.name) (items_view l.items)
