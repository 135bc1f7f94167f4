use Rattle.std.proofs.Common.{◌≡◌, ◌≤◌, drop, length}
use Rattle.toml.specs.View.{items_view, members_view}
use Rattle.pylock_metadata.specs.Meets.{all_meet, has_members}
use Rattle.pylock_metadata.proofs.meets.+meeting.Given as goal

-- what is left decides
abbrev pub invariant-all_meet-items : goal.invariant-all_meet-items
invariant-all_meet-items l = record {
  place : l.place ≡ l.item-index;
  within : l.place ≤ length l.fn.given.items;
  left : all_meet (items_view (drop l.item-index l.item-items)) (items_view (drop l.item-index l.fn.given.items))
      ≡ all_meet (items_view l.item-items) (items_view l.fn.given.items);
}

abbrev pub invariant-has_members-members : goal.invariant-has_members-members
invariant-has_members-members l =
    has_members (members_view l.key-iterator) (members_view l.fn.given.entries)
    ≡ has_members (members_view l.fn.wanted.entries) (members_view l.fn.given.entries)
