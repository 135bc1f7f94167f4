use Rattle.std.proofs.Common.{◌≡◌, ◌++◌, true, drop}
use Rattle.std.specs.List.Sorted.{IsStrictlySortedBy}
use Rattle.std.specs.Map.{keys_of}
use Rattle.std.specs.String.{string_cmp}
use Rattle.toml.specs.View.{items_view, members_view}
use Rattle.pytoml_code.specs.Code.{items_code, members_code}
use Rattle.pytoml_code.specs.HiddenValue.{HaveTexts, MembersHaveTexts}
use Rattle.pytoml_code.specs.Proper.{AreProper, HasProper}
use Rattle.pytoml_code.proofs.code.+codes.Given as goal

-- what is to come makes the whole, and where it is proper and has texts so does that
abbrev pub invariant-push_items-items : goal.invariant-push_items-items
invariant-push_items-items l = record {
  codes : l.out.items ++ items_code l.is_first (items_view (drop l.item-index l.item-items)) ≡ l.fn.out.items ++ items_code true (items_view l.item-items);
  proper : AreProper (items_view (drop l.item-index l.item-items)) → AreProper (items_view l.item-items);
  texts : HaveTexts (items_view (drop l.item-index l.item-items)) → HaveTexts (items_view l.item-items);
}

abbrev pub invariant-push_members-members : goal.invariant-push_members-members
invariant-push_members-members l = record {
  sorted : IsStrictlySortedBy string_cmp (keys_of l.key-iterator);
  codes : l.out.items ++ members_code l.is_first (members_view l.key-iterator) ≡ l.fn.out.items ++ members_code true (members_view l.fn.table.entries);
  proper : HasProper (members_view l.key-iterator) → HasProper (members_view l.fn.table.entries);
  texts : MembersHaveTexts (members_view l.key-iterator) → MembersHaveTexts (members_view l.fn.table.entries);
}
