use Rattle.std.proofs.Common.{◌≡◌, ◌++◌}
use Rattle.std.specs.List.Sorted.{IsStrictlySortedBy}
use Rattle.std.specs.Map.{keys_of}
use Rattle.std.specs.String.{string_cmp}
use Rattle.toml.specs.View.{members_view}
use Rattle.pytoml_code.specs.Proper.{HasProper}
use Rattle.pylock_diff.specs.Codes.{member_rows}
use Rattle.pylock_diff.proofs.codes.Codes.of.Given as goal

-- the rows so far, and those of what is to come
abbrev pub invariant-loop-key : goal.invariant-loop-key
invariant-loop-key l = record {
  sorted : IsStrictlySortedBy string_cmp (keys_of l.key-iterator);
  rows : l.codes ++ member_rows (members_view l.key-iterator) ≡ member_rows (members_view l.fn.table.entries);
  proper : HasProper (members_view l.key-iterator) → HasProper (members_view l.fn.table.entries);
}
