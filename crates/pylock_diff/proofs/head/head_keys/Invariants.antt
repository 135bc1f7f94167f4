use Rattle.std.proofs.Common.{◌≡◌, ◌++◌}
use Rattle.std.specs.List.Sorted.{IsStrictlySortedBy}
use Rattle.std.specs.Map.{keys_of}
use Rattle.std.specs.String.{string_cmp}
use Rattle.toml.specs.View.{members_view}
use Rattle.pylock_diff.specs.Compared.{head_of}
use Rattle.pylock_diff.specs.Inner.Kept.{HasProperHead}
use Rattle.pylock_diff.proofs.head.head_keys.Given as goal

-- the keys so far, and those of what is to come
abbrev pub invariant-loop-key : goal.invariant-loop-key
invariant-loop-key l = record {
  sorted : IsStrictlySortedBy string_cmp (keys_of l.key-iterator);
  keys : l.keys.items ++ head_of (members_view l.key-iterator) ≡ head_of (members_view l.fn.document.entries);
  proper : HasProperHead (members_view l.key-iterator) → HasProperHead (members_view l.fn.document.entries);
}
