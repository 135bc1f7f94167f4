-- Members with another one.
use Rattle.std.specs.Prelude.{ℕ, List}
use Rattle.std.specs.Ordering.{nat_cmp, match_ordering}
use Rattle.std.specs.Cmp.Lexicographic.{slice_cmp}
use Rattle.toml.specs.Data.{Data, array, Items, no_items, item, Members, no_members, member}

-- the members with another at its place in the order of the keys
abbrev pub with_member : List ℕ → Data → Members → Members
with_member k d no_members = member k d no_members
with_member k d (member l e ms) =
    match_ordering (slice_cmp nat_cmp k l) (member k d (member l e ms)) (member l d ms)
    (member l e (with_member k d ms))

-- the members with an array of these elements at the key; with none, as they are
abbrev pub with_elements : List ℕ → Items → Members → Members
with_elements key no_items ms = ms
with_elements key (item d ds) ms = with_member key (array (item d ds)) ms
