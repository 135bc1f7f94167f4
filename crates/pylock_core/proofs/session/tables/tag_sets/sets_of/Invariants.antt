use Rattle.std.proofs.Common.{◌≤◌, length, take}
use Rattle.pylock_core.specs.Inner.Tables.TagSets.{AreSets}
use Rattle.pylock_core.proofs.session.tables.tag_sets.sets_of.Given as goal

-- the tag sets of the entries so far
abbrev pub invariant-loop-entry : goal.invariant-loop-entry
invariant-loop-entry l = record {
  within : l.entry-index ≤ length l.entries;
  sets : AreSets l.sets (take l.entry-index l.entries);
}
