use Rattle.std.proofs.Common.{◌≡◌, ◌+◌, [], drop}
use Rattle.serde_json.specs.View.{items_view}
use Rattle.pylock_installed.specs.Inner.Tables.{AreNames}
use Rattle.pylock_installed.specs.Reading.{with_elements}
use Rattle.pylock_installed.proofs.reading.read_elements.Given as goal

-- the elements that are left are still to be read
abbrev pub invariant-loop-place : goal.invariant-loop-place
invariant-loop-place l = record {
  left : with_elements l.form (l.place + 1) l.listed.projects.items (items_view (drop l.place l.elements)) ≡ with_elements l.form 1 [] (items_view l.elements);
  names : AreNames l.listed.names l.listed.projects.items;
}
