-- What the code keeps while it reads a marker, seen as the state of its reader.
use Rattle.std.specs.Prelude.{◌≡◌, ◌||◌, List, [], map, reverse, Option, None, Some, option_map}
use Rattle.std.specs.Option.{option_to_list}
use Rattle.std.specs.List.{list_any}
use Rattle.pymark_core.specs.Marker.Comparison.{ComparisonValue}
use Rattle.pymark_core.specs.Marker.Grammar.{is_misuse}
use Rattle.pymark_core.specs.Marker.Keys.{comparison_reads, is_flagged}
use Rattle.pymark_core.specs.Marker.Reading as reading
use Rattle.pymark_core.specs.Marker.Reading.{ReaderState, at_atom, at_operator, at_in, at_right}
use Rattle.pymark_core.specs.Marker.Reading.{at_rest, token_operand}
use Rattle.pymark_core.specs.Marker.Token as token
use Rattle.pymark_core.specs.Marker.Tree.{Atom}
use Rattle.pymark_core.specs.Marker.View.{atom_view, conjunction_view}
use Rattle.pymark_core.specs.declared.marker.keys.Key.{Key}
use Rattle.pymark_core.specs.declared.marker.notes.Notes.{Notes}
use Rattle.pymark_core.specs.declared.marker.builder.Builder.{Builder}
use Rattle.pymark_core.specs.declared.marker.builder.Frame.{Frame}
use Rattle.pymark_core.specs.declared.marker.builder.Stage.{Stage}
use Rattle.pymark_core.specs.declared.marker.builder.Stage.TheVariants.{Start, Operator, In, Right}
use Rattle.pymark_core.specs.declared.marker.builder.Stage.TheVariants.{Rest}

abbrev pub frame_view : Frame → reading.Frame
frame_view frame = record {
  conjunctions = map conjunction_view frame.conjunctions.items;
  atoms = map atom_view frame.atoms.items;
}

abbrev pub stage_view : Stage → reading.Stage
stage_view Start = at_atom
stage_view (Operator left) = at_operator left
stage_view (In left) = at_in left
stage_view (Right left comparator) = at_right left comparator
stage_view (Rest atom) = at_rest (atom_view atom)

abbrev pub outer_view : Builder → List reading.Frame
outer_view b = reverse (map frame_view b.outer.items)

abbrev pub state_view : Builder → Stage → ReaderState
state_view b stage = record {
  outer = outer_view b;
  inner = frame_view b.inner;
  stage = stage_view stage;
}

-- the atom behind which a stage is
abbrev pub stage_atom : reading.Stage → Option Atom
stage_atom (at_rest atom) = Some atom
stage_atom stage = None

-- the comparison that ends with this token
abbrev pub comparison_ended_by : reading.Stage → token.Token → List ComparisonValue
comparison_ended_by (at_right left comparator) t =
    option_to_list (option_map
    (λ right. record { left = left; comparator = comparator; right = right })
    (token_operand t))
comparison_ended_by stage t = []

-- what was noted is what was noted before, and these comparisons
pub record NotesGain (old new : Notes) (cs : List ComparisonValue) : Type 0 where
  pub reads : (key : Key)
      → is_flagged new.reads key ≡ (is_flagged old.reads key || list_any (comparison_reads key) cs)
  pub misuse : new.misuse ≡ (old.misuse || list_any is_misuse cs)

-- what was noted is these comparisons
pub record NotesOf (notes : Notes) (cs : List ComparisonValue) : Type 0 where
  pub reads : (key : Key) → is_flagged notes.reads key ≡ list_any (comparison_reads key) cs
  pub misuse : notes.misuse ≡ list_any is_misuse cs
