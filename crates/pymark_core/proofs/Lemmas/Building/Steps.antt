-- Steps of the code that builds a marker's tree.
use Rattle.std.proofs.Common.{◌≡◌, ℕ, true, false, List, [], ◌∷◌, ◌++◌, map, Option, Some, None, Ok, ok_or, length, ◌<◌, refl, ap, sym, inl, inr, arith}
use Rattle.std.specs.Prelude.{codes, option_map, reverse, ◌==◌}
use Rattle.std.specs.Str.{bytes_eq}
use Rattle.std.specs.Global.{Box}
use Rattle.std.proofs.lemmas.List.{length-map, length-reverse, map-append, reverse-append}
use Rattle.std.proofs.lemmas.Bool.Decides.{nat_tests}
use Rattle.std.proofs.lemmas.Slice.Eq.{bytes_eq-Decides}
use Rattle.std.proofs.lemmas.Bool.{cases_Bool}
use Rattle.pymark_core.proofs.Lemmas.Marker.View.{view_group}
use Rattle.pymark_core.specs.Inner.Building.{frame_view, comparison_ended_by}
use Rattle.pymark_core.specs.Marker.Reading as reading
use Rattle.pymark_core.specs.Marker.Reading.{Stage, at_atom, at_operator, at_in, at_rest, at_right, state_after_closing, tree_at_end, frame_tree, token_operand, word_operand}
use Rattle.pymark_core.specs.Marker.Token.{Token}
use Rattle.pymark_core.specs.Marker.View.{atom_view, tree_view}
use Rattle.pymark_core.specs.Variables.{variable_of}
use Rattle.pymark_core.specs.declared.marker.builder.Frame.{Frame}
use Rattle.pymark_core.specs.declared.marker.tree.Atom.{Atom}
use Rattle.pymark_core.specs.declared.marker.tree.Atom.TheVariants.{Group}
use Rattle.pymark_core.specs.declared.marker.tree.Joined.{Joined}
use Rattle.pymark_core.specs.declared.marker.error.MarkerError.TheVariants.{Syntax}
use Rattle.pymark_core.specs.declared.operand.Comparator.{Comparator}
use Rattle.pymark_core.specs.declared.operand.Operand.{Operand}
use Rattle.pymark_core.specs.declared.operand.Operand.TheVariants.{Variable}

pub other_way : (a b : List ℕ) → bytes_eq a b ≡ false → bytes_eq b a ≡ false
other_way a b differ = elim (cases_Bool (bytes_eq b a)) [
  | inl same ↦
      let turned : bytes_eq a b ≡ true = (bytes_eq-Decides a b).1 (sym ((bytes_eq-Decides b a).0 same)) in
      absurd cc
  | inr e ↦ e
]

pub word_is_variable : (letters : List ℕ) → bytes_eq (codes "extra") letters ≡ false → bytes_eq (codes "extras") letters ≡ false → bytes_eq (codes "dependency_groups") letters ≡ false
    → word_operand letters ≡ option_map Variable (variable_of letters)
word_is_variable letters a b c = rw (a, b, c) refl

last_first : (xs : List Frame) (x : Frame) → reverse (map frame_view (xs ++ x ∷ [])) ≡ frame_view x ∷ reverse (map frame_view xs)
last_first xs x = rw (map-append, reverse-append) refl

pub state_after_closing_is : (items left : List Frame) (frame inner dest : Frame) (atom : Atom) (inside : Joined (Joined Atom)) (b : Box (Joined (Joined Atom)))
    → items ≡ left ++ frame ∷ [] → dest ≡ frame → tree_view inside ≡ frame_tree (frame_view inner) (atom_view atom) → b.value ≡ inside
    → state_after_closing (reverse (map frame_view items)) (frame_view inner) (atom_view atom)
    ≡ Some (record { outer = reverse (map frame_view left); inner = frame_view dest; stage = at_rest (atom_view (Group b)) })
state_after_closing_is items left frame inner dest atom inside b all is tree boxed =
    rw (all, last_first left frame, is, view_group b, boxed, tree) refl

pub some_from_ok : {X : Type 0} (o : Option X) (x : X) → ok_or o Syntax ≡ Ok x → o ≡ Some x
some_from_ok None x e = absurd cc
some_from_ok (Some y) x e = let same : y ≡ x = cc in ap Some same

pub comparison_ended_by_right : (left : Operand) (comparator : Comparator) (t : Token) (right : Operand) → ok_or (token_operand t) Syntax ≡ Ok right
    → comparison_ended_by (at_right left comparator) t ≡ record { left = left; comparator = comparator; right = right } ∷ []
comparison_ended_by_right left comparator t right e = rw (some_from_ok (token_operand t) right e) refl

pub none_open : (items : List Frame) → (length items == 0) ≡ true → reverse (map frame_view items) ≡ []
none_open [] e = refl
none_open (x ∷ xs) e = absurd (grind (arith, nat_tests))

some_outer : (outer : List reading.Frame) (stage : Stage) (inner : reading.Frame) → 0 < length outer → tree_at_end outer stage inner ≡ None
some_outer [] stage inner some = absurd (omega arith)
some_outer (frame ∷ outer) stage inner some = refl

pub some_open : (items : List Frame) (stage : Stage) (inner : reading.Frame) → (length items == 0) ≡ false → tree_at_end (reverse (map frame_view items)) stage inner ≡ None
some_open [] stage inner e = absurd cc
some_open (x ∷ xs) stage inner e =
    some_outer (reverse (map frame_view (x ∷ xs))) stage inner (omega (arith, length-reverse (map frame_view (x ∷ xs)), length-map (x ∷ xs) frame_view))

-- whether a parenthesis is open
pub ruleset open_or_none = (none_open, some_open)
