-- Reading a marker from the left: the tree that a text is, as a function. It gives an answer
-- exactly where `MarkerText` holds, and the tree of which it holds: the laws
-- `tree_text_is_complete` and `marker_of_is_complete`.
use Rattle.std.specs.Prelude.{ℕ, if◌then◌else◌, List, [], ◌∷◌, ◌++◌, codes, Option, Some, None}
use Rattle.std.specs.Prelude.{option_map, Result, Ok, Err}
use Rattle.std.specs.Str.{bytes_eq}
use Rattle.pytext.specs.Options.{◌>>=◌}
use Rattle.pymark_core.specs.Marker.Depth.{is_deep}
use Rattle.pymark_core.specs.Marker.Grammar.{has_misuse}
use Rattle.pymark_core.specs.Marker.Token.{Token, tokens, opening, closing, sign, word, quoted}
use Rattle.pymark_core.specs.Marker.Tree.{Tree, Conjunction, Atom, leaf, group, conjunction_of}
use Rattle.pymark_core.specs.Marker.Tree.{tree_of}
use Rattle.pymark_core.specs.Variables.{variable_of}
use Rattle.pytext.specs.White.{trim_white}
use Rattle.pymark_core.specs.declared.marker.error.MarkerError.{MarkerError}
use Rattle.pymark_core.specs.declared.marker.error.MarkerError.TheVariants.{TooDeep, Syntax}
use Rattle.pymark_core.specs.declared.marker.error.MarkerError.TheVariants.{SetMisuse}
use Rattle.pymark_core.specs.declared.operand.Comparator.{Comparator}
use Rattle.pymark_core.specs.declared.operand.Comparator.TheVariants.{By, In, NotIn}
use Rattle.pymark_core.specs.declared.operand.Operand.{Operand}
use Rattle.pymark_core.specs.declared.operand.Operand.TheVariants.{Text, Variable, Extra, Extras}
use Rattle.pymark_core.specs.declared.operand.Operand.TheVariants.{Groups}

-- ---- single tokens

-- the operand of a word
abbrev pub word_operand : List ℕ → Option Operand
word_operand letters =
    if bytes_eq (codes "extra") letters then Some Extra
    else if bytes_eq (codes "extras") letters then Some Extras
    else if bytes_eq (codes "dependency_groups") letters then Some Groups
    else option_map Variable (variable_of letters)

unfoldable pub token_operand : Token → Option Operand
token_operand (word letters) = word_operand letters
token_operand (quoted text) = Some (Text text)
token_operand token = None

-- ---- what was read so far

-- what may stand next, with what is read of a comparison
pub data Stage : Type 0 where
  -- an operand or `(`
  at_atom : Stage
  -- an operator, or `not`
  at_operator : Operand → Stage
  -- the `in` of `not in`
  at_in : Operand → Stage
  -- the operand on the right
  at_right : Operand → Comparator → Stage
  -- `and`, `or`, `)` or the end, behind an atom
  at_rest : Atom → Stage

-- what stands so far inside one pair of parentheses: whole conjunctions, each with an `or` behind
-- it, and atoms of the next conjunction, each with an `and` behind it
pub record Frame : Type 0 where
  pub conjunctions : List Conjunction
  pub atoms : List Atom

-- the frame of each open parenthesis, the innermost first, and the frame of what is read now
pub record ReaderState : Type 0 where
  pub outer : List Frame
  pub inner : Frame
  pub stage : Stage

abbrev pub empty_frame : Frame
empty_frame = record { conjunctions = []; atoms = [] }

abbrev pub initial_state : ReaderState
initial_state = record { outer = []; inner = empty_frame; stage = at_atom }

-- the conjunction that ends with this atom
abbrev pub frame_conjunction : Frame → Atom → Conjunction
frame_conjunction frame atom = conjunction_of frame.atoms atom

-- the tree that ends with this atom
abbrev pub frame_tree : Frame → Atom → Tree
frame_tree frame atom = tree_of frame.conjunctions (frame_conjunction frame atom)

-- ---- one token further

-- the stage after the left operand and this token
abbrev pub stage_after_left : Operand → Token → Option Stage
stage_after_left left (sign operator) = Some (at_right left (By operator))
stage_after_left left (word letters) =
    if bytes_eq (codes "in") letters then Some (at_right left In)
    else if bytes_eq (codes "not") letters then Some (at_in left)
    else None
stage_after_left left token = None

-- the stage after the left operand, `not` and this token
abbrev pub stage_after_not : Operand → Token → Option Stage
stage_after_not left (word letters) =
    if bytes_eq (codes "in") letters then Some (at_right left NotIn) else None
stage_after_not left token = None

-- the stage after a comparison that this token ends
abbrev pub stage_after_right : Operand → Comparator → Token → Option Stage
stage_after_right left comparator token =
    option_map
    (λ right. at_rest (leaf (record { left = left; comparator = comparator; right = right })))
    (token_operand token)

-- the state after an operand or `(`
abbrev pub state_after_start : List Frame → Frame → Token → Option ReaderState
state_after_start outer inner opening =
    Some (record { outer = inner ∷ outer; inner = empty_frame; stage = at_atom })
state_after_start outer inner closing = None
state_after_start outer inner (sign operator) = None
state_after_start outer inner token =
    option_map (λ left. record { outer = outer; inner = inner; stage = at_operator left })
    (token_operand token)

-- the state after `)`, which needs an open parenthesis
abbrev pub state_after_closing : List Frame → Frame → Atom → Option ReaderState
state_after_closing [] inner atom = None
state_after_closing (frame ∷ outer) inner atom =
    Some (record { outer = outer; inner = frame; stage = at_rest (group (frame_tree inner atom)) })

-- the state after an atom and this token
abbrev pub state_after_atom : List Frame → Frame → Atom → Token → Option ReaderState
state_after_atom outer inner atom closing = state_after_closing outer inner atom
state_after_atom outer inner atom (word letters) =
    if bytes_eq (codes "and") letters then Some (record {
      outer = outer;
      inner = record { conjunctions = inner.conjunctions; atoms = inner.atoms ++ atom ∷ [] };
      stage = at_atom;
    })
    else if bytes_eq (codes "or") letters then Some (record {
      outer = outer;
      inner = record {
        conjunctions = inner.conjunctions ++ frame_conjunction inner atom ∷ [];
        atoms = [];
      };
      stage = at_atom;
    })
    else None
state_after_atom outer inner atom token = None

abbrev pub with_stage : List Frame → Frame → Option Stage → Option ReaderState
with_stage outer inner stage =
    option_map (λ next. record { outer = outer; inner = inner; stage = next }) stage

abbrev pub next_state_at : List Frame → Frame → Stage → Token → Option ReaderState
next_state_at outer inner at_atom token = state_after_start outer inner token
next_state_at outer inner (at_operator left) token =
    with_stage outer inner (stage_after_left left token)
next_state_at outer inner (at_in left) token = with_stage outer inner (stage_after_not left token)
next_state_at outer inner (at_right left comparator) token =
    with_stage outer inner (stage_after_right left comparator token)
next_state_at outer inner (at_rest atom) token = state_after_atom outer inner atom token

-- the state after one more token, or none
unfoldable pub next_state : ReaderState → Token → Option ReaderState
next_state state token = next_state_at state.outer state.inner state.stage token

-- ---- the whole

-- the tree where the text ends here, or none
abbrev pub tree_at_end : List Frame → Stage → Frame → Option Tree
tree_at_end [] (at_rest atom) inner = Some (frame_tree inner atom)
tree_at_end outer stage inner = None

unfoldable pub final_tree : ReaderState → Option Tree
final_tree state = tree_at_end state.outer state.stage state.inner

-- the tree that ends with these tokens
unfoldable pub read_tokens : ReaderState → List Token → Option Tree
read_tokens state [] = final_tree state
read_tokens state (token ∷ others) = next_state state token >>= λ next. read_tokens next others

-- the tree that a text is, or none
abbrev pub tree_text : List ℕ → Option Tree
tree_text text = tokens text >>= λ all. read_tokens initial_state all

-- a marker: its text without the white space round it, and its tree
pub record MarkerValue : Type 0 where
  pub text : List ℕ
  pub tree : Tree

-- the marker of a tree, which must not misuse a set
abbrev pub marker_from : List ℕ → Option Tree → Result MarkerValue MarkerError
marker_from text None = Err Syntax
marker_from text (Some tree) =
    if has_misuse tree then Err SetMisuse
    else Ok (record { text = trim_white text; tree = tree })

-- the marker that a text is, or why it is none
unfoldable pub marker_of : List ℕ → Result MarkerValue MarkerError
marker_of text = if is_deep text then Err TooDeep else marker_from text (tree_text text)
