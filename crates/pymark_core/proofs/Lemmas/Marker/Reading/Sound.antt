-- What is read is written so: the tree that reading gives has these tokens.
use Rattle.std.proofs.Common.{◌≡◌, ℕ, true, List, [], ◌∷◌, ◌++◌, Option, Some, refl, sym, ap, ◌∙◌, inl, inr}
use Rattle.std.specs.Prelude.{codes, option_map}
use Rattle.std.specs.Str.{bytes_eq}
use Rattle.std.proofs.lemmas.Slice.Eq.{bytes_eq-Decides}
use Rattle.pytext.proofs.OptionsLemmas.{bind_some, map_some}
use Rattle.pymark_core.proofs.ChoiceLemmas.{cond_cases, found_passes}
use Rattle.pymark_core.specs.Marker.Grammar.{tree_tokens, conjunction_tokens, atom_tokens, comparator_tokens, operand_token}
use Rattle.pymark_core.specs.Marker.Reading.{Frame, ReaderState, Stage, at_atom, at_operator, at_in, at_right, at_rest, state_after_atom, state_after_start, state_after_closing, stage_after_left, stage_after_not, stage_after_right, empty_frame, tree_at_end, final_tree, frame_conjunction, frame_tree, token_operand, next_state_at, read_tokens, with_stage, initial_state, next_state, word_operand}
use Rattle.pymark_core.specs.Marker.Token.{Token, opening, closing, sign, word, quoted}
use Rattle.pymark_core.specs.Marker.Tree.{Tree, Conjunction, Atom, leaf, group, conjunction_of, tree_of}
use Rattle.pymark_core.specs.Variables.{variable_name, variable_of, variables}
use Rattle.pymark_core.specs.declared.operand.Comparator.{Comparator}
use Rattle.pymark_core.specs.declared.operand.Comparator.TheVariants.{By, In, NotIn}
use Rattle.pymark_core.specs.declared.operand.Operand.{Operand}
use Rattle.pymark_core.specs.declared.operand.Operand.TheVariants.{Text, Variable, Extra, Extras, Groups}

-- ---- what was read up to a state, before the tokens after it

abbrev pub atoms_tokens : List Atom → List Token → List Token
atoms_tokens [] behind = behind
atoms_tokens (a ∷ others) behind = atom_tokens a (word (codes "and") ∷ atoms_tokens others behind)

abbrev pub conjunctions_tokens : List Conjunction → List Token → List Token
conjunctions_tokens [] behind = behind
conjunctions_tokens (c ∷ others) behind = conjunction_tokens c (word (codes "or") ∷ conjunctions_tokens others behind)

abbrev pub frame_tokens : Frame → List Token → List Token
frame_tokens frame behind = conjunctions_tokens frame.conjunctions (atoms_tokens frame.atoms behind)

abbrev pub outer_tokens : List Frame → List Token → List Token
outer_tokens [] behind = behind
outer_tokens (frame ∷ outer) behind = outer_tokens outer (frame_tokens frame (opening ∷ behind))

abbrev pub stage_tokens : Stage → List Token → List Token
stage_tokens at_atom behind = behind
stage_tokens (at_operator left) behind = operand_token left ∷ behind
stage_tokens (at_in left) behind = operand_token left ∷ word (codes "not") ∷ behind
stage_tokens (at_right left comparator) behind = operand_token left ∷ comparator_tokens comparator behind
stage_tokens (at_rest atom) behind = atom_tokens atom behind

abbrev pub state_tokens : ReaderState → List Token → List Token
state_tokens state behind = outer_tokens state.outer (frame_tokens state.inner (stage_tokens state.stage behind))

-- ---- parts joined

conjunction_joined : (xs : List Atom) (a : Atom) (behind : List Token) → conjunction_tokens (conjunction_of xs a) behind ≡ atoms_tokens xs (atom_tokens a behind)
conjunction_joined [] a behind = refl
conjunction_joined (x ∷ xs) a behind = ap (λ ts. atom_tokens x (word (codes "and") ∷ ts)) (conjunction_joined xs a behind)

tree_joined : (cs : List Conjunction) (c : Conjunction) (behind : List Token) → tree_tokens (tree_of cs c) behind ≡ conjunctions_tokens cs (conjunction_tokens c behind)
tree_joined [] c behind = refl
tree_joined (x ∷ cs) c behind = ap (λ ts. conjunction_tokens x (word (codes "or") ∷ ts)) (tree_joined cs c behind)

pub frame_joined : (frame : Frame) (a : Atom) (behind : List Token) → tree_tokens (frame_tree frame a) behind ≡ frame_tokens frame (atom_tokens a behind)
frame_joined frame a behind =
    tree_joined frame.conjunctions (conjunction_of frame.atoms a) behind
    ∙ ap (conjunctions_tokens frame.conjunctions) (conjunction_joined frame.atoms a behind)

atoms_pushed : (xs : List Atom) (a : Atom) (behind : List Token) → atoms_tokens (xs ++ a ∷ []) behind ≡ atoms_tokens xs (atom_tokens a (word (codes "and") ∷ behind))
atoms_pushed [] a behind = refl
atoms_pushed (x ∷ xs) a behind = ap (λ ts. atom_tokens x (word (codes "and") ∷ ts)) (atoms_pushed xs a behind)

conjunctions_pushed : (cs : List Conjunction) (c : Conjunction) (behind : List Token) → conjunctions_tokens (cs ++ c ∷ []) behind ≡ conjunctions_tokens cs (conjunction_tokens c (word (codes "or") ∷ behind))
conjunctions_pushed [] c behind = refl
conjunctions_pushed (x ∷ cs) c behind = ap (λ ts. conjunction_tokens x (word (codes "or") ∷ ts)) (conjunctions_pushed cs c behind)

-- ---- single tokens

same_word : (a b : List ℕ) → bytes_eq a b ≡ true → word a ≡ word b
same_word a b e = ap word ((bytes_eq-Decides a b).0 e)

word_sound : (letters : List ℕ) (o : Operand) → word_operand letters ≡ Some o → operand_token o ≡ word letters
word_sound letters o e = elim (cond_cases (bytes_eq (codes "extra") letters) _ _ _ e) [
  | inl w ↦ let is : Extra ≡ o = cc in rw (← is) (same_word (codes "extra") letters w.0)
  | inr v ↦ elim (cond_cases (bytes_eq (codes "extras") letters) _ _ _ v.1) [
    | inl w ↦ let is : Extras ≡ o = cc in rw (← is) (same_word (codes "extras") letters w.0)
    | inr u ↦ elim (cond_cases (bytes_eq (codes "dependency_groups") letters) _ _ _ u.1) [
      | inl w ↦ let is : Groups ≡ o = cc in rw (← is) (same_word (codes "dependency_groups") letters w.0)
      | inr w ↦
          let found = map_some (variable_of letters) Variable o w.1 in
          rw (← found.2) (same_word _ _ (found_passes (λ variable. bytes_eq (variable_name variable) letters) variables found.0 found.1))
    ]
  ]
]

pub operand_sound : (t : Token) (o : Operand) → token_operand t ≡ Some o → operand_token o ≡ t
unfolding token_operand
operand_sound (word letters) o e = word_sound letters o e
operand_sound (quoted text) o e = let is : Text text ≡ o = cc in rw (← is) refl
operand_sound t o e = absurd cc

left_sound : (left : Operand) (t : Token) (s : Stage) (ts : List Token) → stage_after_left left t ≡ Some s → stage_tokens s ts ≡ operand_token left ∷ t ∷ ts
left_sound left (sign operator) s ts e = let is : at_right left (By operator) ≡ s = cc in rw (← is) refl
left_sound left (word letters) s ts e = elim (cond_cases (bytes_eq (codes "in") letters) _ _ _ e) [
  | inl w ↦ let is : at_right left In ≡ s = cc in rw (← is, same_word (codes "in") letters w.0) refl
  | inr v ↦ elim (cond_cases (bytes_eq (codes "not") letters) _ _ _ v.1) [
    | inl w ↦ let is : at_in left ≡ s = cc in rw (← is, same_word (codes "not") letters w.0) refl
    | inr w ↦ absurd cc
  ]
]
left_sound left t s ts e = absurd cc

not_sound : (left : Operand) (t : Token) (s : Stage) (ts : List Token) → stage_after_not left t ≡ Some s → stage_tokens s ts ≡ operand_token left ∷ word (codes "not") ∷ t ∷ ts
not_sound left (word letters) s ts e = elim (cond_cases (bytes_eq (codes "in") letters) _ _ _ e) [
  | inl w ↦ let is : at_right left NotIn ≡ s = cc in rw (← is, same_word (codes "in") letters w.0) refl
  | inr w ↦ absurd cc
]
not_sound left t s ts e = absurd cc

right_sound : (left : Operand) (o : Comparator) (t : Token) (s : Stage) (ts : List Token) → stage_after_right left o t ≡ Some s → stage_tokens s ts ≡ operand_token left ∷ comparator_tokens o (t ∷ ts)
right_sound left o t s ts e =
    let found = map_some (token_operand t) (λ right. at_rest (leaf (record { left = left; comparator = o; right = right }))) s e in
    rw (← found.2, operand_sound t found.0 found.1) refl

-- ---- states

with_stage_sound : (outer : List Frame) (inner : Frame) (before : Stage) (t : Token) (o : Option Stage) (next : ReaderState) (ts : List Token)
    → ((s : Stage) → o ≡ Some s → stage_tokens s ts ≡ stage_tokens before (t ∷ ts))
    → with_stage outer inner o ≡ Some next → state_tokens next ts ≡ outer_tokens outer (frame_tokens inner (stage_tokens before (t ∷ ts)))
with_stage_sound outer inner before t o next ts sound e =
    let found = map_some o (λ s. record { outer = outer; inner = inner; stage = s }) next e in
    rw (← found.2) (ap (λ xs. outer_tokens outer (frame_tokens inner xs)) (sound found.0 found.1))

start_operand : (outer : List Frame) (inner : Frame) (t : Token) (next : ReaderState) (ts : List Token)
    → option_map (λ left. record { outer = outer; inner = inner; stage = at_operator left }) (token_operand t) ≡ Some next
    → state_tokens next ts ≡ outer_tokens outer (frame_tokens inner (t ∷ ts))
start_operand outer inner t next ts e =
    let found = map_some (token_operand t) (λ left. record { outer = outer; inner = inner; stage = at_operator left }) next e in
    rw (← found.2) (ap (λ x. outer_tokens outer (frame_tokens inner (x ∷ ts))) (operand_sound t found.0 found.1))

start_sound : (outer : List Frame) (inner : Frame) (t : Token) (next : ReaderState) (ts : List Token)
    → state_after_start outer inner t ≡ Some next → state_tokens next ts ≡ outer_tokens outer (frame_tokens inner (t ∷ ts))
start_sound outer inner opening next ts e =
    let is : record { outer = inner ∷ outer; inner = empty_frame; stage = at_atom } ≡ next = cc in rw (← is) refl
start_sound outer inner closing next ts e = absurd cc
start_sound outer inner (sign operator) next ts e = absurd cc
start_sound outer inner t next ts e = start_operand outer inner t next ts e

closing_sound : (outer : List Frame) (inner : Frame) (a : Atom) (next : ReaderState) (ts : List Token)
    → state_after_closing outer inner a ≡ Some next → state_tokens next ts ≡ outer_tokens outer (frame_tokens inner (atom_tokens a (closing ∷ ts)))
closing_sound [] inner a next ts e = absurd cc
closing_sound (frame ∷ outer) inner a next ts e =
    let is : record { outer = outer; inner = frame; stage = at_rest (group (frame_tree inner a)) } ≡ next = cc in
    rw (← is) (ap (λ xs. outer_tokens outer (frame_tokens frame (opening ∷ xs))) (frame_joined inner a (closing ∷ ts)))

atom_sound : (outer : List Frame) (inner : Frame) (a : Atom) (t : Token) (next : ReaderState) (ts : List Token)
    → state_after_atom outer inner a t ≡ Some next → state_tokens next ts ≡ outer_tokens outer (frame_tokens inner (atom_tokens a (t ∷ ts)))
atom_sound outer inner a closing next ts e = closing_sound outer inner a next ts e
atom_sound outer inner a (word letters) next ts e = elim (cond_cases (bytes_eq (codes "and") letters) _ _ _ e) [
  | inl w ↦
      let is : record { outer = outer; inner = record { conjunctions = inner.conjunctions; atoms = inner.atoms ++ a ∷ [] }; stage = at_atom } ≡ next = cc in
      rw (← is, ← same_word (codes "and") letters w.0) (ap (λ xs. outer_tokens outer (conjunctions_tokens inner.conjunctions xs)) (atoms_pushed inner.atoms a ts))
  | inr v ↦ elim (cond_cases (bytes_eq (codes "or") letters) _ _ _ v.1) [
    | inl w ↦
        let is : record { outer = outer; inner = record { conjunctions = inner.conjunctions ++ frame_conjunction inner a ∷ []; atoms = [] }; stage = at_atom } ≡ next = cc in
        rw (← is, ← same_word (codes "or") letters w.0) (ap (outer_tokens outer)
        (conjunctions_pushed inner.conjunctions (frame_conjunction inner a) ts ∙ ap (conjunctions_tokens inner.conjunctions) (conjunction_joined inner.atoms a (word (codes "or") ∷ ts))))
    | inr w ↦ absurd cc
  ]
]
atom_sound outer inner a t next ts e = absurd cc

next_state_at_sound : (outer : List Frame) (inner : Frame) (stage : Stage) (t : Token) (next : ReaderState) (ts : List Token)
    → next_state_at outer inner stage t ≡ Some next → state_tokens next ts ≡ outer_tokens outer (frame_tokens inner (stage_tokens stage (t ∷ ts)))
next_state_at_sound outer inner at_atom t next ts e = start_sound outer inner t next ts e
next_state_at_sound outer inner (at_operator left) t next ts e = with_stage_sound outer inner (at_operator left) t (stage_after_left left t) next ts (λ s h. left_sound left t s ts h) e
next_state_at_sound outer inner (at_in left) t next ts e = with_stage_sound outer inner (at_in left) t (stage_after_not left t) next ts (λ s h. not_sound left t s ts h) e
next_state_at_sound outer inner (at_right left o) t next ts e = with_stage_sound outer inner (at_right left o) t (stage_after_right left o t) next ts (λ s h. right_sound left o t s ts h) e
next_state_at_sound outer inner (at_rest a) t next ts e = atom_sound outer inner a t next ts e

tree_at_end_sound : (outer : List Frame) (stage : Stage) (inner : Frame) (tree : Tree)
    → tree_at_end outer stage inner ≡ Some tree → tree_tokens tree [] ≡ outer_tokens outer (frame_tokens inner (stage_tokens stage []))
tree_at_end_sound [] (at_rest a) inner tree e = let is : frame_tree inner a ≡ tree = cc in rw (← is) (frame_joined inner a [])
tree_at_end_sound outer stage inner tree e = absurd cc

read_tokens_sound : (state : ReaderState) (ts : List Token) (tree : Tree) → read_tokens state ts ≡ Some tree → tree_tokens tree [] ≡ state_tokens state ts
unfolding read_tokens final_tree next_state
read_tokens_sound state [] tree e = tree_at_end_sound state.outer state.stage state.inner tree e
read_tokens_sound state (t ∷ ts) tree e =
    let found = bind_some (next_state state t) (λ next. read_tokens next ts) tree e in
    read_tokens_sound found.0 ts tree found.2 ∙ next_state_at_sound state.outer state.inner state.stage t found.0 ts found.1

pub read_sound : (ts : List Token) (tree : Tree) → read_tokens initial_state ts ≡ Some tree → ts ≡ tree_tokens tree []
read_sound ts tree e = sym (read_tokens_sound initial_state ts tree e)
