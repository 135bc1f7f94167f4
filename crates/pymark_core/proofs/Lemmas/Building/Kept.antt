-- What is noted while a marker is read is what its tree compares.
use Rattle.std.proofs.Common.{◌≡◌, Bool, true, false, ◌||◌, List, [], ◌∷◌, ◌++◌, Option, Some, Ok, ok_or, refl, ap, sym, ◌∙◌, inl, inr}
use Rattle.std.specs.Prelude.{ℕ, codes, option_map}
use Rattle.std.specs.Option.{option_to_list}
use Rattle.std.specs.List.{list_any}
use Rattle.std.specs.Str.{IsUtf8, bytes_eq}
use Rattle.pytext.specs.Options.{◌>>=◌}
use Rattle.std.proofs.Math.Bool.{or_assoc}
use Rattle.std.proofs.lemmas.List.Folds.{list_any-append}
use Rattle.pymark_core.proofs.Lemmas.Building.Steps.{some_from_ok}
use Rattle.pytext.proofs.OptionsLemmas.{map_some}
use Rattle.pymark_core.proofs.ChoiceLemmas.{cond_cases}
use Rattle.pymark_core.specs.Inner.Building.{NotesGain, NotesOf, comparison_ended_by}
use Rattle.pymark_core.specs.Marker.Comparison.{ComparisonValue}
use Rattle.pymark_core.specs.Marker.Grammar.{atom_comparisons, comparisons, conjunction_comparisons, is_misuse}
use Rattle.pymark_core.specs.Marker.Keys.{comparison_reads, is_flagged}
use Rattle.pymark_core.specs.Marker.Reading.{Frame, ReaderState, Stage, at_atom, at_operator, at_in, at_right, at_rest, state_after_atom, state_after_start, state_after_closing, stage_after_left, stage_after_not, stage_after_right, empty_frame, tree_at_end, final_tree, frame_conjunction, frame_tree, token_operand, next_state_at, read_tokens, with_stage, next_state, tree_text}
use Rattle.pymark_core.specs.Marker.Token.{Token, opening, closing, sign, word, quoted, tokens}
use Rattle.pymark_core.specs.Marker.Tree.{Tree, Conjunction, Atom, leaf, group, conjunction_of, tree_of}
use Rattle.pymark_core.specs.declared.marker.error.MarkerError.TheVariants.{Syntax}
use Rattle.pymark_core.specs.declared.marker.keys.Key.{Key}
use Rattle.pymark_core.specs.declared.marker.notes.Notes.{Notes}
use Rattle.pymark_core.specs.declared.operand.Comparator.{Comparator}
use Rattle.pymark_core.specs.declared.operand.Comparator.TheVariants.{By, In, NotIn}
use Rattle.pymark_core.specs.declared.operand.Operand.{Operand}

or_opened : (o i : Bool) → ((o || i) || ((false || false) || false)) ≡ ((o || (i || false)) || false)
or_opened false true = refl
or_opened o i = refl

or_closed : (o f x : Bool) → (o || (f || x)) ≡ (((o || f) || x) || false)
or_closed false false true = refl
or_closed o f x = refl

or_joined : (o c xs a : Bool) → (o || ((c || (xs || (a || false))) || false)) ≡ ((o || ((c || xs) || a)) || false)
or_joined false false false true = refl
or_joined o c xs a = refl

or_parted : (o c xs a : Bool) → (o || (((c || ((xs || a) || false)) || false) || false)) ≡ ((o || ((c || xs) || a)) || false)
or_parted false false false true = refl
or_parted o c xs a = refl

module _ (p : ComparisonValue → Bool) where
  -- whether a comparison passes, in each part of what was read
  abbrev pub atom_any : Atom → Bool
  atom_any a = list_any p (atom_comparisons a)

  abbrev pub conjunction_any : Conjunction → Bool
  conjunction_any c = list_any p (conjunction_comparisons c)

  abbrev pub frame_any : Frame → Bool
  frame_any f = list_any conjunction_any f.conjunctions || list_any atom_any f.atoms

  abbrev pub outer_any : List Frame → Bool
  outer_any [] = false
  outer_any (f ∷ outer) = outer_any outer || frame_any f

  abbrev pub stage_any : Stage → Bool
  stage_any (at_rest atom) = atom_any atom
  stage_any stage = false

  abbrev pub state_any : ReaderState → Bool
  state_any state = outer_any state.outer || (frame_any state.inner || stage_any state.stage)

  -- ---- parts joined

  any_conjunction : (xs : List Atom) (a : Atom) → conjunction_any (conjunction_of xs a) ≡ (list_any atom_any xs || atom_any a)
  any_conjunction [] a = refl
  any_conjunction (x ∷ xs) a =
      list_any-append p (atom_comparisons x) (conjunction_comparisons (conjunction_of xs a))
      ∙ ap (λ t. atom_any x || t) (any_conjunction xs a) ∙ sym (or_assoc (atom_any x) (list_any atom_any xs) (atom_any a))

  any_tree : (cs : List Conjunction) (c : Conjunction) → list_any p (comparisons (tree_of cs c)) ≡ (list_any conjunction_any cs || conjunction_any c)
  any_tree [] c = refl
  any_tree (x ∷ cs) c =
      list_any-append p (conjunction_comparisons x) (comparisons (tree_of cs c))
      ∙ ap (λ t. conjunction_any x || t) (any_tree cs c) ∙ sym (or_assoc (conjunction_any x) (list_any conjunction_any cs) (conjunction_any c))

  pub any_frame : (f : Frame) (a : Atom) → list_any p (comparisons (frame_tree f a)) ≡ (frame_any f || atom_any a)
  any_frame f a =
      any_tree f.conjunctions (conjunction_of f.atoms a)
      ∙ ap (λ t. list_any conjunction_any f.conjunctions || t) (any_conjunction f.atoms a)
      ∙ sym (or_assoc (list_any conjunction_any f.conjunctions) (list_any atom_any f.atoms) (atom_any a))

  -- ---- one token further

  abbrev Adds : ReaderState → List ComparisonValue → ReaderState → Type 0
  Adds state cs next = state_any next ≡ (state_any state || list_any p cs)

  same_stage : (outer : List Frame) (inner : Frame) (before after : Stage) (cs : List ComparisonValue)
      → stage_any after ≡ (stage_any before || list_any p cs)
      → (outer_any outer || (frame_any inner || stage_any after)) ≡ ((outer_any outer || (frame_any inner || stage_any before)) || list_any p cs)
  same_stage outer inner before after cs e =
      ap (λ t. outer_any outer || (frame_any inner || t)) e
      ∙ ap (λ t. outer_any outer || t) (sym (or_assoc (frame_any inner) (stage_any before) (list_any p cs)))
      ∙ sym (or_assoc (outer_any outer) (frame_any inner || stage_any before) (list_any p cs))

  left_none : (left : Operand) (t : Token) (s : Stage) → stage_after_left left t ≡ Some s → stage_any s ≡ false
  left_none left (sign operator) s e = let is : at_right left (By operator) ≡ s = cc in rw (← is) refl
  left_none left (word letters) s e = elim (cond_cases (bytes_eq (codes "in") letters) _ _ _ e) [
    | inl w ↦ let is : at_right left In ≡ s = cc in rw (← is) refl
    | inr v ↦ elim (cond_cases (bytes_eq (codes "not") letters) _ _ _ v.1) [
      | inl w ↦ let is : at_in left ≡ s = cc in rw (← is) refl
      | inr w ↦ absurd cc
    ]
  ]
  left_none left t s e = absurd cc

  not_none : (left : Operand) (t : Token) (s : Stage) → stage_after_not left t ≡ Some s → stage_any s ≡ false
  not_none left (word letters) s e = elim (cond_cases (bytes_eq (codes "in") letters) _ _ _ e) [
    | inl w ↦ let is : at_right left NotIn ≡ s = cc in rw (← is) refl
    | inr w ↦ absurd cc
  ]
  not_none left t s e = absurd cc

  right_from : (left : Operand) (o : Comparator) (found : Option Operand) (right : Operand) → found ≡ Some right
      → list_any p (option_to_list (option_map (λ x. record { left = left; comparator = o; right = x }) found)) ≡ (p (record { left = left; comparator = o; right = right }) || false)
  right_from left o found right e = rw e refl

  right_adds : (left : Operand) (o : Comparator) (t : Token) (s : Stage) → stage_after_right left o t ≡ Some s → stage_any s ≡ list_any p (comparison_ended_by (at_right left o) t)
  right_adds left o t s e =
      let found = map_some (token_operand t) (λ right. at_rest (leaf (record { left = left; comparator = o; right = right }))) s e in
      rw (← found.2) (sym (right_from left o (token_operand t) found.0 found.1))

  with_stage_adds : (outer : List Frame) (inner : Frame) (before : Stage) (o : Option Stage) (next : ReaderState) (cs : List ComparisonValue)
      → ((s : Stage) → o ≡ Some s → stage_any s ≡ (stage_any before || list_any p cs))
      → with_stage outer inner o ≡ Some next → Adds (record { outer = outer; inner = inner; stage = before }) cs next
  with_stage_adds outer inner before o next cs adds e =
      let found = map_some o (λ s. record { outer = outer; inner = inner; stage = s }) next e in
      rw (← found.2) (same_stage outer inner before found.0 cs (adds found.0 found.1))

  start_operand : (outer : List Frame) (inner : Frame) (t : Token) (next : ReaderState)
      → option_map (λ left. record { outer = outer; inner = inner; stage = at_operator left }) (token_operand t) ≡ Some next
      → Adds (record { outer = outer; inner = inner; stage = at_atom }) [] next
  start_operand outer inner t next e =
      let found = map_some (token_operand t) (λ left. record { outer = outer; inner = inner; stage = at_operator left }) next e in
      rw (← found.2) (same_stage outer inner at_atom (at_operator found.0) [] refl)

  start_adds : (outer : List Frame) (inner : Frame) (t : Token) (next : ReaderState) → state_after_start outer inner t ≡ Some next
      → Adds (record { outer = outer; inner = inner; stage = at_atom }) [] next
  start_adds outer inner opening next e =
      let is : record { outer = inner ∷ outer; inner = empty_frame; stage = at_atom } ≡ next = cc in
      rw (← is) (or_opened (outer_any outer) (frame_any inner))
  start_adds outer inner closing next e = absurd cc
  start_adds outer inner (sign operator) next e = absurd cc
  start_adds outer inner t next e = start_operand outer inner t next e

  closing_adds : (outer : List Frame) (inner : Frame) (a : Atom) (next : ReaderState) → state_after_closing outer inner a ≡ Some next
      → Adds (record { outer = outer; inner = inner; stage = at_rest a }) [] next
  closing_adds [] inner a next e = absurd cc
  closing_adds (frame ∷ outer) inner a next e =
      let is : record { outer = outer; inner = frame; stage = at_rest (group (frame_tree inner a)) } ≡ next = cc in
      rw (← is) (ap (λ t. outer_any outer || (frame_any frame || t)) (any_frame inner a) ∙ or_closed (outer_any outer) (frame_any frame) (frame_any inner || atom_any a))

  atom_adds : (outer : List Frame) (inner : Frame) (a : Atom) (t : Token) (next : ReaderState) → state_after_atom outer inner a t ≡ Some next
      → Adds (record { outer = outer; inner = inner; stage = at_rest a }) [] next
  atom_adds outer inner a closing next e = closing_adds outer inner a next e
  atom_adds outer inner a (word letters) next e = elim (cond_cases (bytes_eq (codes "and") letters) _ _ _ e) [
    | inl w ↦
        let is : record { outer = outer; inner = record { conjunctions = inner.conjunctions; atoms = inner.atoms ++ a ∷ [] }; stage = at_atom } ≡ next = cc in
        rw (← is) (ap (λ t. outer_any outer || ((list_any conjunction_any inner.conjunctions || t) || false)) (list_any-append atom_any inner.atoms (a ∷ []))
        ∙ or_joined (outer_any outer) (list_any conjunction_any inner.conjunctions) (list_any atom_any inner.atoms) (atom_any a))
    | inr v ↦ elim (cond_cases (bytes_eq (codes "or") letters) _ _ _ v.1) [
      | inl w ↦
          let is : record { outer = outer; inner = record { conjunctions = inner.conjunctions ++ frame_conjunction inner a ∷ []; atoms = [] }; stage = at_atom } ≡ next = cc in
          rw (← is) (ap (λ t. outer_any outer || ((t || false) || false))
          (list_any-append conjunction_any inner.conjunctions (frame_conjunction inner a ∷ []) ∙ ap (λ t. list_any conjunction_any inner.conjunctions || (t || false)) (any_conjunction inner.atoms a))
          ∙ or_parted (outer_any outer) (list_any conjunction_any inner.conjunctions) (list_any atom_any inner.atoms) (atom_any a))
      | inr w ↦ absurd cc
    ]
  ]
  atom_adds outer inner a t next e = absurd cc

  state_adds : (outer : List Frame) (inner : Frame) (stage : Stage) (t : Token) (next : ReaderState) → next_state_at outer inner stage t ≡ Some next
      → Adds (record { outer = outer; inner = inner; stage = stage }) (comparison_ended_by stage t) next
  state_adds outer inner at_atom t next e = start_adds outer inner t next e
  state_adds outer inner (at_operator left) t next e = with_stage_adds outer inner (at_operator left) (stage_after_left left t) next [] (λ s h. left_none left t s h) e
  state_adds outer inner (at_in left) t next e = with_stage_adds outer inner (at_in left) (stage_after_not left t) next [] (λ s h. not_none left t s h) e
  state_adds outer inner (at_right left o) t next e = with_stage_adds outer inner (at_right left o) (stage_after_right left o t) next (comparison_ended_by (at_right left o) t) (λ s h. right_adds left o t s h) e
  state_adds outer inner (at_rest a) t next e = atom_adds outer inner a t next e

  pub next_state_adds : (state : ReaderState) (t : Token) (next : ReaderState) → next_state state t ≡ Some next → state_any next ≡ (state_any state || list_any p (comparison_ended_by state.stage t))
  unfolding next_state
  next_state_adds state t next e = state_adds state.outer state.inner state.stage t next e

  tree_at_end_any : (outer : List Frame) (stage : Stage) (inner : Frame) (tree : Tree) → tree_at_end outer stage inner ≡ Some tree
      → list_any p (comparisons tree) ≡ (outer_any outer || (frame_any inner || stage_any stage))
  tree_at_end_any [] (at_rest a) inner tree e = let is : frame_tree inner a ≡ tree = cc in rw (← is) (any_frame inner a)
  tree_at_end_any outer stage inner tree e = absurd cc

  pub final_tree_any : (state : ReaderState) (tree : Tree) → final_tree state ≡ Some tree → list_any p (comparisons tree) ≡ state_any state
  unfolding final_tree
  final_tree_any state tree e = tree_at_end_any state.outer state.stage state.inner tree e

-- what was noted is what was read so far
pub record Kept (notes : Notes) (state : ReaderState) : Type 0 where
  pub reads : (key : Key) → is_flagged notes.reads key ≡ state_any (comparison_reads key) state
  pub misuse : notes.misuse ≡ state_any is_misuse state

pub kept_step : (old new : Notes) (state next : ReaderState) (t : Token) → Kept old state → ok_or (next_state state t) Syntax ≡ Ok next → NotesGain old new (comparison_ended_by state.stage t) → Kept new next
kept_step old new state next t kept stepped more =
    let is : next_state state t ≡ Some next = some_from_ok (next_state state t) next stepped in
    record {
      reads = λ key. more.reads key ∙ ap (λ x. x || list_any (comparison_reads key) (comparison_ended_by state.stage t)) (kept.reads key) ∙ sym (next_state_adds (comparison_reads key) state t next is);
      misuse = more.misuse ∙ ap (λ x. x || list_any is_misuse (comparison_ended_by state.stage t)) kept.misuse ∙ sym (next_state_adds is_misuse state t next is);
    }

pub kept_end : (notes : Notes) (state : ReaderState) (tree : Tree) → Kept notes state → final_tree state ≡ Some tree → NotesOf notes (comparisons tree)
kept_end notes state tree kept e = record {
  reads = λ key. kept.reads key ∙ sym (final_tree_any (comparison_reads key) state tree e);
  misuse = kept.misuse ∙ sym (final_tree_any is_misuse state tree e);
}

-- what stays true while a marker is read: what is left, read from here, is the tree of the whole text
pub record Reading (text rest : List ℕ) (state : ReaderState) (notes : Notes) : Type 0 where
  pub tree : (tokens rest >>= read_tokens state) ≡ tree_text text
  pub kept : Kept notes state
  pub utf8 : IsUtf8 rest
