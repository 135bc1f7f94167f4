-- What is written out as tokens is read again: reading a tree's tokens gives the tree.
use Rattle.std.proofs.Common.{◌≡◌, List, [], ◌∷◌, ◌++◌, Some, refl, ap, ◌∙◌, append_assoc}
use Rattle.std.proofs.lemmas.List.{append-nil}
use Rattle.std.specs.Prelude.{codes}
use Rattle.pymark_core.specs.Marker.Comparison.{ComparisonValue}
use Rattle.pymark_core.specs.Marker.Grammar.{tree_tokens, conjunction_tokens, atom_tokens}
use Rattle.pymark_core.specs.Marker.Grammar.{comparison_tokens, comparator_tokens, operand_token}
use Rattle.pymark_core.specs.Marker.Reading.{Frame, ReaderState, Stage, at_atom, at_operator}
use Rattle.pymark_core.specs.Marker.Reading.{at_right, at_rest, final_tree, token_operand}
use Rattle.pymark_core.specs.Marker.Reading.{read_tokens, initial_state, next_state}
use Rattle.pymark_core.specs.Marker.Token.{Token, opening, closing, word}
use Rattle.pymark_core.specs.Marker.Tree.{Tree, Conjunction, Atom, last, or, only, and, leaf, group}
use Rattle.pymark_core.specs.Marker.Tree.{conjunction_of, tree_of}
use Rattle.pymark_core.specs.declared.operand.Comparator.{Comparator}
use Rattle.pymark_core.specs.declared.operand.Comparator.TheVariants.{By}
use Rattle.pymark_core.specs.declared.operand.Operand.{Operand}
use Rattle.pymark_core.specs.declared.operand.Operand.TheVariants.{Text, Variable}
use Rattle.pymark_core.specs.declared.variable.Var.TheVariants.{OsName}

-- ---- the end of a tree, and what stands before it

pub atoms_before : Conjunction → List Atom
atoms_before (only a) = []
atoms_before (and a others) = a ∷ atoms_before others

pub last_atom : Conjunction → Atom
last_atom (only a) = a
last_atom (and a others) = last_atom others

pub conjunctions_before : Tree → List Conjunction
conjunctions_before (last c) = []
conjunctions_before (or c others) = c ∷ conjunctions_before others

pub last_conjunction : Tree → Conjunction
last_conjunction (last c) = c
last_conjunction (or c others) = last_conjunction others

pub conjunction_rejoined : (c : Conjunction) → conjunction_of (atoms_before c) (last_atom c) ≡ c
unfolding atoms_before last_atom
conjunction_rejoined (only a) = refl
conjunction_rejoined (and a others) = ap (and a) (conjunction_rejoined others)

pub tree_rejoined : (t : Tree) → tree_of (conjunctions_before t) (last_conjunction t) ≡ t
unfolding conjunctions_before last_conjunction
tree_rejoined (last c) = refl
tree_rejoined (or c others) = ap (or c) (tree_rejoined others)

-- ---- single tokens

pub operand_read_back : (o : Operand) → token_operand (operand_token o) ≡ Some o
unfolding token_operand
operand_read_back (Variable OsName) = refl
operand_read_back o = refl

-- ---- comparisons

abbrev pub state_at : List Frame → List Conjunction → List Atom → Stage → ReaderState
state_at outer cs xs stage = record {
  outer = outer;
  inner = record { conjunctions = cs; atoms = xs };
  stage = stage;
}

read_right : (outer : List Frame) (cs : List Conjunction) (xs : List Atom)
    (l r : Operand) (o : Comparator) (ts : List Token)
    → read_tokens (state_at outer cs xs (at_right l o)) (operand_token r ∷ ts)
    ≡ read_tokens (state_at outer cs xs
    (at_rest (leaf (record { left = l; comparator = o; right = r })))) ts
unfolding read_tokens next_state
read_right outer cs xs l r o ts = rw (operand_read_back r) refl

read_comparator : (outer : List Frame) (cs : List Conjunction) (xs : List Atom)
    (l : Operand) (o : Comparator) (ts : List Token)
    → read_tokens (state_at outer cs xs (at_operator l)) (comparator_tokens o ts)
    ≡ read_tokens (state_at outer cs xs (at_right l o)) ts
unfolding read_tokens next_state
read_comparator outer cs xs l (By operator) ts = refl
read_comparator outer cs xs l o ts = refl

read_left : (outer : List Frame) (cs : List Conjunction) (xs : List Atom)
    (l : Operand) (ts : List Token)
    → read_tokens (state_at outer cs xs at_atom) (operand_token l ∷ ts)
    ≡ read_tokens (state_at outer cs xs (at_operator l)) ts
unfolding read_tokens next_state
read_left outer cs xs (Text text) ts = rw (operand_read_back (Text text)) refl
read_left outer cs xs o ts = rw (operand_read_back o) refl

read_comparison : (outer : List Frame) (cs : List Conjunction) (xs : List Atom)
    (c : ComparisonValue) (ts : List Token)
    → read_tokens (state_at outer cs xs at_atom) (comparison_tokens c ts)
    ≡ read_tokens (state_at outer cs xs (at_rest (leaf c))) ts
read_comparison outer cs xs c ts =
    read_left outer cs xs c.left (comparator_tokens c.comparator (operand_token c.right ∷ ts))
    ∙ read_comparator outer cs xs c.left c.comparator (operand_token c.right ∷ ts)
    ∙ read_right outer cs xs c.left c.right c.comparator ts

-- ---- trees

read_closing : (outer : List Frame) (cs : List Conjunction) (xs : List Atom)
    (inner : Tree) (ts : List Token)
    → read_tokens (state_at (record { conjunctions = cs; atoms = xs } ∷ outer)
    (conjunctions_before inner) (atoms_before (last_conjunction inner))
    (at_rest (last_atom (last_conjunction inner)))) (closing ∷ ts)
    ≡ read_tokens (state_at outer cs xs (at_rest (group inner))) ts
unfolding read_tokens next_state
read_closing outer cs xs inner ts =
    rw (conjunction_rejoined (last_conjunction inner), tree_rejoined inner) refl

read_opening : (outer : List Frame) (cs : List Conjunction) (xs : List Atom) (ts : List Token)
    → read_tokens (state_at outer cs xs at_atom) (opening ∷ ts)
    ≡ read_tokens (state_at (record { conjunctions = cs; atoms = xs } ∷ outer) [] [] at_atom) ts
unfolding read_tokens next_state
read_opening outer cs xs ts = refl

read_and : (outer : List Frame) (cs : List Conjunction) (xs : List Atom)
    (a : Atom) (ts : List Token)
    → read_tokens (state_at outer cs xs (at_rest a)) (word (codes "and") ∷ ts)
    ≡ read_tokens (state_at outer cs (xs ++ a ∷ []) at_atom) ts
unfolding read_tokens next_state
read_and outer cs xs a ts = refl

read_or : (outer : List Frame) (cs : List Conjunction) (xs : List Atom) (a : Atom) (ts : List Token)
    → read_tokens (state_at outer cs xs (at_rest a)) (word (codes "or") ∷ ts)
    ≡ read_tokens (state_at outer (cs ++ conjunction_of xs a ∷ []) [] at_atom) ts
unfolding read_tokens next_state
read_or outer cs xs a ts = refl

mutual
  unfolding conjunctions_before last_conjunction atoms_before last_atom

  pub read_tree : (t : Tree) (outer : List Frame) (cs : List Conjunction) (ts : List Token)
      → read_tokens (state_at outer cs [] at_atom) (tree_tokens t ts)
      ≡ read_tokens (state_at outer (cs ++ conjunctions_before t)
      (atoms_before (last_conjunction t)) (at_rest (last_atom (last_conjunction t)))) ts
  read_tree (last c) outer cs ts = rw append-nil (read_conjunction c outer cs [] ts)
  read_tree (or c others) outer cs ts =
      read_conjunction c outer cs [] (word (codes "or") ∷ tree_tokens others ts)
      ∙ read_or outer cs (atoms_before c) (last_atom c) (tree_tokens others ts)
      ∙ rw (conjunction_rejoined c)
      (read_tree others outer (cs ++ c ∷ []) ts ∙ rw append_assoc refl)

  pub read_conjunction : (c : Conjunction) (outer : List Frame) (cs : List Conjunction)
      (xs : List Atom) (ts : List Token)
      → read_tokens (state_at outer cs xs at_atom) (conjunction_tokens c ts)
      ≡ read_tokens (state_at outer cs (xs ++ atoms_before c) (at_rest (last_atom c))) ts
  read_conjunction (only a) outer cs xs ts = rw append-nil (read_atom a outer cs xs ts)
  read_conjunction (and a others) outer cs xs ts =
      read_atom a outer cs xs (word (codes "and") ∷ conjunction_tokens others ts)
      ∙ read_and outer cs xs a (conjunction_tokens others ts)
      ∙ read_conjunction others outer cs (xs ++ a ∷ []) ts ∙ rw append_assoc refl

  pub read_atom : (a : Atom) (outer : List Frame) (cs : List Conjunction)
      (xs : List Atom) (ts : List Token)
      → read_tokens (state_at outer cs xs at_atom) (atom_tokens a ts)
      ≡ read_tokens (state_at outer cs xs (at_rest a)) ts
  read_atom (leaf c) outer cs xs ts = read_comparison outer cs xs c ts
  read_atom (group inner) outer cs xs ts =
      read_opening outer cs xs (tree_tokens inner (closing ∷ ts))
      ∙ read_tree inner (record { conjunctions = cs; atoms = xs } ∷ outer) [] (closing ∷ ts)
      ∙ read_closing outer cs xs inner ts

pub tree_read_back : (t : Tree) → read_tokens initial_state (tree_tokens t []) ≡ Some t
unfolding read_tokens final_tree
tree_read_back t =
    read_tree t [] [] [] ∙ rw (conjunction_rejoined (last_conjunction t), tree_rejoined t) refl
