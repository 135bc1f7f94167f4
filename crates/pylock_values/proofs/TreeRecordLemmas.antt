-- A marker's tree is what its record is.
use Rattle.std.proofs.Common.{◌≡◌, ◌++◌, [], ◌∷◌, ℕ, List, Option, Some, None, map, refl, sym, ap, ◌∙◌}
use Rattle.std.specs.Prelude.{◌==◌, codes, if◌then◌else◌}
use Rattle.std.specs.List.{flat_map}
use Rattle.std.specs.Str.{bytes_eq}
use Rattle.std.proofs.lemmas.List.{map-append}
use Rattle.pyver_core.specs.Set.Normal.{operator_text}
use Rattle.pyver_core.specs.declared.set.specifier.Operator.{Operator}
use Rattle.pyver_core.specs.declared.set.specifier.Operator.TheVariants as operator
use Rattle.pymark_core.specs.Marker.Comparison.{ComparisonValue}
use Rattle.pymark_core.specs.Marker.Pieces as piece
use Rattle.pymark_core.specs.Marker.Pieces.{PieceValue, tree_pieces, conjunction_pieces, atom_pieces}
use Rattle.pymark_core.specs.Marker.Reading.{word_operand}
use Rattle.pymark_core.specs.Marker.Tree.{Tree, Conjunction, Atom, last, or, only, and, leaf, group}
use Rattle.pymark_core.specs.Variables.{variable_name}
use Rattle.pymark_core.specs.declared.operand.Comparator.{Comparator}
use Rattle.pymark_core.specs.declared.operand.Comparator.TheVariants.{By, In, NotIn}
use Rattle.pymark_core.specs.declared.operand.Operand.{Operand}
use Rattle.pymark_core.specs.declared.operand.Operand.TheVariants.{Text, Variable, Extra, Extras, Groups}
use Rattle.pymark_core.specs.declared.variable.Var.{Var}
use Rattle.pymark_core.specs.declared.variable.Var.TheVariants as variable
use Rattle.pylock_values.specs.MarkerPieces.{comparator_part, marker_record, operand_part, piece_parts}
use Rattle.pylock_values.specs.Record.{record_of}
use Rattle.pylock_values.proofs.FieldLemmas.{record_back, texts_of}
use Rattle.pylock_values.proofs.TreeLemmas.{one_tree}

-- ---- no part is absent

abbrev piece_texts : PieceValue → List (List ℕ)
piece_texts (piece.comparison c) = operand_part c.left ∷ comparator_part c.comparator ∷ operand_part c.right ∷ []
piece_texts piece.both = codes "and" ∷ []
piece_texts piece.either = codes "or" ∷ []
piece_texts piece.opening = codes "(" ∷ []
piece_texts piece.closing = codes ")" ∷ []

abbrev texts : List PieceValue → List (List ℕ)
texts pieces = flat_map piece_texts pieces

parts_are : (p : PieceValue) → piece_parts p ≡ map Some (piece_texts p)
parts_are (piece.comparison c) = refl
parts_are piece.both = refl
parts_are piece.either = refl
parts_are piece.opening = refl
parts_are piece.closing = refl

all_parts_are : (pieces : List PieceValue) → flat_map piece_parts pieces ≡ map Some (texts pieces)
all_parts_are [] = refl
all_parts_are (p ∷ pieces) =
    ap (λ (t : List (Option (List ℕ))). t ++ flat_map piece_parts pieces) (parts_are p)
    ∙ ap (λ (t : List (Option (List ℕ))). map Some (piece_texts p) ++ t) (all_parts_are pieces)
    ∙ sym (map-append Some (piece_texts p) (texts pieces))

-- ---- the record is read back

begins : (p : PieceValue) (pieces : List PieceValue) → texts_of (record_of (flat_map piece_parts (p ∷ pieces))) ≡ texts (p ∷ pieces)
begins (piece.comparison c) pieces =
    ap (λ (t : List (Option (List ℕ))). texts_of (record_of t)) (all_parts_are (piece.comparison c ∷ pieces))
    ∙ record_back (operand_part c.left) (comparator_part c.comparator ∷ operand_part c.right ∷ texts pieces)
begins piece.both pieces =
    ap (λ (t : List (Option (List ℕ))). texts_of (record_of t)) (all_parts_are (piece.both ∷ pieces)) ∙ record_back (codes "and") (texts pieces)
begins piece.either pieces =
    ap (λ (t : List (Option (List ℕ))). texts_of (record_of t)) (all_parts_are (piece.either ∷ pieces)) ∙ record_back (codes "or") (texts pieces)
begins piece.opening pieces =
    ap (λ (t : List (Option (List ℕ))). texts_of (record_of t)) (all_parts_are (piece.opening ∷ pieces)) ∙ record_back (codes "(") (texts pieces)
begins piece.closing pieces =
    ap (λ (t : List (Option (List ℕ))). texts_of (record_of t)) (all_parts_are (piece.closing ∷ pieces)) ∙ record_back (codes ")") (texts pieces)

-- there is a first piece
abbrev Starts : List PieceValue → Type 0
Starts pieces = (p : PieceValue) × (rest : List PieceValue) × (pieces ≡ p ∷ rest)

more : (pieces behind : List PieceValue) → Starts pieces → Starts (pieces ++ behind)
more pieces behind s = (s.0, s.1 ++ behind, ap (λ (t : List PieceValue). t ++ behind) s.2)

atom_starts : (a : Atom) → Starts (atom_pieces a)
atom_starts (leaf c) = (piece.comparison c, [], refl)
atom_starts (group inner) = (piece.opening, tree_pieces inner ++ piece.closing ∷ [], refl)

conjunction_starts : (c : Conjunction) → Starts (conjunction_pieces c)
conjunction_starts (only a) = atom_starts a
conjunction_starts (and a others) = more (atom_pieces a) (piece.both ∷ conjunction_pieces others) (atom_starts a)

tree_starts : (tree : Tree) → Starts (tree_pieces tree)
tree_starts (last c) = conjunction_starts c
tree_starts (or c others) = more (conjunction_pieces c) (piece.either ∷ tree_pieces others) (conjunction_starts c)

record_read : (tree : Tree) → texts_of (marker_record tree) ≡ texts (tree_pieces tree)
record_read tree =
    let s = tree_starts tree in
    ap (λ (t : List PieceValue). texts_of (record_of (flat_map piece_parts t))) s.2 ∙ begins s.0 s.1 ∙ sym (ap texts s.2)

-- ---- a text is one piece's first, one operand, one comparator

data First : Type 0 where
  is_word : PieceValue → First
  is_operand : Option Operand → First

abbrev operand_of : List ℕ → Option Operand
operand_of [] = None
operand_of (b ∷ text) = if b == 34 then Some (Text text) else word_operand (b ∷ text)

abbrev first_of : List ℕ → First
first_of text =
    if bytes_eq (codes "and") text then is_word piece.both
    else if bytes_eq (codes "or") text then is_word piece.either
    else if bytes_eq (codes "(") text then is_word piece.opening
    else if bytes_eq (codes ")") text then is_word piece.closing
    else is_operand (operand_of text)

variable_first : (v : Var) → first_of (variable_name v) ≡ is_operand (Some (Variable v))
variable_first variable.OsName = refl
variable_first variable.SysPlatform = refl
variable_first variable.PlatformMachine = refl
variable_first variable.PlatformPythonImplementation = refl
variable_first variable.PlatformRelease = refl
variable_first variable.PlatformSystem = refl
variable_first variable.PlatformVersion = refl
variable_first variable.PythonVersion = refl
variable_first variable.PythonFullVersion = refl
variable_first variable.ImplementationName = refl
variable_first variable.ImplementationVersion = refl

operand_first : (o : Operand) → first_of (operand_part o) ≡ is_operand (Some o)
operand_first (Text text) = refl
operand_first (Variable v) = variable_first v
operand_first Extra = refl
operand_first Extras = refl
operand_first Groups = refl

same_operand : (a b : Operand) → operand_part a ≡ operand_part b → a ≡ b
same_operand a b e =
    let same : is_operand (Some a) ≡ is_operand (Some b) = sym (operand_first a) ∙ ap first_of e ∙ operand_first b in
    cc

no_word : {X : Type 0} (o : Operand) (p : PieceValue) (text : List ℕ) → first_of text ≡ is_word p → operand_part o ≡ text → X
no_word o p text is e =
    let wrong : is_operand (Some o) ≡ is_word p = sym (operand_first o) ∙ ap first_of e ∙ is in
    absurd cc

other_word : {X : Type 0} (p q : PieceValue) (text other : List ℕ) → first_of text ≡ is_word p → first_of other ≡ is_word q → (p ≡ q → ⊥) → text ≡ other → X
other_word p q text other is was differ e =
    let same : is_word p ≡ is_word q = sym is ∙ ap first_of e ∙ was in
    let wrong : p ≡ q = cc in
    absurd (differ wrong)

abbrev comparator_of : List ℕ → Option Comparator
comparator_of text =
    if bytes_eq (codes "in") text then Some In
    else if bytes_eq (codes "not in") text then Some NotIn
    else if bytes_eq (codes "==") text then Some (By operator.Equal)
    else if bytes_eq (codes "!=") text then Some (By operator.NotEqual)
    else if bytes_eq (codes "<=") text then Some (By operator.AtMost)
    else if bytes_eq (codes ">=") text then Some (By operator.AtLeast)
    else if bytes_eq (codes "<") text then Some (By operator.Before)
    else if bytes_eq (codes ">") text then Some (By operator.After)
    else if bytes_eq (codes "~=") text then Some (By operator.Compatible)
    else if bytes_eq (codes "===") text then Some (By operator.Arbitrary)
    else None

operator_back : (o : Operator) → comparator_of (operator_text o) ≡ Some (By o)
operator_back operator.Equal = refl
operator_back operator.NotEqual = refl
operator_back operator.AtMost = refl
operator_back operator.AtLeast = refl
operator_back operator.Before = refl
operator_back operator.After = refl
operator_back operator.Compatible = refl
operator_back operator.Arbitrary = refl

comparator_back : (c : Comparator) → comparator_of (comparator_part c) ≡ Some c
comparator_back (By o) = operator_back o
comparator_back In = refl
comparator_back NotIn = refl

same_comparator : (a b : Comparator) → comparator_part a ≡ comparator_part b → a ≡ b
same_comparator a b e =
    let same : Some a ≡ Some b = sym (comparator_back a) ∙ ap comparator_of e ∙ comparator_back b in
    cc

same_comparison : (c d : ComparisonValue) → c.left ≡ d.left → c.comparator ≡ d.comparator → c.right ≡ d.right → c ≡ d
same_comparison c d l m r = rw (l, m, r) refl

-- ---- the texts of pieces are those of no others

same_pieces : (ps qs : List PieceValue) → texts ps ≡ texts qs → ps ≡ qs
same_pieces [] [] e = refl
same_pieces [] ((piece.comparison d) ∷ qs) e = absurd cc
same_pieces ((piece.comparison c) ∷ ps) [] e = absurd cc
same_pieces [] (piece.both ∷ qs) e = absurd cc
same_pieces (piece.both ∷ ps) [] e = absurd cc
same_pieces [] (piece.either ∷ qs) e = absurd cc
same_pieces (piece.either ∷ ps) [] e = absurd cc
same_pieces [] (piece.opening ∷ qs) e = absurd cc
same_pieces (piece.opening ∷ ps) [] e = absurd cc
same_pieces [] (piece.closing ∷ qs) e = absurd cc
same_pieces (piece.closing ∷ ps) [] e = absurd cc
same_pieces ((piece.comparison c) ∷ ps) ((piece.comparison d) ∷ qs) e =
    let l : operand_part c.left ≡ operand_part d.left = cc in
    let m : comparator_part c.comparator ≡ comparator_part d.comparator = cc in
    let r : operand_part c.right ≡ operand_part d.right = cc in
    let rest : texts ps ≡ texts qs = cc in
    let one = same_comparison c d (same_operand c.left d.left l) (same_comparator c.comparator d.comparator m) (same_operand c.right d.right r) in
    let others = same_pieces ps qs rest in
    rw (one, others) refl
same_pieces ((piece.comparison c) ∷ ps) (piece.both ∷ qs) e = let h : operand_part c.left ≡ codes "and" = cc in no_word c.left piece.both (codes "and") refl h
same_pieces ((piece.comparison c) ∷ ps) (piece.either ∷ qs) e = let h : operand_part c.left ≡ codes "or" = cc in no_word c.left piece.either (codes "or") refl h
same_pieces ((piece.comparison c) ∷ ps) (piece.opening ∷ qs) e = let h : operand_part c.left ≡ codes "(" = cc in no_word c.left piece.opening (codes "(") refl h
same_pieces ((piece.comparison c) ∷ ps) (piece.closing ∷ qs) e = let h : operand_part c.left ≡ codes ")" = cc in no_word c.left piece.closing (codes ")") refl h
same_pieces (piece.both ∷ ps) ((piece.comparison d) ∷ qs) e = let h : operand_part d.left ≡ codes "and" = cc in no_word d.left piece.both (codes "and") refl h
same_pieces (piece.both ∷ ps) (piece.both ∷ qs) e = let rest : texts ps ≡ texts qs = cc in ap (λ (t : List PieceValue). piece.both ∷ t) (same_pieces ps qs rest)
same_pieces (piece.both ∷ ps) (piece.either ∷ qs) e = let h : codes "and" ≡ codes "or" = cc in other_word piece.both piece.either (codes "and") (codes "or") refl refl (λ w. cc) h
same_pieces (piece.both ∷ ps) (piece.opening ∷ qs) e = let h : codes "and" ≡ codes "(" = cc in other_word piece.both piece.opening (codes "and") (codes "(") refl refl (λ w. cc) h
same_pieces (piece.both ∷ ps) (piece.closing ∷ qs) e = let h : codes "and" ≡ codes ")" = cc in other_word piece.both piece.closing (codes "and") (codes ")") refl refl (λ w. cc) h
same_pieces (piece.either ∷ ps) ((piece.comparison d) ∷ qs) e = let h : operand_part d.left ≡ codes "or" = cc in no_word d.left piece.either (codes "or") refl h
same_pieces (piece.either ∷ ps) (piece.both ∷ qs) e = let h : codes "or" ≡ codes "and" = cc in other_word piece.either piece.both (codes "or") (codes "and") refl refl (λ w. cc) h
same_pieces (piece.either ∷ ps) (piece.either ∷ qs) e = let rest : texts ps ≡ texts qs = cc in ap (λ (t : List PieceValue). piece.either ∷ t) (same_pieces ps qs rest)
same_pieces (piece.either ∷ ps) (piece.opening ∷ qs) e = let h : codes "or" ≡ codes "(" = cc in other_word piece.either piece.opening (codes "or") (codes "(") refl refl (λ w. cc) h
same_pieces (piece.either ∷ ps) (piece.closing ∷ qs) e = let h : codes "or" ≡ codes ")" = cc in other_word piece.either piece.closing (codes "or") (codes ")") refl refl (λ w. cc) h
same_pieces (piece.opening ∷ ps) ((piece.comparison d) ∷ qs) e = let h : operand_part d.left ≡ codes "(" = cc in no_word d.left piece.opening (codes "(") refl h
same_pieces (piece.opening ∷ ps) (piece.both ∷ qs) e = let h : codes "(" ≡ codes "and" = cc in other_word piece.opening piece.both (codes "(") (codes "and") refl refl (λ w. cc) h
same_pieces (piece.opening ∷ ps) (piece.either ∷ qs) e = let h : codes "(" ≡ codes "or" = cc in other_word piece.opening piece.either (codes "(") (codes "or") refl refl (λ w. cc) h
same_pieces (piece.opening ∷ ps) (piece.opening ∷ qs) e = let rest : texts ps ≡ texts qs = cc in ap (λ (t : List PieceValue). piece.opening ∷ t) (same_pieces ps qs rest)
same_pieces (piece.opening ∷ ps) (piece.closing ∷ qs) e = let h : codes "(" ≡ codes ")" = cc in other_word piece.opening piece.closing (codes "(") (codes ")") refl refl (λ w. cc) h
same_pieces (piece.closing ∷ ps) ((piece.comparison d) ∷ qs) e = let h : operand_part d.left ≡ codes ")" = cc in no_word d.left piece.closing (codes ")") refl h
same_pieces (piece.closing ∷ ps) (piece.both ∷ qs) e = let h : codes ")" ≡ codes "and" = cc in other_word piece.closing piece.both (codes ")") (codes "and") refl refl (λ w. cc) h
same_pieces (piece.closing ∷ ps) (piece.either ∷ qs) e = let h : codes ")" ≡ codes "or" = cc in other_word piece.closing piece.either (codes ")") (codes "or") refl refl (λ w. cc) h
same_pieces (piece.closing ∷ ps) (piece.opening ∷ qs) e = let h : codes ")" ≡ codes "(" = cc in other_word piece.closing piece.opening (codes ")") (codes "(") refl refl (λ w. cc) h
same_pieces (piece.closing ∷ ps) (piece.closing ∷ qs) e = let rest : texts ps ≡ texts qs = cc in ap (λ (t : List PieceValue). piece.closing ∷ t) (same_pieces ps qs rest)

pub one_marker : (a b : Tree) → marker_record a ≡ marker_record b → a ≡ b
one_marker a b e =
    one_tree a b (same_pieces (tree_pieces a) (tree_pieces b) (sym (record_read a) ∙ ap texts_of e ∙ record_read b))
