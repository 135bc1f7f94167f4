-- Which texts are which markers (PEP 508, "Grammar"): a relation between a text's tokens and a
-- tree, which is written out as tokens.
use Rattle.std.specs.Prelude.{◌≡◌, ℕ, Bool, false, true, ◌&&◌, ◌||◌, List, [], ◌∷◌, ◌++◌, codes}
use Rattle.std.specs.Prelude.{Some}
use Rattle.std.specs.List.{list_any}
use Rattle.pymark_core.specs.Marker.Comparison.{ComparisonValue}
use Rattle.pymark_core.specs.Marker.Token.{Token, tokens, opening, closing, sign, word, quoted}
use Rattle.pymark_core.specs.Marker.Tree.{Tree, Conjunction, Atom, last, or, only, and, leaf, group}
use Rattle.pymark_core.specs.Variables.{variable_name}
use Rattle.pymark_core.specs.declared.operand.Comparator.{Comparator}
use Rattle.pymark_core.specs.declared.operand.Comparator.TheVariants.{By, In, NotIn}
use Rattle.pymark_core.specs.declared.operand.Operand.{Operand}
use Rattle.pymark_core.specs.declared.operand.Operand.TheVariants.{Text, Variable, Extra, Extras}
use Rattle.pymark_core.specs.declared.operand.Operand.TheVariants.{Groups}

-- ---- a tree as tokens, each part before the tokens after it

abbrev pub operand_token : Operand → Token
operand_token (Text text) = quoted text
operand_token (Variable variable) = word (variable_name variable)
operand_token Extra = word (codes "extra")
operand_token Extras = word (codes "extras")
operand_token Groups = word (codes "dependency_groups")

abbrev pub comparator_tokens : Comparator → List Token → List Token
comparator_tokens (By operator) behind = sign operator ∷ behind
comparator_tokens In behind = word (codes "in") ∷ behind
comparator_tokens NotIn behind = word (codes "not") ∷ word (codes "in") ∷ behind

abbrev pub comparison_tokens : ComparisonValue → List Token → List Token
comparison_tokens c behind =
    operand_token c.left ∷ comparator_tokens c.comparator (operand_token c.right ∷ behind)

abbrev mutual
  pub tree_tokens : Tree → List Token → List Token
  tree_tokens (last c) behind = conjunction_tokens c behind
  tree_tokens (or c others) behind =
      conjunction_tokens c (word (codes "or") ∷ tree_tokens others behind)

  pub conjunction_tokens : Conjunction → List Token → List Token
  conjunction_tokens (only a) behind = atom_tokens a behind
  conjunction_tokens (and a others) behind =
      atom_tokens a (word (codes "and") ∷ conjunction_tokens others behind)

  pub atom_tokens : Atom → List Token → List Token
  atom_tokens (leaf c) behind = comparison_tokens c behind
  atom_tokens (group inner) behind = opening ∷ tree_tokens inner (closing ∷ behind)

-- The text is the tree: its tokens are the tree's.
abbrev pub MarkerText : List ℕ → Tree → Type 0
MarkerText text tree = tokens text ≡ Some (tree_tokens tree [])

-- ---- what a tree compares

-- the comparisons of a tree, in order
abbrev mutual
  pub comparisons : Tree → List ComparisonValue
  comparisons (last c) = conjunction_comparisons c
  comparisons (or c others) = conjunction_comparisons c ++ comparisons others

  pub conjunction_comparisons : Conjunction → List ComparisonValue
  conjunction_comparisons (only a) = atom_comparisons a
  conjunction_comparisons (and a others) = atom_comparisons a ++ conjunction_comparisons others

  pub atom_comparisons : Atom → List ComparisonValue
  atom_comparisons (leaf c) = c ∷ []
  atom_comparisons (group inner) = comparisons inner

-- `extras` and `dependency_groups`
abbrev pub is_set : Operand → Bool
is_set Extras = true
is_set Groups = true
is_set other = false

-- not `in` or `not in`
abbrev pub is_operator : Comparator → Bool
is_operator (By operator) = true
is_operator other = false

-- a set stands anywhere but right of `in` or `not in`
abbrev pub is_misuse : ComparisonValue → Bool
is_misuse c = is_set c.left || (is_set c.right && is_operator c.comparator)

abbrev pub has_misuse : Tree → Bool
has_misuse tree = list_any is_misuse (comparisons tree)
