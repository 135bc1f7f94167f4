-- Where `extra` is no operand, the text that it has doesn't count.
use Rattle.std.proofs.Common.{◌≡◌, ℕ, Bool, true, false, not, ◌||◌, ◌&&◌, List, ◌++◌, Some, None, Result, Ok, Err, ◌∙◌, ap, refl, sym}
use Rattle.std.proofs.lemmas.Bool.{or_parts}
use Rattle.std.proofs.lemmas.List.Folds.{list_any-append}
use Rattle.std.specs.List.{list_any}
use Rattle.pytext.specs.Results.{◌>>=◌}
use Rattle.pymark_core.specs.Environment.{EnvironmentValue}
use Rattle.pymark_core.specs.Marker.Asked.{comparison_reads_extra, is_extra}
use Rattle.pymark_core.specs.Marker.Comparison.{ComparisonValue}
use Rattle.pymark_core.specs.Marker.Grammar.{atom_comparisons, comparisons, conjunction_comparisons}
use Rattle.pymark_core.specs.Marker.Tree.{Tree, last, or, Conjunction, only, and, Atom, leaf, group}
use Rattle.pymark_core.specs.Marker.Value.{atom_value, both_values, by_value, comparison_value, conjunction_value, is_in, operand_text, value_against, value_with}
use Rattle.pymark_core.specs.declared.fault.EvalFault.{EvalFault}
use Rattle.pymark_core.specs.declared.operand.Comparator.{Comparator}
use Rattle.pymark_core.specs.declared.operand.Comparator.TheVariants.{By, In, NotIn}
use Rattle.pymark_core.specs.declared.operand.Operand.{Operand}
use Rattle.pymark_core.specs.declared.operand.Operand.TheVariants.{Text, Variable, Extra, Extras, Groups}

module _ (extra : List ℕ) (e : EnvironmentValue) where
  operand_same : (o : Operand) → is_extra o ≡ false → operand_text (Some extra) e o ≡ operand_text None e o
  operand_same Extra other = absurd cc
  operand_same o other = refl

  in_same : (x : List ℕ) (o : Operand) → is_extra o ≡ false → is_in (Some extra) e false x o ≡ is_in None e false x o
  in_same x Extra other = absurd cc
  in_same x o other = refl

  text_same : (x : List ℕ) (c : Comparator) (o : Operand) → is_extra o ≡ false → value_against (Some extra) e false x c o ≡ value_against None e false x c o
  text_same x (By operator) o other = ap (λ r. r >>= λ y. by_value false operator x y) (operand_same o other)
  text_same x In o other = in_same x o other
  text_same x NotIn o other = ap (λ r. r >>= λ is. Ok (not is)) (in_same x o other)

  after : (r : Result (List ℕ) EvalFault) (c : Comparator) (o : Operand) → is_extra o ≡ false
      → (r >>= λ x. value_against (Some extra) e false x c o) ≡ (r >>= λ x. value_against None e false x c o)
  after (Ok x) c o other = text_same x c o other
  after (Err fault) c o other = refl

  pub comparison_same : (c : ComparisonValue) → comparison_reads_extra c ≡ false → comparison_value (Some extra) e c ≡ comparison_value None e c
  comparison_same c other =
      let sides = or_parts (is_extra c.left) (is_extra c.right) other in
      ap (λ named. operand_text (Some extra) e c.left >>= λ x. value_against (Some extra) e named x c.comparator c.right) other
      ∙ ap (λ r. r >>= λ x. value_against (Some extra) e false x c.comparator c.right) (operand_same c.left sides.0)
      ∙ after (operand_text None e c.left) c.comparator c.right sides.1

  parts : (xs ys : List ComparisonValue) → list_any comparison_reads_extra (xs ++ ys) ≡ false → (list_any comparison_reads_extra xs ≡ false) × (list_any comparison_reads_extra ys ≡ false)
  parts xs ys other = or_parts (list_any comparison_reads_extra xs) (list_any comparison_reads_extra ys) (sym (list_any-append comparison_reads_extra xs ys) ∙ other)

  mutual
    pub tree_same : (t : Tree) → list_any comparison_reads_extra (comparisons t) ≡ false → value_with (Some extra) e t ≡ value_with None e t
    tree_same (last c) other = conjunction_same c other
    tree_same (or c rest) other =
        let p = parts (conjunction_comparisons c) (comparisons rest) other in
        λ i. both_values (λ x y. x || y) (conjunction_same c p.0 i) (tree_same rest p.1 i)

    conjunction_same : (c : Conjunction) → list_any comparison_reads_extra (conjunction_comparisons c) ≡ false → conjunction_value (Some extra) e c ≡ conjunction_value None e c
    conjunction_same (only a) other = atom_same a other
    conjunction_same (and a rest) other =
        let p = parts (atom_comparisons a) (conjunction_comparisons rest) other in
        λ i. both_values (λ x y. x && y) (atom_same a p.0 i) (conjunction_same rest p.1 i)

    atom_same : (a : Atom) → list_any comparison_reads_extra (atom_comparisons a) ≡ false → atom_value (Some extra) e a ≡ atom_value None e a
    atom_same (leaf c) other = comparison_same c (or_parts (comparison_reads_extra c) false other).0
    atom_same (group t) other = tree_same t other
