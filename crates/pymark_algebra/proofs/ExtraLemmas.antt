-- A marker with the operand `extra` has no value where that has no text.
use Rattle.std.proofs.Common.{◌≡◌, ℕ, Bool, true, false, ◌&&◌, ◌||◌, List, ◌++◌, None, Result, Ok, Err, ◌∙◌, ap, inl, inr, refl, sym}
use Rattle.std.specs.Prelude.{◌⊎◌}
use Rattle.std.proofs.lemmas.List.Folds.{list_any-append}
use Rattle.std.specs.List.{list_any}
use Rattle.pytext.specs.Results.{◌>>=◌}
use Rattle.pymark_core.specs.Environment.{EnvironmentValue}
use Rattle.pymark_core.specs.Marker.Asked.{comparison_reads_extra, is_extra, reads_extra}
use Rattle.pymark_core.specs.Marker.Comparison.{ComparisonValue}
use Rattle.pymark_core.specs.Marker.Grammar.{atom_comparisons, comparisons, conjunction_comparisons}
use Rattle.pymark_core.specs.Marker.Tree.{Tree, last, or, Conjunction, only, and, Atom, leaf, group}
use Rattle.pymark_core.specs.Marker.Value.{atom_value, both_values, comparison_value, conjunction_value, operand_text, value_against, value_with}
use Rattle.pymark_core.specs.declared.fault.EvalFault.{EvalFault}
use Rattle.pymark_core.specs.declared.fault.EvalFault.TheVariants as fault
use Rattle.pymark_core.specs.declared.operand.Comparator.{Comparator}
use Rattle.pymark_core.specs.declared.operand.Comparator.TheVariants.{By, In, NotIn}
use Rattle.pymark_core.specs.declared.operand.Operand.{Operand}
use Rattle.pymark_core.specs.declared.operand.Operand.TheVariants.{Text, Variable, Extra, Extras, Groups}

or_true : (a b : Bool) → (a || b) ≡ true → (a ≡ true) ⊎ (b ≡ true)
or_true true b is = inl refl
or_true false b is = inr is

both : (join : Bool → Bool → Bool) (f s : Result Bool EvalFault) (b : Bool) → both_values join f s ≡ Ok b
    → ((x : Bool) × (f ≡ Ok x)) × ((y : Bool) × (s ≡ Ok y))
both join (Ok x) (Ok y) b is = ((x, refl), (y, refl))
both join (Ok x) (Err g) b is = absurd cc
both join (Err g) s b is = absurd cc

module _ (e : EnvironmentValue) where
  operand_extra : (o : Operand) → is_extra o ≡ true → operand_text None e o ≡ Err fault.Extra
  operand_extra Extra is = refl
  operand_extra (Text t) is = absurd cc
  operand_extra (Variable v) is = absurd cc
  operand_extra Extras is = absurd cc
  operand_extra Groups is = absurd cc

  right_faults : (p : Comparator) (x : List ℕ) (b : Bool) → value_against None e false x p Extra ≡ Ok b → ⊥
  right_faults (By o) x b value = cc
  right_faults In x b value = cc
  right_faults NotIn x b value = cc

  extra_is : (o : Operand) → is_extra o ≡ true → o ≡ Extra
  extra_is Extra is = refl
  extra_is (Text t) is = absurd cc
  extra_is (Variable v) is = absurd cc
  extra_is Extras is = absurd cc
  extra_is Groups is = absurd cc

  at_right : (p : Comparator) (l : Result (List ℕ) EvalFault) (b : Bool) → (l >>= λ x. value_against None e false x p Extra) ≡ Ok b → ⊥
  at_right p (Ok x) b value = right_faults p x b value
  at_right p (Err f) b value = cc

  comparison_faults : (c : ComparisonValue) (b : Bool) → comparison_reads_extra c ≡ true → comparison_value None e c ≡ Ok b → ⊥
  comparison_faults c b is value = elim (or_true (is_extra c.left) (is_extra c.right) is) [
    | inl left ↦
        let no : Err fault.Extra ≡ Ok b =
        sym (ap (λ r. r >>= λ x. value_against None e false x c.comparator c.right) (operand_extra c.left left)) ∙ value in absurd cc
    | inr right ↦ at_right c.comparator (operand_text None e c.left) b
        (sym (ap (λ o. operand_text None e c.left >>= λ x. value_against None e false x c.comparator o) (extra_is c.right right)) ∙ value)
  ]

  abbrev Reads : List ComparisonValue → Type 0
  Reads cs = list_any comparison_reads_extra cs ≡ true

  split : (xs ys : List ComparisonValue) → Reads (xs ++ ys) → Reads xs ⊎ Reads ys
  split xs ys is = or_true _ _ (sym (list_any-append comparison_reads_extra xs ys) ∙ is)

  mutual
    tree_faults : (t : Tree) (b : Bool) → Reads (comparisons t) → value_with None e t ≡ Ok b → ⊥
    tree_faults (last c) b is value = conjunction_faults c b is value
    tree_faults (or c rest) b is value =
        let each = both (λ x y. x || y) (conjunction_value None e c) (value_with None e rest) b value in
        elim (split (conjunction_comparisons c) (comparisons rest) is) [
          | inl first ↦ conjunction_faults c each.0.0 first each.0.1
          | inr second ↦ tree_faults rest each.1.0 second each.1.1
        ]

    conjunction_faults : (c : Conjunction) (b : Bool) → Reads (conjunction_comparisons c) → conjunction_value None e c ≡ Ok b → ⊥
    conjunction_faults (only a) b is value = atom_faults a b is value
    conjunction_faults (and a rest) b is value =
        let each = both (λ x y. x && y) (atom_value None e a) (conjunction_value None e rest) b value in
        elim (split (atom_comparisons a) (conjunction_comparisons rest) is) [
          | inl first ↦ atom_faults a each.0.0 first each.0.1
          | inr second ↦ conjunction_faults rest each.1.0 second each.1.1
        ]

    atom_faults : (a : Atom) (b : Bool) → Reads (atom_comparisons a) → atom_value None e a ≡ Ok b → ⊥
    atom_faults (leaf c) b is value = elim (or_true (comparison_reads_extra c) false is) [
      | inl reads ↦ comparison_faults c b reads value
      | inr other ↦ absurd (let never : false ≡ true = other in cc)
    ]
    atom_faults (group t) b is value = tree_faults t b is value

  pub has_no_value : (t : Tree) (b : Bool) → reads_extra t ≡ true → value_with None e t ≡ Ok b → ⊥
  has_no_value t b is value = tree_faults t b is value
