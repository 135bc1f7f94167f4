-- Two environments that have the same at the keys of a tree give it the same value, whatever text
-- `extra` has, or none.
use Rattle.std.proofs.Common.{◌≡◌, ℕ, Bool, true, false, not, ◌||◌, ◌&&◌, List, ◌++◌, Option, ok_or, Result, Ok, Err, ◌∙◌, ap, refl}
use Rattle.std.proofs.lemmas.Bool.{eq-eqb, or_left, or_right}
use Rattle.std.proofs.lemmas.List.Folds.{list_any-append}
use Rattle.std.specs.List.{list_any}
use Rattle.pyver_core.specs.Name.{normal_name}
use Rattle.pytext.specs.Results.{◌>>=◌}
use Rattle.pymark_core.specs.Environment.{EnvironmentValue}
use Rattle.pymark_core.specs.Marker.Comparison.{ComparisonValue}
use Rattle.pymark_core.specs.Marker.Grammar.{atom_comparisons, comparisons, conjunction_comparisons}
use Rattle.pymark_core.specs.Marker.Keys.{comparison_reads, has_key, is_key, operand_keys}
use Rattle.pymark_core.specs.Marker.Tree.{Tree, last, or, Conjunction, only, and, Atom, leaf, group}
use Rattle.pymark_core.specs.Variables.{variable_number}
use Rattle.pymark_core.specs.Marker.Value.{AgreeAt, atom_value, both_values, by_value, compares_names, comparison_value, conjunction_value, is_in, is_part, operand_text, value_against, value_with}
use Rattle.pymark_core.specs.declared.fault.EvalFault.{EvalFault}
use Rattle.pymark_core.specs.declared.fault.EvalFault.TheVariants.{Unset}
use Rattle.pymark_core.specs.declared.marker.keys.Key.{Key}
use Rattle.pymark_core.specs.declared.marker.keys.Key.TheVariants as key
use Rattle.pymark_core.specs.declared.operand.Comparator.{Comparator}
use Rattle.pymark_core.specs.declared.operand.Comparator.TheVariants.{By, In, NotIn}
use Rattle.pymark_core.specs.declared.operand.Operand.{Operand}
use Rattle.pymark_core.specs.declared.operand.Operand.TheVariants.{Text, Variable, Extra, Extras, Groups}
use Rattle.std.specs.FinSet.{contains}

module _ (extra : Option (List ℕ)) (e f : EnvironmentValue) where
  abbrev Agree : (Key → Bool) → Type 0
  Agree read = (k : Key) → read k ≡ true → AgreeAt k e f

  operand_agrees : (o : Operand) → Agree (λ k. has_key k (operand_keys o)) → operand_text extra e o ≡ operand_text extra f o
  operand_agrees (Variable v) agree =
      ap (λ x. ok_or x (Unset v)) (agree (key.Of v) (or_left _ _ (eq-eqb (variable_number v) (variable_number v) refl)))
  operand_agrees o agree = refl

  in_agrees : (named : Bool) (x : List ℕ) (o : Operand) → Agree (λ k. has_key k (operand_keys o)) → is_in extra e named x o ≡ is_in extra f named x o
  in_agrees named x (Variable v) agree = ap (λ r. r >>= λ y. Ok (is_part named x y)) (operand_agrees (Variable v) agree)
  in_agrees named x Extras agree = ap (λ s. Ok (contains s (normal_name x))) (agree key.Extras refl)
  in_agrees named x Groups agree = ap (λ s. Ok (contains s (normal_name x))) (agree key.Groups refl)
  in_agrees named x o agree = refl

  text_agrees : (named : Bool) (x : List ℕ) (c : Comparator) (o : Operand) → Agree (λ k. has_key k (operand_keys o))
      → value_against extra e named x c o ≡ value_against extra f named x c o
  text_agrees named x (By operator) o agree = ap (λ r. r >>= λ y. by_value named operator x y) (operand_agrees o agree)
  text_agrees named x In o agree = in_agrees named x o agree
  text_agrees named x NotIn o agree = ap (λ r. r >>= λ is. Ok (not is)) (in_agrees named x o agree)

  -- the keys of two lists
  of_first : (k : Key) (xs ys : List Key) → has_key k xs ≡ true → has_key k (xs ++ ys) ≡ true
  of_first k xs ys is = list_any-append (is_key k) xs ys ∙ or_left _ _ is

  of_second : (k : Key) (xs ys : List Key) → has_key k ys ≡ true → has_key k (xs ++ ys) ≡ true
  of_second k xs ys is = list_any-append (is_key k) xs ys ∙ or_right _ _ is

  comparison_agrees : (c : ComparisonValue) → Agree (λ k. comparison_reads k c) → comparison_value extra e c ≡ comparison_value extra f c
  comparison_agrees c agree =
      ap (λ r. r >>= λ x. value_against extra e (compares_names extra c) x c.comparator c.right)
      (operand_agrees c.left (λ k is. agree k (of_first k (operand_keys c.left) (operand_keys c.right) is)))
      ∙ after (operand_text extra f c.left)
    where
      after : (r : Result (List ℕ) EvalFault)
          → (r >>= λ x. value_against extra e (compares_names extra c) x c.comparator c.right)
          ≡ (r >>= λ x. value_against extra f (compares_names extra c) x c.comparator c.right)
      after (Ok x) = text_agrees (compares_names extra c) x c.comparator c.right (λ k is. agree k (of_second k (operand_keys c.left) (operand_keys c.right) is))
      after (Err fault) = refl

  abbrev Reads : List ComparisonValue → Type 0
  Reads cs = Agree (λ k. list_any (comparison_reads k) cs)

  first_of_two : (xs ys : List ComparisonValue) → Reads (xs ++ ys) → Reads xs
  first_of_two xs ys agree k is = agree k (list_any-append (comparison_reads k) xs ys ∙ or_left _ _ is)

  second_of_two : (xs ys : List ComparisonValue) → Reads (xs ++ ys) → Reads ys
  second_of_two xs ys agree k is = agree k (list_any-append (comparison_reads k) xs ys ∙ or_right _ _ is)

  mutual
    pub tree_agrees : (t : Tree) → Reads (comparisons t) → value_with extra e t ≡ value_with extra f t
    tree_agrees (last c) agree = conjunction_agrees c agree
    tree_agrees (or c rest) agree = λ i. both_values (λ x y. x || y)
        (conjunction_agrees c (first_of_two (conjunction_comparisons c) (comparisons rest) agree) i)
        (tree_agrees rest (second_of_two (conjunction_comparisons c) (comparisons rest) agree) i)

    pub conjunction_agrees : (c : Conjunction) → Reads (conjunction_comparisons c) → conjunction_value extra e c ≡ conjunction_value extra f c
    conjunction_agrees (only a) agree = atom_agrees a agree
    conjunction_agrees (and a rest) agree = λ i. both_values (λ x y. x && y)
        (atom_agrees a (first_of_two (atom_comparisons a) (conjunction_comparisons rest) agree) i)
        (conjunction_agrees rest (second_of_two (atom_comparisons a) (conjunction_comparisons rest) agree) i)

    pub atom_agrees : (a : Atom) → Reads (atom_comparisons a) → atom_value extra e a ≡ atom_value extra f a
    atom_agrees (leaf c) agree = comparison_agrees c (λ k is. agree k (or_left _ false is))
    atom_agrees (group t) agree = tree_agrees t agree
