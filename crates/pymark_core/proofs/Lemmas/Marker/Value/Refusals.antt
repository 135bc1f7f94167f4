-- A fault that no operand has, and no comparison of two texts, no marker has.
use Rattle.std.proofs.Common.{◌≡◌, ℕ, Bool, true, false, not, ◌||◌, ◌&&◌, List, Option, Some, None, Result, Ok, Err, IsErrOf, subst}
use Rattle.pytext.specs.Agreement.{Gives}
use Rattle.pytext.proofs.NeverLemmas.{Never, never_cond, never_err, never_or, never_then}
use Rattle.pytext.specs.Results.{◌>>=◌}
use Rattle.pyver_core.specs.Set.Admission.{admits}
use Rattle.pyver_core.specs.Set.Grammar.{specifier_numbers}
use Rattle.pyver_core.specs.Set.Reading.{operand_of}
use Rattle.pyver_core.specs.Version.Grammar.{has_large, numbers}
use Rattle.pyver_core.specs.Version.Parts.{Parts}
use Rattle.pyver_core.specs.Version.Reading.{version_of}
use Rattle.pyver_core.specs.declared.set.specifier.Operator.{Operator}
use Rattle.pyver_core.specs.declared.set.specifier.Operator.TheVariants as operator
use Rattle.pyver_core.specs.declared.set.specifier.Specifier.{Specifier}
use Rattle.pymark_core.specs.Environment.{EnvironmentValue, variable_in}
use Rattle.pymark_core.specs.Marker.Comparison.{ComparisonValue}
use Rattle.pymark_core.specs.Marker.Tree.{Tree, last, or, Conjunction, only, and, Atom, leaf, group}
use Rattle.pymark_core.specs.Marker.Value.{atom_value, both_values, by_value, compares_names, comparison_value, conjunction_value, is_in, is_part, names_value, operand_text, value_against, texts_value, value_with, version_value}
use Rattle.pymark_core.specs.declared.fault.EvalFault.{EvalFault}
use Rattle.pymark_core.specs.declared.fault.EvalFault.TheVariants as fault
use Rattle.pymark_core.specs.declared.operand.Comparator.{Comparator}
use Rattle.pymark_core.specs.declared.operand.Comparator.TheVariants.{By, In, NotIn}
use Rattle.pymark_core.specs.declared.operand.Operand.{Operand}
use Rattle.pymark_core.specs.declared.operand.Operand.TheVariants.{Text, Variable, Extra, Extras, Groups}

module _ (refused : EvalFault) (extra : Option (List ℕ)) (environment : EnvironmentValue)
    (undefined : fault.Undefined ≡ refused → ⊥) (large : fault.NumberTooLarge ≡ refused → ⊥)
    (operand_never : (o : Operand) → Never refused (operand_text extra environment o)) where
  texts_never : (o : Operator) (x y : List ℕ) → Never refused (texts_value o x y)
  texts_never operator.Compatible x y = never_err refused fault.Undefined undefined
  texts_never operator.Arbitrary x y = never_err refused fault.Undefined undefined
  texts_never o x y = λ e. cc e

  version_never : (v : Option Parts) (s : Option Specifier) (texts : Result Bool EvalFault) → Never refused texts → Never refused (version_value v s texts)
  version_never (Some v) (Some s) texts never =
      never_cond refused (has_large (numbers v) || has_large (specifier_numbers s)) (Err fault.NumberTooLarge) (Ok (admits s v))
      (never_err refused fault.NumberTooLarge large) (λ e. cc e)
  version_never (Some v) None texts never = never
  version_never None s texts never = never

  names_never : (o : Operator) (x y : List ℕ) → Never refused (names_value o x y)
  names_never operator.Equal x y = λ e. cc e
  names_never operator.NotEqual x y = λ e. cc e
  names_never o x y = never_err refused fault.Undefined undefined

  by_never : (named : Bool) (o : Operator) (x y : List ℕ) → Never refused (by_value named o x y)
  by_never false o x y = version_never (version_of x) (operand_of o y) (texts_value o x y) (texts_never o x y)
  by_never true o x y = names_never o x y

  in_text_never : (named : Bool) (x : List ℕ) (o : Operand) → Never refused (operand_text extra environment o >>= λ y. Ok (is_part named x y))
  in_text_never named x o = never_then refused (operand_text extra environment o) (λ y. Ok (is_part named x y)) (operand_never o) (λ y e. cc e)

  in_never : (named : Bool) (x : List ℕ) (o : Operand) → Never refused (is_in extra environment named x o)
  in_never named x (Text text) = in_text_never named x (Text text)
  in_never named x (Variable v) = in_text_never named x (Variable v)
  in_never named x Extra = in_text_never named x Extra
  in_never named x Extras = λ e. cc e
  in_never named x Groups = λ e. cc e

  text_never : (named : Bool) (x : List ℕ) (c : Comparator) (o : Operand) → Never refused (value_against extra environment named x c o)
  text_never named x (By operator) o =
      never_then refused (operand_text extra environment o) (λ y. by_value named operator x y) (operand_never o) (λ y. by_never named operator x y)
  text_never named x In o = in_never named x o
  text_never named x NotIn o = never_then refused (is_in extra environment named x o) (λ is. Ok (not is)) (in_never named x o) (λ is e. cc e)

  comparison_never : (c : ComparisonValue) → Never refused (comparison_value extra environment c)
  comparison_never c =
      never_then refused (operand_text extra environment c.left) (λ x. value_against extra environment (compares_names extra c) x c.comparator c.right)
      (operand_never c.left) (λ x. text_never (compares_names extra c) x c.comparator c.right)

  both_values_never : (join : Bool → Bool → Bool) (first second : Result Bool EvalFault) → Never refused first → Never refused second → Never refused (both_values join first second)
  both_values_never join first second a b =
      never_then refused first (λ x. second >>= λ y. Ok (join x y)) a (λ x. never_then refused second (λ y. Ok (join x y)) b (λ y e. cc e))

  mutual
    pub value_never : (t : Tree) → Never refused (value_with extra environment t)
    value_never (last c) = conjunction_never c
    value_never (or c rest) =
        both_values_never (λ x y. x || y) (conjunction_value extra environment c) (value_with extra environment rest) (conjunction_never c) (value_never rest)

    conjunction_never : (c : Conjunction) → Never refused (conjunction_value extra environment c)
    conjunction_never (only a) = atom_never a
    conjunction_never (and a rest) =
        both_values_never (λ x y. x && y) (atom_value extra environment a) (conjunction_value extra environment rest) (atom_never a) (conjunction_never rest)

    atom_never : (a : Atom) → Never refused (atom_value extra environment a)
    atom_never (leaf c) = comparison_never c
    atom_never (group t) = value_never t

-- ---- `extra`, where it has a text

operand_given : (extra : List ℕ) (environment : EnvironmentValue) (o : Operand) → Never fault.Extra (operand_text (Some extra) environment o)
operand_given extra environment (Variable v) = never_or fault.Extra (fault.Unset v) (variable_in v environment) (λ e. cc e)
operand_given extra environment o = λ e. cc e

extra_is_given : (extra : List ℕ) (environment : EnvironmentValue) (t : Tree) → Never fault.Extra (value_with (Some extra) environment t)
extra_is_given extra environment t = value_never fault.Extra (Some extra) environment (λ e. cc e) (λ e. cc e) (operand_given extra environment) t

pub none_given : (extra : List ℕ) (environment : EnvironmentValue) (t : Tree) (r : Result Bool EvalFault)
    → Gives fault.Memory (λ b. b) r (value_with (Some extra) environment t) → IsErrOf r fault.Extra → ⊥
none_given extra environment t r gives is =
    let P : Result Bool EvalFault → Type 0 = λ x. Gives fault.Memory (λ b. b) x (value_with (Some extra) environment t) in
    let known : Gives fault.Memory (λ b. b) (Err fault.Extra) (value_with (Some extra) environment t) = subst P is gives in
    extra_is_given extra environment t (known (λ e. cc))
