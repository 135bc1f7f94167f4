-- What a marker is worth in an environment: true, false or a fault (PEP 508, "Environment Markers";
-- PEP 685 for `extra`; PEP 751, "Installation", for `extras` and `dependency_groups`).
use Rattle.std.specs.Prelude.{◌≡◌, ℕ, Bool, true, false, not, ◌&&◌, ◌||◌, List, [], ◌∷◌, Option}
use Rattle.std.specs.Prelude.{Some, None, ok_or, nat_eq, Result, Ok, Err, if◌then◌else◌}
use Rattle.std.specs.Cmp.Lexicographic.{slice_cmp}
use Rattle.std.specs.List.{starts_with}
use Rattle.std.specs.Ordering.{is_ge, is_gt, is_le, is_lt, nat_cmp}
use Rattle.std.specs.Str.{bytes_eq}
use Rattle.pyver_core.specs.Version.Grammar.{has_large, numbers}
use Rattle.pyver_core.specs.Name.{normal_name}
use Rattle.pyver_core.specs.Version.Parts.{Parts}
use Rattle.pyver_core.specs.Version.Reading.{version_of}
use Rattle.pytext.specs.Results.{◌>>=◌}
use Rattle.pyver_core.specs.Set.Grammar.{specifier_numbers}
use Rattle.pyver_core.specs.Set.Reading.{operand_of}
use Rattle.pyver_core.specs.Set.Admission.{admits}
use Rattle.pyver_core.specs.declared.set.specifier.Operator.{Operator}
use Rattle.pyver_core.specs.declared.set.specifier.Operator.TheVariants as operator
use Rattle.pyver_core.specs.declared.set.specifier.Specifier.{Specifier}
use Rattle.pymark_core.specs.Environment.{EnvironmentValue, has_extra, has_group, variable_in}
use Rattle.pymark_core.specs.Marker.Asked.{comparison_reads_extra}
use Rattle.pymark_core.specs.Marker.Comparison.{ComparisonValue}
use Rattle.pymark_core.specs.Marker.Tree.{Tree, last, or, Conjunction, only, and, Atom, leaf, group}
use Rattle.pymark_core.specs.declared.fault.EvalFault.{EvalFault}
use Rattle.pymark_core.specs.declared.fault.EvalFault.TheVariants as fault
use Rattle.pymark_core.specs.declared.marker.keys.Key.{Key}
use Rattle.pymark_core.specs.declared.marker.keys.Key.TheVariants as key
use Rattle.pymark_core.specs.declared.operand.Comparator.{Comparator}
use Rattle.pymark_core.specs.declared.operand.Comparator.TheVariants.{By, In, NotIn}
use Rattle.pymark_core.specs.declared.operand.Operand.{Operand}
use Rattle.pymark_core.specs.declared.operand.Operand.TheVariants.{Text, Variable, Extra, Extras}
use Rattle.pymark_core.specs.declared.operand.Operand.TheVariants.{Groups}

-- ---- operands

-- The text that an operand stands for. `extra` has the one that is given for it, or none, as in a
-- lock. A set is no text: it stands right of `in` and `not in` alone.
abbrev pub operand_text : Option (List ℕ) → EnvironmentValue → Operand → Result (List ℕ) EvalFault
operand_text extra environment (Text text) = Ok text
operand_text extra environment (Variable v) = ok_or (variable_in v environment) (fault.Unset v)
operand_text extra environment Extra = ok_or extra fault.Extra
operand_text extra environment Extras = Err fault.Undefined
operand_text extra environment Groups = Err fault.Undefined

-- names are compared: `extra` is one of the operands, and has a text (PEP 685)
abbrev pub compares_names : Option (List ℕ) → ComparisonValue → Bool
compares_names None c = false
compares_names (Some extra) c = comparison_reads_extra c

-- ---- `in`

-- whether x stands somewhere in a text
abbrev pub is_substring : List ℕ → List ℕ → Bool
is_substring x [] = starts_with nat_eq [] x
is_substring x (b ∷ rest) = starts_with nat_eq (b ∷ rest) x || is_substring x rest

-- whether x stands somewhere in y; of names, the normal form of x in that of y
abbrev pub is_part : Bool → List ℕ → List ℕ → Bool
is_part false x y = is_substring x y
is_part true x y = is_substring (normal_name x) (normal_name y)

-- whether x is in the operand: its normal form in a set of names, or x in a text
abbrev pub is_in : Option (List ℕ) → EnvironmentValue → Bool → List ℕ → Operand
    → Result Bool EvalFault
is_in extra environment named x Extras = Ok (has_extra (normal_name x) environment)
is_in extra environment named x Groups = Ok (has_group (normal_name x) environment)
is_in extra environment named x right =
    operand_text extra environment right >>= λ y. Ok (is_part named x y)

-- ---- the operators of specifiers

-- two texts by their code points, whose order is that of the bytes
abbrev pub texts_value : Operator → List ℕ → List ℕ → Result Bool EvalFault
texts_value operator.Equal x y = Ok (bytes_eq x y)
texts_value operator.NotEqual x y = Ok (not (bytes_eq x y))
texts_value operator.AtMost x y = Ok (is_le (slice_cmp nat_cmp x y))
texts_value operator.AtLeast x y = Ok (is_ge (slice_cmp nat_cmp x y))
texts_value operator.Before x y = Ok (is_lt (slice_cmp nat_cmp x y))
texts_value operator.After x y = Ok (is_gt (slice_cmp nat_cmp x y))
texts_value other x y = Err fault.Undefined

-- a version against a specifier, where both are there; else the value of the texts
abbrev pub version_value : Option Parts → Option Specifier → Result Bool EvalFault
    → Result Bool EvalFault
version_value (Some v) (Some s) texts =
    if has_large (numbers v) || has_large (specifier_numbers s)
    then Err fault.NumberTooLarge
    else Ok (admits s v)
version_value (Some v) None texts = texts
version_value None s texts = texts

-- x as a version where y is an operand of this operator, and else both as texts
abbrev pub operator_value : Operator → List ℕ → List ℕ → Result Bool EvalFault
operator_value operator x y =
    version_value (version_of x) (operand_of operator y) (texts_value operator x y)

-- two names by their normal forms, which have no order
abbrev pub names_value : Operator → List ℕ → List ℕ → Result Bool EvalFault
names_value operator.Equal x y = Ok (bytes_eq (normal_name x) (normal_name y))
names_value operator.NotEqual x y = Ok (not (bytes_eq (normal_name x) (normal_name y)))
names_value other x y = Err fault.Undefined

-- x against y by an operator of specifiers: as names, or as what they read as
abbrev pub by_value : Bool → Operator → List ℕ → List ℕ → Result Bool EvalFault
by_value false operator x y = operator_value operator x y
by_value true operator x y = names_value operator x y

-- ---- comparisons

-- a text against the operand right of the operator
abbrev pub value_against : Option (List ℕ) → EnvironmentValue → Bool → List ℕ → Comparator → Operand
    → Result Bool EvalFault
value_against extra environment named x (By operator) right =
    operand_text extra environment right >>= λ y. by_value named operator x y
value_against extra environment named x In right = is_in extra environment named x right
value_against extra environment named x NotIn right =
    is_in extra environment named x right >>= λ is. Ok (not is)

-- the left operand first, then the right one
abbrev pub comparison_value : Option (List ℕ) → EnvironmentValue → ComparisonValue
    → Result Bool EvalFault
comparison_value extra environment c =
    operand_text extra environment c.left >>= λ x.
    value_against extra environment (compares_names extra c) x c.comparator c.right

-- ---- markers

-- both, and the fault of the first that has one
abbrev pub both_values : (Bool → Bool → Bool) → Result Bool EvalFault → Result Bool EvalFault
    → Result Bool EvalFault
both_values join first second = first >>= λ x. second >>= λ y. Ok (join x y)

-- The value where `extra` has this text, or none. Every comparison counts, also where the others
-- have decided already.
abbrev mutual
  pub value_with : Option (List ℕ) → EnvironmentValue → Tree → Result Bool EvalFault
  value_with extra environment (last conjunction) = conjunction_value extra environment conjunction
  value_with extra environment (or conjunction rest) =
      both_values (λ x y. x || y)
      (conjunction_value extra environment conjunction) (value_with extra environment rest)

  pub conjunction_value : Option (List ℕ) → EnvironmentValue → Conjunction → Result Bool EvalFault
  conjunction_value extra environment (only atom) = atom_value extra environment atom
  conjunction_value extra environment (and atom rest) =
      both_values (λ x y. x && y)
      (atom_value extra environment atom) (conjunction_value extra environment rest)

  pub atom_value : Option (List ℕ) → EnvironmentValue → Atom → Result Bool EvalFault
  atom_value extra environment (leaf comparison) = comparison_value extra environment comparison
  atom_value extra environment (group tree) = value_with extra environment tree

-- the value in a lock, where `extra` has no text
abbrev pub marker_value : EnvironmentValue → Tree → Result Bool EvalFault
marker_value environment tree = value_with None environment tree

-- ---- what a marker reads

-- two environments have the same at this key
abbrev pub AgreeAt : Key → EnvironmentValue → EnvironmentValue → Type 0
AgreeAt (key.Of v) e f = variable_in v e ≡ variable_in v f
AgreeAt key.Extras e f = e.extras ≡ f.extras
AgreeAt key.Groups e f = e.groups ≡ f.groups
