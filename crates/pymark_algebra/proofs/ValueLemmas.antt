-- The value of a comparison of a variable whose text is known.
use Rattle.std.proofs.Common.{◌≡◌, ℕ, Bool, true, false, not, List, Option, Some, None, ok_or, Result, Ok, Err, ◌∙◌, ap, refl, sym}
use Rattle.std.specs.Prelude.{IfSome}
use Rattle.std.proofs.Common.{inl, inr}
use Rattle.std.proofs.lemmas.Bool.{cases_Bool}
use Rattle.std.proofs.lemmas.Slice.Eq.{bytes_eq-Decides}
use Rattle.std.specs.Str.{bytes_eq}
use Rattle.pyver_core.specs.Parsed.{parsed_operand, within_limit}
use Rattle.pyver_core.specs.Set.Grammar.{specifier_numbers}
use Rattle.pyver_core.specs.Version.Grammar.{has_large}
use Rattle.pyver_core.proofs.Lemmas.Parsed.Outcomes.{within-false, within-true}
use Rattle.pyver_core.specs.declared.set.error.SpecifierError.{SpecifierError}
use Rattle.pyver_core.specs.declared.set.error.SpecifierError.TheVariants as error
use Rattle.pytext.specs.Agreement.{Gives}
use Rattle.pyver_core.specs.Set.Reading.{operand_of}
use Rattle.pyver_core.specs.Version.Reading.{version_of}
use Rattle.pyver_core.specs.Version.Parts.{Parts}
use Rattle.pyver_core.proofs.Lemmas.Set.Reading.Complete.{operand_complete}
use Rattle.pyver_core.proofs.Lemmas.Version.Reading.Sound.Parts.{version_sound}
use Rattle.pyver_core.specs.declared.set.specifier.Operator.{Operator}
use Rattle.pyver_core.specs.declared.set.specifier.Specifier.{Specifier}
use Rattle.pyver_core.specs.declared.set.specifier.Specifier.TheVariants as specifier
use Rattle.pytext.specs.Results.{◌>>=◌}
use Rattle.pymark_core.specs.Environment.{EnvironmentValue, variable_in}
use Rattle.pymark_core.specs.Marker.Asked.{operand_variable, quoted_text}
use Rattle.pymark_core.specs.Marker.Comparison.{ComparisonValue}
use Rattle.pymark_core.specs.Marker.Value.{comparison_value, is_in, is_substring, operand_text, texts_value, value_against, version_value}
use Rattle.pymark_core.specs.declared.fault.EvalFault.{EvalFault}
use Rattle.pymark_core.specs.declared.fault.EvalFault.TheVariants.{Unset}
use Rattle.pymark_core.specs.declared.operand.Comparator.{Comparator}
use Rattle.pymark_core.specs.declared.operand.Comparator.TheVariants.{By, In, NotIn}
use Rattle.pymark_core.specs.declared.operand.Operand.{Operand}
use Rattle.pymark_core.specs.declared.operand.Operand.TheVariants.{Text, Variable, Extra, Extras, Groups}
use Rattle.pymark_core.specs.declared.variable.Var.{Var}
use Rattle.pymark_algebra.specs.Literals.{HasAt, IsAgainstQuoted, IsEquation, IsOfQuoted}

pub variable_is : (o : Operand) (v : Var) → operand_variable o ≡ Some v → o ≡ Variable v
variable_is (Variable w) v is = cc
variable_is (Text text) v is = absurd cc
variable_is Extra v is = absurd cc
variable_is Extras v is = absurd cc
variable_is Groups v is = absurd cc

pub quoted_is : (o : Operand) (text : List ℕ) → quoted_text o ≡ Some text → o ≡ Text text
quoted_is (Text t) text is = cc
quoted_is (Variable w) text is = absurd cc
quoted_is Extra text is = absurd cc
quoted_is Extras text is = absurd cc
quoted_is Groups text is = absurd cc

-- what stands right of the operator, from the text on the left
abbrev against : EnvironmentValue → ComparisonValue → List ℕ → Result Bool EvalFault
against e c x = value_against None e false x c.comparator c.right

abbrev by_left : EnvironmentValue → ComparisonValue → Operand → Result Bool EvalFault
by_left e c o = operand_text None e o >>= λ x. against e c x

-- a variable on the left that has a text
pub with_left : (e : EnvironmentValue) (c : ComparisonValue) (v : Var) (x : List ℕ) → operand_variable c.left ≡ Some v → variable_in v e ≡ Some x
    → comparison_value None e c ≡ value_against None e false x c.comparator c.right
with_left e c v x left is =
    ap (by_left e c) (variable_is c.left v left) ∙ ap (λ t. ok_or t (Unset v) >>= λ y. against e c y) is

-- a quoted text on the left
pub with_quoted_left : (e : EnvironmentValue) (c : ComparisonValue) (x : List ℕ) → quoted_text c.left ≡ Some x
    → comparison_value None e c ≡ value_against None e false x c.comparator c.right
with_quoted_left e c x left = ap (by_left e c) (quoted_is c.left x left)

pub has_left : (c : ComparisonValue) (v : Var) (x y : List ℕ) (r : Option Bool) → operand_variable c.left ≡ Some v → quoted_text c.right ≡ Some y
    → IfSome r (IsAgainstQuoted x c.comparator y) → IfSome r (HasAt v x c)
has_left c v x y None left right is = tt
has_left c v x y (Some value) left right is = λ e has.
    with_left e c v x left has ∙ ap (λ o. value_against None e false x c.comparator o) (quoted_is c.right y right) ∙ is e

pub has_right : (c : ComparisonValue) (v : Var) (x y : List ℕ) (r : Option Bool) → operand_variable c.right ≡ Some v → quoted_text c.left ≡ Some y
    → IfSome r (IsOfQuoted y c.comparator x) → IfSome r (HasAt v x c)
has_right c v x y None right left is = tt
has_right c v x y (Some value) right left is = λ e has.
    with_quoted_left e c y left ∙ ap (λ o. value_against None e false y c.comparator o) (variable_is c.right v right) ∙ is v e has

-- ---- a text against a quoted one

no_version : (v : Option Parts) (s : Option Specifier) (texts : Result Bool EvalFault) → v ≡ None → version_value v s texts ≡ texts
no_version None s texts is = refl
no_version (Some v) s texts is = absurd cc

no_operand : (v : Option Parts) (s : Option Specifier) (texts : Result Bool EvalFault) → s ≡ None → version_value v s texts ≡ texts
no_operand None s texts is = refl
no_operand (Some v) None texts is = refl
no_operand (Some v) (Some s) texts is = absurd cc

pub against_by : (x y : List ℕ) (p : Comparator) (o : Operator) (r : Option Bool) → version_of x ≡ None → p ≡ By o
    → IfSome r (λ value. texts_value o x y ≡ Ok value) → IfSome r (λ value. IsAgainstQuoted x p y value)
against_by x y p o None spells by is = tt
against_by x y p o (Some value) spells by is = λ e.
    ap (λ q. value_against None e false x q (Text y)) by ∙ no_version (version_of x) (operand_of o y) (texts_value o x y) spells ∙ is

pub against_in : (x y : List ℕ) (p : Comparator) (b : Bool) → p ≡ In → b ≡ is_substring x y → IsAgainstQuoted x p y b
against_in x y p b by is e = ap (λ q. value_against None e false x q (Text y)) by ∙ ap Ok (sym is)

pub against_not_in : (x y : List ℕ) (p : Comparator) (b : Bool) → p ≡ NotIn → b ≡ is_substring x y → IsAgainstQuoted x p y (not b)
against_not_in x y p b by is e = ap (λ q. value_against None e false x q (Text y)) by ∙ ap (λ t. Ok (not t)) (sym is)

pub quoted_in : (x y : List ℕ) (p : Comparator) (b : Bool) → p ≡ In → b ≡ is_substring x y → IsOfQuoted x p y b
quoted_in x y p b by is v e has =
    ap (λ q. value_against None e false x q (Variable v)) by ∙ ap (λ t. ok_or t (Unset v) >>= λ z. Ok (is_substring x z)) has ∙ ap Ok (sym is)

pub quoted_not_in : (x y : List ℕ) (p : Comparator) (b : Bool) → p ≡ NotIn → b ≡ is_substring x y → IsOfQuoted x p y (not b)
quoted_not_in x y p b by is v e has =
    ap (λ q. value_against None e false x q (Variable v)) by
    ∙ ap (λ t. (ok_or t (Unset v) >>= λ z. Ok (is_substring x z)) >>= λ i. Ok (not i)) has ∙ ap (λ t. Ok (not t)) (sym is)

-- ---- what an equation tells

parsed_syntax : (s : Option Specifier) → (ok_or s error.Syntax >>= λ q. within_limit error.NumberTooLarge (specifier_numbers q) q) ≡ Err error.Syntax → s ≡ None
parsed_syntax None is = refl
parsed_syntax (Some s) is = elim (cases_Bool (has_large (specifier_numbers s))) [
  | inl past ↦ absurd (let no : Err error.NumberTooLarge ≡ Err error.Syntax = sym (within-true error.NumberTooLarge (specifier_numbers s) s past) ∙ is in cc)
  | inr small ↦ absurd (let no : Ok s ≡ Err error.Syntax = sym (within-false error.NumberTooLarge (specifier_numbers s) s small) ∙ is in cc)
]

-- what is refused for its syntax is no operand
pub refused : (o : Operator) (text : List ℕ) → parsed_operand o text ≡ Err error.Syntax → operand_of o text ≡ None
unfolding parsed_operand
refused o text is = parsed_syntax (operand_of o text) is

pub refused_as : (o : Operator) (text : List ℕ) (r : Result Specifier SpecifierError) → Gives error.Memory (λ s. s) r (parsed_operand o text)
    → r ≡ Err error.Syntax → operand_of o text ≡ None
refused_as o text (Ok s) gives is = absurd cc
refused_as o text (Err f) gives is =
    let same : f ≡ error.Syntax = cc in refused o text (gives (λ m. let no : error.Syntax ≡ error.Memory = sym same ∙ m in cc) ∙ ap Err same)

none_of : {X : Type 0} (r : Option X) → ((x : X) → r ≡ Some x → ⊥) → r ≡ None
none_of None not = refl
none_of (Some x) not = absurd (not x refl)

-- what is no operand of `==` or `!=` spells no version
pub spells_none : (o : Operator) (wanted : Bool) (text : List ℕ) → IsEquation o wanted → operand_of o text ≡ None → version_of text ≡ None
spells_none o wanted text equation is = none_of (version_of text) (λ v read. elim equation [
  | inl equal ↦ (let no : None ≡ Some (specifier.Equal v) = sym is ∙ ap (λ p. operand_of p text) equal.0 ∙ operand_complete (specifier.Equal v) text (version_sound text v read) in cc)
  | inr unequal ↦ (let no : None ≡ Some (specifier.NotEqual v) = sym is ∙ ap (λ p. operand_of p text) unequal.0 ∙ operand_complete (specifier.NotEqual v) text (version_sound text v read) in cc)
])

equal_texts : (x y : List ℕ) → bytes_eq x y ≡ true → x ≡ y
equal_texts x y is = (bytes_eq-Decides x y).0 is

not_false : (b : Bool) → not b ≡ false → b ≡ true
not_false true is = refl
not_false false is = absurd cc

pub equation_says : (o : Operator) (wanted : Bool) (x y : List ℕ) → IsEquation o wanted → texts_value o x y ≡ Ok wanted → x ≡ y
equation_says o wanted x y equation is = elim equation [
  | inl equal ↦ (let same : Ok (bytes_eq x y) ≡ Ok true = sym (ap (λ p. texts_value p x y) equal.0) ∙ is ∙ ap Ok equal.1 in
      let true_is : bytes_eq x y ≡ true = cc in equal_texts x y true_is)
  | inr unequal ↦ (let same : Ok (not (bytes_eq x y)) ≡ Ok false = sym (ap (λ p. texts_value p x y) unequal.0) ∙ is ∙ ap Ok unequal.1 in
      let false_is : not (bytes_eq x y) ≡ false = cc in equal_texts x y (not_false _ false_is))
]

-- the text of a variable on the left, where the comparison has a value
pub text_of_left : (e : EnvironmentValue) (c : ComparisonValue) (v : Var) (b : Bool) → operand_variable c.left ≡ Some v → comparison_value None e c ≡ Ok b
    → (x : List ℕ) × (variable_in v e ≡ Some x)
text_of_left e c v b left is = found (variable_in v e) refl
  where
    found : (t : Option (List ℕ)) → variable_in v e ≡ t → (x : List ℕ) × (variable_in v e ≡ Some x)
    found (Some x) has = (x, has)
    found None has =
        let no : Err (Unset v) ≡ Ok b =
        sym (ap (by_left e c) (variable_is c.left v left) ∙ ap (λ t. ok_or t (Unset v) >>= λ y. against e c y) has) ∙ is in absurd cc

pub tells : (c : ComparisonValue) (wanted : Bool) (v : Var) (y : List ℕ) (o : Operator) → operand_variable c.left ≡ Some v → quoted_text c.right ≡ Some y
    → c.comparator ≡ By o → IsEquation o wanted → operand_of o y ≡ None
    → (e : EnvironmentValue) → comparison_value None e c ≡ Ok wanted → variable_in v e ≡ Some y
tells c wanted v y o left right by equation none e is =
    let at = text_of_left e c v wanted left is in
    let value : texts_value o at.0 y ≡ Ok wanted =
    sym (with_left e c v at.0 left at.1
    ∙ ap (λ r. value_against None e false at.0 c.comparator r) (quoted_is c.right y right)
    ∙ ap (λ p. value_against None e false at.0 p (Text y)) by
    ∙ no_operand (version_of at.0) (operand_of o y) (texts_value o at.0 y) none) ∙ is in
    at.1 ∙ ap Some (equation_says o wanted at.0 y equation value)

-- ---- `in` and `not in`

never_both : (b w : Bool) → b ≡ w → not b ≡ w → ⊥
never_both true w is other = let no : true ≡ false = is ∙ sym other in cc
never_both false w is other = let no : false ≡ true = is ∙ sym other in cc

apart : (l : Result (List ℕ) EvalFault) (f : List ℕ → Result Bool EvalFault) (w : Bool)
    → (l >>= f) ≡ Ok w → (l >>= λ x. f x >>= λ i. Ok (not i)) ≡ Ok w → ⊥
apart (Err fault) f w is other = cc
apart (Ok x) f w is other = at (f x) is other
  where
    at : (r : Result Bool EvalFault) → r ≡ Ok w → (r >>= λ i. Ok (not i)) ≡ Ok w → ⊥
    at (Err fault) first second = cc
    at (Ok b) first second = never_both b w (cc) (cc)

-- the same operands don't have one value by both
pub in_excludes : (e : EnvironmentValue) (c d : ComparisonValue) (w : Bool) → c.left ≡ d.left → c.right ≡ d.right → c.comparator ≡ In → d.comparator ≡ NotIn
    → comparison_value None e c ≡ Ok w → comparison_value None e d ≡ Ok w → ⊥
in_excludes e c d w left right first second is other =
    apart (operand_text None e d.left) (λ x. is_in None e false x d.right) w
    (sym (λ i. operand_text None e (left i) >>= λ x. value_against None e false x (first i) (right i)) ∙ is)
    (sym (ap (λ p. operand_text None e d.left >>= λ x. value_against None e false x p d.right) second) ∙ other)
