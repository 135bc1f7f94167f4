-- What the code keeps of a comparison, seen as the comparison.
use Rattle.std.specs.Global.{Box}
use Rattle.std.specs.Prelude.{◌≡◌, Result, Ok, Err}
use Rattle.pyver_core.specs.Parsed.{parsed_operand}
use Rattle.pyver_core.specs.declared.set.specifier.Operator.{Operator}
use Rattle.pyver_core.specs.declared.set.specifier.Specifier.{Specifier}
use Rattle.pyver_core.specs.declared.set.error.SpecifierError.{SpecifierError}
use Rattle.pymark_core.specs.declared.comparison.Left.{Left}
use Rattle.pymark_core.specs.declared.comparison.Left.TheVariants as left
use Rattle.pymark_core.specs.declared.comparison.Right.{Right}
use Rattle.pymark_core.specs.declared.comparison.Right.TheVariants as right
use Rattle.pymark_core.specs.declared.comparison.Test.{Test}
use Rattle.pymark_core.specs.declared.comparison.Test.TheVariants as test
use Rattle.pymark_core.specs.declared.operand.Comparator.{Comparator}
use Rattle.pymark_core.specs.declared.operand.Comparator.TheVariants.{By, In, NotIn}
use Rattle.pymark_core.specs.declared.operand.Operand.{Operand}
use Rattle.pymark_core.specs.declared.operand.Operand.TheVariants.{Text, Variable, Extra, Extras}
use Rattle.pymark_core.specs.declared.operand.Operand.TheVariants.{Groups}

abbrev pub left_operand : Left → Operand
left_operand (left.Text text) = Text text.value
left_operand (left.Variable v) = Variable v
left_operand left.Extra = Extra
left_operand left.Extras = Extras
left_operand left.Groups = Groups

abbrev pub right_operand : Right → Operand
right_operand (right.Text text specifier) = Text text
right_operand (right.Variable v) = Variable v
right_operand right.Extra = Extra
right_operand right.Extras = Extras
right_operand right.Groups = Groups

abbrev pub comparator_of : Test → Comparator
comparator_of (test.By operator right) = By operator
comparator_of (test.In right) = In
comparator_of (test.NotIn right) = NotIn

abbrev pub right_of : Test → Operand
right_of (test.By operator right) = right_operand right
right_of (test.In right) = right
right_of (test.NotIn right) = right

-- what a text reads as, where a specifier stands in memory of its own
abbrev pub unboxed : Result (Box Specifier) SpecifierError → Result Specifier SpecifierError
unboxed (Ok specifier) = Ok specifier.value
unboxed (Err refused) = Err refused

-- a text right of an operator of specifiers is kept with what it reads as there
abbrev pub ReadsAs : Operator → Right → Type 0
ReadsAs operator (right.Text text specifier) = parsed_operand operator text ≡ unboxed specifier
ReadsAs operator right = Unit {0}

abbrev pub IsRead : Test → Type 0
IsRead (test.By operator right) = ReadsAs operator right
IsRead other = Unit {0}
