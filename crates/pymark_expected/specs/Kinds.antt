-- Which sentences belong to which refusal.
use Rattle.std.specs.Prelude.{Bool, true, false}
use Rattle.pymark_core.specs.declared.requirement.error.RequirementError.{RequirementError}
use Rattle.pymark_core.specs.declared.requirement.error.RequirementError.TheVariants as refusal
use Rattle.pymark_expected.specs.declared.expected.Expected.{Expected}
use Rattle.pymark_expected.specs.declared.expected.Expected.TheVariants.{Name, NameEnd, Url, UrlEnd}
use Rattle.pymark_expected.specs.declared.expected.Expected.TheVariants.{ClosingBracket, ExtraName}
use Rattle.pymark_expected.specs.declared.expected.Expected.TheVariants.{ExtrasComma, SpecifierEnd}
use Rattle.pymark_expected.specs.declared.expected.Expected.TheVariants.{ClosingSpecifiers, Version}
use Rattle.pymark_expected.specs.declared.expected.Expected.TheVariants.{PrefixOperator, SetEnd}
use Rattle.pymark_expected.specs.declared.expected.Expected.TheVariants.{LocalOperator}
use Rattle.pymark_expected.specs.declared.expected.Expected.TheVariants.{SmallNumbers}
use Rattle.pymark_expected.specs.declared.expected.Expected.TheVariants.{VersionOperator, Operand}
use Rattle.pymark_expected.specs.declared.expected.Expected.TheVariants.{OneSpecifier, PlainText}
use Rattle.pymark_expected.specs.declared.expected.Expected.TheVariants.{In}
use Rattle.pymark_expected.specs.declared.expected.Expected.TheVariants.{MarkerOperator, MarkerEnd}
use Rattle.pymark_expected.specs.declared.expected.Expected.TheVariants.{ClosingMarker, Text}
use Rattle.pymark_expected.specs.declared.expected.Expected.TheVariants.{RequirementEnd}
use Rattle.pymark_expected.specs.declared.expected.Expected.TheVariants.{FewParentheses}

-- what is expected where a specifier is wrong, in a requirement or not
abbrev pub is_of_specifier : Expected → Bool
is_of_specifier PrefixOperator = true
is_of_specifier LocalOperator = true
is_of_specifier SmallNumbers = true
is_of_specifier expected = false

-- what is expected where a text is no specifier set, or no specifier
abbrev pub is_of_set : Expected → Bool
is_of_set VersionOperator = true
is_of_set Version = true
is_of_set SetEnd = true
is_of_set OneSpecifier = true
is_of_set expected = is_of_specifier expected

-- what is expected where a part of a marker is wrong, in a requirement or not
abbrev pub is_in_marker : Expected → Bool
is_in_marker Operand = true
is_in_marker PlainText = true
is_in_marker MarkerOperator = true
is_in_marker In = true
is_in_marker ClosingMarker = true
is_in_marker FewParentheses = true
is_in_marker Text = true
is_in_marker expected = false

-- what is expected where a text is no marker
abbrev pub is_of_marker : Expected → Bool
is_of_marker MarkerEnd = true
is_of_marker expected = is_in_marker expected

-- not of a rule besides the grammar: at most 64 open parentheses, sets right of `in` alone
abbrev pub is_of_grammar : Expected → Bool
is_of_grammar FewParentheses = false
is_of_grammar Text = false
is_of_grammar expected = true

abbrev pub is_of_name : Expected → Bool
is_of_name Name = true
is_of_name NameEnd = true
is_of_name expected = false

abbrev pub is_of_extras : Expected → Bool
is_of_extras ClosingBracket = true
is_of_extras ExtrasComma = true
is_of_extras ExtraName = true
is_of_extras expected = false

abbrev pub is_of_declared : Expected → Bool
is_of_declared NameEnd = true
is_of_declared SpecifierEnd = true
is_of_declared ClosingSpecifiers = true
is_of_declared expected = is_of_specifier expected

abbrev pub is_of_url : Expected → Bool
is_of_url Url = true
is_of_url expected = false

abbrev pub is_of_trailing : Expected → Bool
is_of_trailing UrlEnd = true
is_of_trailing expected = false

abbrev pub is_of_marker_part : Expected → Bool
is_of_marker_part RequirementEnd = true
is_of_marker_part expected = is_in_marker expected

-- what is expected where a text is refused like this as a requirement
abbrev pub belongs : RequirementError → Expected → Bool
belongs refusal.Name expected = is_of_name expected
belongs refusal.Extras expected = is_of_extras expected
belongs refusal.Specifier expected = is_of_declared expected
belongs refusal.Url expected = is_of_url expected
belongs refusal.Trailing expected = is_of_trailing expected
belongs refusal.Marker expected = is_of_marker_part expected
belongs refusal.Memory expected = false
