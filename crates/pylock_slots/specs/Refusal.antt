-- The codes of `pylock.h`, and how what a library refuses refuses a call.
use Rattle.std.specs.Prelude.{ℤ, pos, Result}
use Rattle.std.specs.Result.{result_map_both}
use Rattle.pylock_run.specs.declared.line.refusal.LineRefusal.{LineRefusal}
use Rattle.pylock_run.specs.declared.line.refusal.LineRefusal.TheVariants as line
use Rattle.pymark_core.specs.declared.fault.EvalFault.{EvalFault}
use Rattle.pymark_core.specs.declared.fault.EvalFault.TheVariants as fault
use Rattle.pymark_core.specs.declared.marker.error.MarkerError.{MarkerError}
use Rattle.pymark_core.specs.declared.marker.error.MarkerError.TheVariants as marker
use Rattle.pymark_core.specs.declared.requirement.error.RequirementError.{RequirementError}
use Rattle.pymark_core.specs.declared.requirement.error.RequirementError.TheVariants as requirement
use Rattle.pyver_core.specs.declared.set.error.SpecifierError.{SpecifierError}
use Rattle.pyver_core.specs.declared.set.error.SpecifierError.TheVariants as set
use Rattle.pyver_core.specs.declared.version.error.VersionError.{VersionError}
use Rattle.pyver_core.specs.declared.version.error.VersionError.TheVariants as version
use Rattle.pywheel_core.specs.declared.error.SdistError.{SdistError}
use Rattle.pywheel_core.specs.declared.error.SdistError.TheVariants as sdist
use Rattle.pywheel_core.specs.declared.error.TargetError.{TargetError}
use Rattle.pywheel_core.specs.declared.error.TargetError.TheVariants as target
use Rattle.pywheel_core.specs.declared.error.WheelError.{WheelError}
use Rattle.pywheel_core.specs.declared.error.WheelError.TheVariants as wheel
use Rattle.pylock_slots.specs.declared.refusal.Refusal.{Refusal}
use Rattle.pylock_slots.specs.declared.refusal.Refusal.TheVariants as refusal

-- of an edit that is refused
abbrev pub edit_number : LineRefusal → ℤ
edit_number line.Memory = pos 1
edit_number line.Text = pos 2
edit_number line.Long = pos 80
edit_number line.Command = pos 81
edit_number line.Argument = pos 82
edit_number line.Variable = pos 83
edit_number line.Extra = pos 84
edit_number line.Group = pos 85
edit_number line.Tag = pos 86
edit_number line.Toml = pos 87
edit_number line.Entry = pos 88
edit_number line.TooMany = pos 89
edit_number line.NoEntry = pos 90
edit_number line.Name = pos 91

-- the code of a refusal; 0 is that of a call that isn't refused, and 4 that of a buffer that is too
-- small
abbrev pub number : Refusal → ℤ
number refusal.Memory = pos 1
number refusal.NotUtf8 = pos 2
number refusal.Empty = pos 3
number refusal.Parts = pos 5
number refusal.Input = pos 6
number refusal.VersionSyntax = pos 10
number refusal.VersionNumber = pos 11
number refusal.SetSyntax = pos 20
number refusal.SetNumber = pos 21
number refusal.MarkerTooDeep = pos 30
number refusal.MarkerSyntax = pos 31
number refusal.MarkerSetMisuse = pos 32
number refusal.ValueUnset = pos 40
number refusal.ValueExtra = pos 41
number refusal.ValueUndefined = pos 42
number refusal.ValueNumber = pos 43
number refusal.RequirementName = pos 50
number refusal.RequirementExtras = pos 51
number refusal.RequirementSpecifier = pos 52
number refusal.RequirementUrl = pos 53
number refusal.RequirementMarker = pos 54
number refusal.RequirementTrailing = pos 55
number refusal.WheelExtension = pos 60
number refusal.WheelParts = pos 61
number refusal.WheelName = pos 62
number refusal.WheelVersion = pos 63
number refusal.WheelBuild = pos 64
number refusal.WheelTags = pos 65
number refusal.SdistExtension = pos 66
number refusal.SdistParts = pos 67
number refusal.SdistName = pos 68
number refusal.SdistVersion = pos 69
number refusal.Lock = pos 70
number refusal.Environment = pos 71
number refusal.Findings = pos 72
number refusal.TargetPython = pos 73
number refusal.TargetPlatform = pos 74
number refusal.TagParts = pos 75
number (refusal.Edit refused) = edit_number refused

abbrev pub version_refusal : VersionError → Refusal
version_refusal version.Syntax = refusal.VersionSyntax
version_refusal version.NumberTooLarge = refusal.VersionNumber
version_refusal version.Memory = refusal.Memory

abbrev pub set_refusal : SpecifierError → Refusal
set_refusal set.Syntax = refusal.SetSyntax
set_refusal set.NumberTooLarge = refusal.SetNumber
set_refusal set.Memory = refusal.Memory

abbrev pub marker_refusal : MarkerError → Refusal
marker_refusal marker.TooDeep = refusal.MarkerTooDeep
marker_refusal marker.Syntax = refusal.MarkerSyntax
marker_refusal marker.SetMisuse = refusal.MarkerSetMisuse
marker_refusal marker.Memory = refusal.Memory

abbrev pub evaluation_refusal : EvalFault → Refusal
evaluation_refusal (fault.Unset variable) = refusal.ValueUnset
evaluation_refusal fault.Extra = refusal.ValueExtra
evaluation_refusal fault.Undefined = refusal.ValueUndefined
evaluation_refusal fault.NumberTooLarge = refusal.ValueNumber
evaluation_refusal fault.Memory = refusal.Memory

abbrev pub requirement_refusal : RequirementError → Refusal
requirement_refusal requirement.Name = refusal.RequirementName
requirement_refusal requirement.Extras = refusal.RequirementExtras
requirement_refusal requirement.Specifier = refusal.RequirementSpecifier
requirement_refusal requirement.Url = refusal.RequirementUrl
requirement_refusal requirement.Marker = refusal.RequirementMarker
requirement_refusal requirement.Trailing = refusal.RequirementTrailing
requirement_refusal requirement.Memory = refusal.Memory

abbrev pub wheel_refusal : WheelError → Refusal
wheel_refusal wheel.Extension = refusal.WheelExtension
wheel_refusal wheel.Parts = refusal.WheelParts
wheel_refusal wheel.Name = refusal.WheelName
wheel_refusal wheel.Version = refusal.WheelVersion
wheel_refusal wheel.Build = refusal.WheelBuild
wheel_refusal wheel.Tags = refusal.WheelTags
wheel_refusal wheel.Memory = refusal.Memory

abbrev pub sdist_refusal : SdistError → Refusal
sdist_refusal sdist.Extension = refusal.SdistExtension
sdist_refusal sdist.Parts = refusal.SdistParts
sdist_refusal sdist.Name = refusal.SdistName
sdist_refusal sdist.Version = refusal.SdistVersion
sdist_refusal sdist.Memory = refusal.Memory

abbrev pub target_refusal : TargetError → Refusal
target_refusal target.Python = refusal.TargetPython
target_refusal target.Platform = refusal.TargetPlatform

-- of a line: want of memory and a text that isn't UTF-8 are told as of any call
abbrev pub line_refusal : LineRefusal → Refusal
line_refusal line.Memory = refusal.Memory
line_refusal line.Text = refusal.NotUtf8
line_refusal refused = refusal.Edit refused

-- what a library reads, or its refusal as the call's
abbrev pub refuse_as : {V E : Type 0} → (E → Refusal) → Result V E → Result V Refusal
refuse_as refusal read = result_map_both (λ v. v) refusal read
