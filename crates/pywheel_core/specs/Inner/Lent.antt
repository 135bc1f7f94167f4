-- Parts that are lent, as contracts see them.
use Rattle.std.specs.Prelude.{◌≡◌, Some, option_map}
use Rattle.std.specs.Str.{str_to_ascii_lowercase}
use Rattle.pywheel_core.specs.Choice.{Ranked}
use Rattle.pywheel_core.specs.Tag.{TagParts}
use Rattle.pywheel_core.specs.Texts.{three_parts}
use Rattle.pywheel_core.specs.Wheel.Cut.{WheelParts}
use Rattle.pywheel_core.specs.declared.choice.RankedWheel.{RankedWheel}
use Rattle.pywheel_core.specs.declared.cut.TagSet.{TagSet}
use Rattle.pywheel_core.specs.declared.cut.StemParts.{StemParts}

abbrev pub set_of : TagSet → TagParts
set_of set = (set.python.now, set.abi.now, set.platform.now)

-- the three parts in lower case
abbrev pub lower_set : TagParts → TagParts
lower_set s = (str_to_ascii_lowercase s.0, str_to_ascii_lowercase s.1, str_to_ascii_lowercase s.2)

-- the last three parts, cut
abbrev pub IsCut : StemParts → Type 0
IsCut parts = three_parts 45 parts.tag_set.now ≡ Some (set_of parts.set)

abbrev pub wheel_parts : StemParts → WheelParts
wheel_parts parts = record {
  name = parts.name.now;
  version = parts.version.now;
  build = option_map (λ b. b.now) parts.build;
  tag_set = parts.tag_set.now;
}

abbrev pub ranked_wheel : RankedWheel → Ranked
ranked_wheel c = record { rank = c.rank; build = c.wheel.now.build; place = c.position }
