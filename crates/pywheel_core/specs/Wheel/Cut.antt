-- The parts of a wheel's name (PEP 427, "File name convention").
use Rattle.std.specs.Prelude.{ℕ, if◌then◌else◌, List, codes, Option, Some, None, is_some}
use Rattle.pytext.specs.Options.{◌>>=◌, either}
use Rattle.pywheel_core.specs.Texts.{before_ending, cut_at, three_parts}

-- the parts as written; `tag_set` is the last three, with `-` between them
pub record WheelParts : Type 0 where
  pub name : List ℕ
  pub version : List ℕ
  pub build : Option (List ℕ)
  pub tag_set : List ℕ

-- what stands before the extension
abbrev pub stem_of : List ℕ → Option (List ℕ)
stem_of text = before_ending (codes ".whl") text

-- the parts behind the version: three, which are a tag set
unfoldable pub end_without_build : List ℕ → Option (Option (List ℕ) × List ℕ)
end_without_build text = if is_some (three_parts 45 text) then Some (None, text) else None

-- or four, the first of which is the build tag
unfoldable pub end_with_build : List ℕ → Option (Option (List ℕ) × List ℕ)
end_with_build text = do
  build ← cut_at 45 text
  if is_some (three_parts 45 build.1) then Some (Some build.0, build.1) else None

-- what stands behind the version: the build tag or none, and the tag set
abbrev pub end_of : List ℕ → Option (Option (List ℕ) × List ℕ)
end_of text = either (end_without_build text) (end_with_build text)

-- the five or six parts, with `-` between them
unfoldable pub parts_of : List ℕ → Option WheelParts
parts_of stem = do
  name ← cut_at 45 stem
  version ← cut_at 45 name.1
  end ← end_of version.1
  Some (record { name = name.0; version = version.0; build = end.0; tag_set = end.1 })
