-- Which texts are the names of wheels, and what they say (PEP 427, "File name convention"; PEP 425,
-- "Compressed Tag Sets"). A relation over the ways to cut the whole text.
use Rattle.std.specs.Prelude.{◌≡◌, ℕ, ◌≤◌, true, List, [], ◌∷◌, ◌++◌, codes, Option}
use Rattle.std.specs.List.{join_with_byte}
use Rattle.std.specs.Option.{IfSome, option_to_list}
use Rattle.std.specs.Str.{str_to_ascii_lowercase}
use Rattle.pyver_core.specs.Version.Grammar.{IsLarge, Spells}
use Rattle.pyver_core.specs.Version.Parts.{Parts}
use Rattle.pywheel_core.specs.Tag.{TAGS_LIMIT, TagParts, TagValue, are_tag_parts, pieces, tag_count}
use Rattle.pywheel_core.specs.Tag.{tags_in}
use Rattle.pywheel_core.specs.Texts.{IsUndashed}
use Rattle.pywheel_core.specs.Wheel.Build.{is_build}
use Rattle.pywheel_core.specs.Wheel.Name.{is_wheel_name}

-- the parts in a row, with `-` between each two
abbrev pub join_dashed : List (List ℕ) → List ℕ
join_dashed parts = join_with_byte 45 parts

-- three parts stand for these tags: cut at each dot, they are parts of tags, and the tags are all
-- triples
pub record IsTagSet (set : TagParts) (tags : List TagValue) : Type 0 where
  pub python : are_tag_parts (pieces set.0) ≡ true
  pub abi : are_tag_parts (pieces set.1) ≡ true
  pub platform : are_tag_parts (pieces set.2) ≡ true
  pub few : tag_count set ≤ TAGS_LIMIT
  pub triples : tags ≡ tags_in set

-- The text is five or six parts joined by `-`, and `.whl`: the name, the version in one of its
-- spellings, the build tag or none, and a compressed tag set, in any case.
pub record Wheel (text name : List ℕ) (version : Parts) (build : Option (List ℕ))
    (tags : List TagValue) : Type 0 where
  pub spelling : List ℕ
  pub python : List ℕ
  pub abi : List ℕ
  pub platform : List ℕ
  pub whole : text ≡ join_dashed (name ∷ (spelling ∷ (option_to_list build
      ++ (python ∷ (abi ∷ (platform ∷ [])))))) ++ codes ".whl"
  pub is_name : is_wheel_name name ≡ true
  pub is_undashed : IsUndashed spelling
  pub spells : Spells spelling version
  pub fits : IsLarge version → ⊥
  pub is_build : IfSome build (λ b. IsUndashed b × (is_build b ≡ true))
  pub is_tag_set : IsTagSet (
    str_to_ascii_lowercase python,
    str_to_ascii_lowercase abi,
    str_to_ascii_lowercase platform,
  ) tags
