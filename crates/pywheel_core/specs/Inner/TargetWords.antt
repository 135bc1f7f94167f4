-- The words of which the tags of a target are made.
use Rattle.std.specs.Prelude.{◌≡◌, ℕ, ◌+◌, ◌-◌, List, [], ◌∷◌, ◌++◌, drop, length, map, take}
use Rattle.std.specs.List.{flat_map}
use Rattle.pywheel_core.specs.Spans.{AreWithin, IsAsciiText, tag_at}
use Rattle.pywheel_core.specs.Tag.{TagValue}
use Rattle.pywheel_core.specs.Target.Platforms.{platforms_of}
use Rattle.pywheel_core.specs.Target.Tags.{any_platform, cpython_name, no_abi, older_cpythons}
use Rattle.pywheel_core.specs.Target.Tags.{own_abi, pythons_3, stable_abi}
use Rattle.pywheel_core.specs.Target.Value.{TargetValue}
use Rattle.pywheel_core.specs.declared.span.Span.{Span}
use Rattle.pywheel_core.specs.declared.target.cpython.CPython.{CPython}
use Rattle.pywheel_core.specs.declared.target.tags.TargetSpans.{TargetSpans}

abbrev pub abi_words : CPython → List (List ℕ)
abi_words python = own_abi python ∷ stable_abi python ∷ no_abi ∷ []

abbrev pub python_words : ℕ → List (List ℕ)
python_words minor = cpython_name minor ∷ pythons_3 minor

unfoldable pub target_words : TargetValue → List (List ℕ)
target_words target =
    abi_words target.python ++ (any_platform ∷ [] ++ (older_cpythons target.python.minor
    ++ (python_words target.python.minor ++ platforms_of target.platform)))

-- the spans told apart: as many as there are words of each kind for 3.`minor`
pub record AreParts (spans : List Span) (minor : ℕ) (parts : TargetSpans) : Type 0 where
  pub whole : spans ≡ parts.abis.now ++ (parts.any.now ++ (parts.older.now
      ++ (parts.pythons.now ++ parts.platforms.now)))
  pub abis : length parts.abis.now ≡ 3
  pub any : length parts.any.now ≡ 1
  pub older : length parts.older.now ≡ minor - 2
  pub pythons : length parts.pythons.now ≡ minor + 3

-- the parts lie in a text of ASCII
pub record AreTagParts (text : List ℕ) (parts : TargetSpans) : Type 0 where
  pub ascii : IsAsciiText text
  pub abis : AreWithin text parts.abis.now
  pub any : AreWithin text parts.any.now
  pub older : AreWithin text parts.older.now
  pub pythons : AreWithin text parts.pythons.now
  pub platforms : AreWithin text parts.platforms.now
  pub three : length parts.abis.now ≡ 3
  pub some : length parts.pythons.now ≡ 1 + (length parts.pythons.now - 1)

abbrev pub triples_at : List ℕ → List Span → List Span → List Span → List TagValue
triples_at text pythons abis platforms = flat_map (λ python. flat_map (λ abi. map (λ platform.
    tag_at text python abi platform) platforms) abis) pythons

-- the tags that they make: the second of the ABIs is the stable one, and the last one is none
unfoldable pub parts_tags : List ℕ → TargetSpans → List TagValue
parts_tags text parts =
    let none = drop 1 (drop 1 parts.abis.now) in
    triples_at text (take 1 parts.pythons.now) parts.abis.now parts.platforms.now
    ++ (triples_at text parts.older.now (take 1 (drop 1 parts.abis.now)) parts.platforms.now
    ++ (triples_at text (drop 1 parts.pythons.now) none parts.platforms.now
    ++ triples_at text parts.pythons.now none parts.any.now))
