-- Which texts are the names of source distributions, and what they say (PEP 625; "Source
-- distribution format", "Source distribution file name": `{name}-{version}.tar.gz`). PEP 625 wants
-- the name and the version in normal form; older files, which indexes still have, have them in any
-- form, and may end in `.zip`. A relation over the ways to cut the whole text.
use Rattle.std.specs.Prelude.{◌≡◌, ◌⊎◌, ℕ, true, List, ◌∷◌, ◌++◌, codes}
use Rattle.pyver_core.specs.Name.{is_name, normal_name}
use Rattle.pyver_core.specs.Version.Grammar.{IsLarge, Spells}
use Rattle.pyver_core.specs.Version.Parts.{Parts}
use Rattle.pywheel_core.specs.Texts.{IsUndashed}

-- `.tar.gz`, or `.zip`
abbrev pub IsSdistExtension : List ℕ → Type 0
IsSdistExtension text = (text ≡ codes ".tar.gz") ⊎ (text ≡ codes ".zip")

-- The text is a name, `-`, a version in one of its spellings, and an extension. A name may have `-`
-- in it, and the spelling has none: so the `-` before the version is the last one.
pub record Sdist (text name : List ℕ) (version : Parts) : Type 0 where
  pub written : List ℕ
  pub spelling : List ℕ
  pub extension : List ℕ
  pub whole : text ≡ (written ++ (45 ∷ spelling)) ++ extension
  pub is_name : is_name written ≡ true
  pub normal : normal_name written ≡ name
  pub is_undashed : IsUndashed spelling
  pub spells : Spells spelling version
  pub fits : IsLarge version → ⊥
  pub is_extension : IsSdistExtension extension
