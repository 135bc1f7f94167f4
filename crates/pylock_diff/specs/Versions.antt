-- The versions of a name (PEP 440).
use Rattle.std.specs.Prelude.{ℕ, not, List, ◌∷◌, codes, map, Option, option_map}
use Rattle.std.specs.Prelude.{Result, Ok, Err}
use Rattle.pyver_core.specs.Parsed.{parsed_version}
use Rattle.pyver_core.specs.Version.OrderKey.{order_key}
use Rattle.pyver_core.specs.Version.Parts.{Parts}
use Rattle.pyver_core.specs.declared.version.error.VersionError.{VersionError}
use Rattle.pylock_diff.specs.Change.{ChangeValue, change_of, shown_texts, told_where}
use Rattle.pylock_diff.specs.Item.{ItemValue}
use Rattle.pylock_compare.specs.Texts.{Texts, are_alike}
use Rattle.pylock_diff.specs.declared.change.ChangeKind.TheVariants.{Version}

-- By what a version is compared: where the text is one, by its order key, which all its spellings
-- share, else by the text.
abbrev pub key_by : List ℕ → Result Parts VersionError → List ℕ
key_by text (Ok version) = 1 ∷ order_key version
key_by text (Err error) = 0 ∷ text

unfoldable pub text_key : List ℕ → List ℕ
text_key text = key_by text (parsed_version text)

abbrev pub version_key : ItemValue → Option (List ℕ)
version_key item = option_map text_key item.version

abbrev pub version_keys : List ItemValue → Texts
version_keys items = map version_key items

-- the versions in order of entries, as they are shown
abbrev pub versions_text : List ItemValue → Option (List ℕ)
versions_text items = shown_texts (codes ",") (map (λ item. item.version) items)

-- the lists of versions differ
abbrev pub version_changes : List ℕ → (olds news : List ItemValue) → List ChangeValue
version_changes name olds news =
    told_where (not (are_alike (version_keys olds) (version_keys news)))
    (change_of Version name (versions_text olds) (versions_text news))
