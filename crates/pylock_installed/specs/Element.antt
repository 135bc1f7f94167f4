-- An element of a list of what is installed. Every member that isn't named here is skipped.
use Rattle.std.specs.Prelude.{ℕ, Bool, codes, false, List, Option, Some, None, option_and_then}
use Rattle.std.specs.Prelude.{option_map, unwrap_or}
use Rattle.serde_json.specs.Data.{Data}
use Rattle.serde_json.specs.Find.{get, as_bool, as_str}
use Rattle.pytext.specs.Options.{◌>>=◌, either}
use Rattle.pyver_core.specs.Name.{normal_name}
use Rattle.pylock_installed.specs.Project.{ProjectValue}
use Rattle.pylock_installed.specs.declared.origin.Origin.{Origin}
use Rattle.pylock_installed.specs.declared.origin.Origin.TheVariants as origin
use Rattle.pylock_installed.specs.declared.reading.Form.{Form}
use Rattle.pylock_installed.specs.declared.reading.Form.TheVariants as form

-- the member of the key, where it is a text
abbrev pub text_at : List ℕ → Data → Option (List ℕ)
text_at key d = option_and_then as_str (get key d)

-- ---- where a project was installed from (PEP 610, "Specification")

-- a checkout names its commit
abbrev pub checkout_in : Data → Option Origin
checkout_in url =
    option_map origin.Checkout
    (option_and_then (text_at (codes "commit_id")) (get (codes "vcs_info") url))

-- a directory is installed in place where `editable` is true
abbrev pub is_editable : Data → Bool
is_editable info = unwrap_or (option_and_then as_bool (get (codes "editable") info)) false

abbrev pub directory_in : Data → Option Origin
directory_in url =
    option_map (λ info. origin.Directory (is_editable info)) (get (codes "dir_info") url)

-- of the hashes of a file that of SHA-256 is kept
abbrev pub sha256_in : Data → Option (List ℕ)
sha256_in info = option_and_then (text_at (codes "sha256")) (get (codes "hashes") info)

abbrev pub file_in : Data → Option Origin
file_in url = option_map (λ info. origin.File (sha256_in info)) (get (codes "archive_info") url)

-- a direct URL says one of the three
unfoldable pub direct_origin : Data → Option Origin
direct_origin url = either (checkout_in url) (either (directory_in url) (file_in url))

-- what comes from an index has no direct URL
abbrev pub origin_of : Option Data → Option Origin
origin_of None = Some origin.Index
origin_of (Some url) = direct_origin url

-- ---- an element

-- the project of this name and version that is from there
unfoldable pub project_of : Data → Option Origin → Option ProjectValue
project_of metadata origin = do
  name ← text_at (codes "name") metadata
  version ← text_at (codes "version") metadata
  from ← origin
  Some (record { name = normal_name name; version = version; origin = from })

-- `pip list` has name and version in the element, and doesn't tell where they are from; `pip
-- inspect` has them in its `metadata`, and a direct URL beside it
abbrev pub project_in : Form → Data → Option ProjectValue
project_in form.List element = project_of element (Some origin.Untold)
project_in form.Inspect element = do
  metadata ← get (codes "metadata") element
  project_of metadata (origin_of (get (codes "direct_url") element))
