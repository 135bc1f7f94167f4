-- Another base for URLs of files: a form is that of the same sources, of which each URL that begins
-- with `FROM` has `TO` in its place. The form judges the URLs that are made so.
use Rattle.std.specs.Prelude.{◌&&◌, ◌++◌, Bool, not, List, ℕ, [], ◌∷◌, filter, map}
use Rattle.std.specs.Prelude.{Option, Some, None, is_none, is_some, option_and_then, option_map}
use Rattle.pytext.specs.Options.{either}
use Rattle.pylock_readers.specs.Entry.{LocationValue}
use Rattle.pylock_core.specs.Session.Picks.{SourceValue, OfVcs, OfDirectory, OfArchive, OfWheel}
use Rattle.pylock_core.specs.Session.Picks.{OfSdist}
use Rattle.pylock_exports.specs.Listed.{ListedValue, listed, url_of}
use Rattle.pylock_exports.specs.Parts.{behind}
use Rattle.pylock_exports.specs.Texts.{is_left_out}
use Rattle.pylock_command.specs.declared.base.Base.{Base}
use Rattle.pylock_command.specs.declared.form.PlanFormat.{PlanFormat}

-- ---- a source under another URL

-- the URL where there is one, else its own
abbrev pub at_url : Option (List ℕ) → LocationValue → LocationValue
at_url url location = record { url = either url location.url; path = location.path }

-- a file under the URL; a checkout and a directory are no files
abbrev pub under : Option (List ℕ) → SourceValue → SourceValue
under url (OfVcs vcs) = OfVcs vcs
under url (OfDirectory directory) = OfDirectory directory
under url (OfArchive archive) =
    OfArchive (record archive { location = at_url url archive.location })
under url (OfWheel file) = OfWheel (record file { location = at_url url file.location })
under url (OfSdist file) = OfSdist (record file { location = at_url url file.location })

-- ---- on a base

-- what stands behind `FROM` in the URL of a file
abbrev pub rest_of : Base → SourceValue → Option (List ℕ)
rest_of base source = option_and_then (behind base.from.now) (url_of source)

-- the URL with `TO` in the place of `FROM`, where it begins so
abbrev pub moved_url : Base → SourceValue → Option (List ℕ)
moved_url base source = option_map (λ rest. base.to.now ++ rest) (rest_of base source)

abbrev pub moved : Base → ListedValue → ListedValue
moved base s = listed s.number s.entry (under (moved_url base s.source) s.source)

-- the sources, on the base that there may be
abbrev pub on_base : Option Base → List ListedValue → List ListedValue
on_base None sources = sources
on_base (Some base) sources = map (moved base) sources

-- ---- what is told beside the text

-- the form has the source, whose URL doesn't begin with `FROM`
abbrev pub is_elsewhere : PlanFormat → Base → SourceValue → Bool
is_elsewhere form base source =
    not (is_left_out form source) && is_some (url_of source) && is_none (rest_of base source)

-- those, in order; without a base there are none
abbrev pub elsewhere : PlanFormat → Option Base → List ListedValue → List ListedValue
elsewhere form None sources = []
elsewhere form (Some base) sources = filter (λ s. is_elsewhere form base s.source) sources

-- the URL of the first of them
abbrev pub first_url : List ListedValue → Option (List ℕ)
first_url [] = None
first_url (s ∷ sources) = url_of s.source
