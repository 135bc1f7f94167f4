-- A source under another URL, and what stays of it.
use Rattle.std.proofs.Common.{◌≡◌, ◌∙◌, ℕ, List, Option, None, Some, ap, length, refl, sym}
use Rattle.std.proofs.lemmas.List.{length-map}
use Rattle.std.specs.Prelude.{if◌then◌else◌, is_some, option_and_then}
use Rattle.pytext.specs.Options.{either}
use Rattle.pylock_readers.specs.Entry.FileName.{file_name_of}
use Rattle.pylock_core.specs.Session.Picks.{SourceValue, OfVcs, OfDirectory, OfArchive, OfWheel, OfSdist, is_unhashed, source_file, source_file_name, source_hashes}
use Rattle.pylock_core.specs.Session.Picks.{source_location, source_subdirectory}
use Rattle.pylock_exports.specs.Base.{under}
use Rattle.pylock_exports.specs.Inner.{all_lent, lent}
use Rattle.pylock_exports.specs.Listed.{ListedValue}
use Rattle.pylock_exports.specs.declared.listed.Listed.{Listed}

pub own : (s : SourceValue) → under None s ≡ s
own (OfVcs vcs) = refl
own (OfDirectory directory) = refl
own (OfArchive archive) = refl
own (OfWheel file) = refl
own (OfSdist file) = refl

pub same_url : (url : Option (List ℕ)) (s : SourceValue)
    → (source_location (under url s)).url ≡ (if is_unhashed s then (source_location s).url else either url (source_location s).url)
same_url url (OfVcs vcs) = refl
same_url url (OfDirectory directory) = refl
same_url url (OfArchive archive) = refl
same_url url (OfWheel file) = refl
same_url url (OfSdist file) = refl

pub same_path : (url : Option (List ℕ)) (s : SourceValue) → (source_location (under url s)).path ≡ (source_location s).path
same_path url (OfVcs vcs) = refl
same_path url (OfDirectory directory) = refl
same_path url (OfArchive archive) = refl
same_path url (OfWheel file) = refl
same_path url (OfSdist file) = refl

pub same_subdirectory : (url : Option (List ℕ)) (s : SourceValue) → source_subdirectory (under url s) ≡ source_subdirectory s
same_subdirectory url (OfVcs vcs) = refl
same_subdirectory url (OfDirectory directory) = refl
same_subdirectory url (OfArchive archive) = refl
same_subdirectory url (OfWheel file) = refl
same_subdirectory url (OfSdist file) = refl

pub same_hashes : (url : Option (List ℕ)) (s : SourceValue) → source_hashes (under url s) ≡ source_hashes s
same_hashes url (OfVcs vcs) = refl
same_hashes url (OfDirectory directory) = refl
same_hashes url (OfArchive archive) = refl
same_hashes url (OfWheel file) = refl
same_hashes url (OfSdist file) = refl

pub same_unhashed : (url : Option (List ℕ)) (s : SourceValue) → is_unhashed (under url s) ≡ is_unhashed s
same_unhashed url (OfVcs vcs) = refl
same_unhashed url (OfDirectory directory) = refl
same_unhashed url (OfArchive archive) = refl
same_unhashed url (OfWheel file) = refl
same_unhashed url (OfSdist file) = refl

pub same_kind : (url : Option (List ℕ)) (s : SourceValue) → is_some (source_file (under url s)) ≡ is_some (source_file s)
same_kind url (OfVcs vcs) = refl
same_kind url (OfDirectory directory) = refl
same_kind url (OfArchive archive) = refl
same_kind url (OfWheel file) = refl
same_kind url (OfSdist file) = refl

pub same_name : (url : Option (List ℕ)) (s : SourceValue)
    → source_file_name (under url s)
    ≡ option_and_then (λ file. file_name_of file.name file.location.path (source_location (under url s)).url) (source_file s)
same_name url (OfVcs vcs) = refl
same_name url (OfDirectory directory) = refl
same_name url (OfArchive archive) = refl
same_name url (OfWheel file) = refl
same_name url (OfSdist file) = refl

-- the last URL counts
pub under_twice : (last first : Option (List ℕ)) (s : SourceValue) → under last (under first s) ≡ under (either last first) s
under_twice last first (OfVcs vcs) = refl
under_twice last first (OfDirectory directory) = refl
under_twice None first (OfArchive archive) = refl
under_twice (Some url) first (OfArchive archive) = refl
under_twice None first (OfWheel file) = refl
under_twice (Some url) first (OfWheel file) = refl
under_twice None first (OfSdist file) = refl
under_twice (Some url) first (OfSdist file) = refl

-- sources are as many as the code lends
pub counted : (found : List Listed) (sources : List ListedValue) → all_lent found ≡ sources → length found ≡ length sources
counted found sources same = sym (length-map found lent) ∙ ap length same
