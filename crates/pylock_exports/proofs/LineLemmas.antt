-- Lines of what was taken: each part that a check takes is of its form.
use Rattle.std.proofs.Common.{[], ◌≡◌, ◌∙◌, ◌⊎◌, inl, inr, ℕ, Bool, true, false, not, ◌||◌, cond, codes, List, ◌∷◌, ◌++◌, map, flat_map, Option, Some, None, Result, Ok, Err, option_map, unwrap_or, refl, sym, subst}
use Rattle.std.proofs.lemmas.Bool.{not-true}
use Rattle.std.proofs.lemmas.List.Elements.{All-from_recursion}
use Rattle.std.specs.Prelude.{⊤}
use Rattle.std.specs.Char.{is_ascii_alphanumeric}
use Rattle.std.specs.List.{All, AllByRecursion}
use Rattle.std.specs.Option.{option_map_or}
use Rattle.pytext.specs.Bytes.{starts}
use Rattle.pytext.specs.Options.{either}
use Rattle.pytext.specs.Results.{◌>>=◌}
use Rattle.pylock_readers.specs.Entry.{DirectoryValue, VcsValue}
use Rattle.pylock_readers.specs.Entry.FileName.{is_slash}
use Rattle.pylock_core.specs.Session.Picks.{SourceValue, OfVcs, OfDirectory, OfArchive, OfWheel, OfSdist, source_hashes, source_location, source_subdirectory}
use Rattle.pylock_exports.specs.FileNames.{ends_as_file, last_part}
use Rattle.pylock_exports.specs.Line.{EndsInFile, IsCheckoutUrl, IsCommit, IsDirectoryPath, IsFetchedUrl, IsFileName, IsFilePath, IsFileUrl, IsFragment, IsHash, IsHashOption, IsLine, IsName, IsOf, IsPath, IsPlace, IsPlainPath, IsSub, IsSubdirectory, IsSumName, IsWebUrl, option_sha256, option_sha384, option_sha512, sum_line, aria2_url, aria2_file, aria2_hash, aria2_torrent, aria2_metalink, aria2_renaming, url_line, header_line, place_line, path_line, local_header_line, checkout_line, directory_line}
use Rattle.pylock_exports.specs.Listed.{ListedValue, file_name_of_source, hash_of, last_of, path_alone, sha256_of, url_of}
use Rattle.pylock_exports.specs.Lists.{fetched_check, is_control_file, key_of, list_check, own_sum_check, source_lines, sum_name, sum_name_check, value_of, with_sources}
use Rattle.pylock_exports.specs.Parts.{Check, any_url_check, at_number, behind, checkout_url_check, commit_check, directory_path_check, file_name_check, has_hex_commits, hash_check, host_check, host_cut, is_file_url, missing, name_check, path_check, plain_check, require, subdirectory_check, there, web_url_check, where_there}
use Rattle.pylock_exports.specs.Requirements.{directory_check, directory_end, fragment, hash_option, hashed_check, hashed_line, hashes_check, hashes_option, header, is_in, location_text, named, part_of, parts_check, place_check, project_of, requirement_check, requirement_line, requirements_check, requirements_lines, source_check, source_line, vcs_check, vcs_line}
use Rattle.pylock_exports.specs.Texts.{format_lines}
use Rattle.pylock_exports.proofs.OnceLemmas.{all_from}
use Rattle.pylock_exports.proofs.SplitLemmas.{behind_found, joined_five, web_found}
use Rattle.pylock_exports.specs.declared.class.Class.{Class}
use Rattle.pylock_exports.specs.declared.class.Class.TheVariants as class
use Rattle.pylock_command.specs.declared.form.PlanFormat.{PlanFormat}
use Rattle.pylock_command.specs.declared.form.PlanFormat.TheVariants as format
use Rattle.pylock_command.specs.declared.form.FileFormat.{FileFormat}
use Rattle.pylock_command.specs.declared.form.FileFormat.TheVariants.{Sha256sum, Aria2, Urls}
use Rattle.pylock_exports.specs.declared.requirements.PlanPart.{PlanPart}
use Rattle.pylock_exports.specs.declared.requirements.PlanPart.TheVariants.{Hashed, Local}
use Rattle.pylock_exports.specs.declared.refusal.ExportError.{ExportError}
use Rattle.pylock_exports.specs.declared.refusal.Field.{Field}
use Rattle.pylock_exports.specs.declared.refusal.Field.TheVariants as field
use Rattle.pylock_exports.specs.declared.refusal.Reason.{Reason}

-- ---- steps

-- both of two steps are taken
both : {E : Type 0} → (a b : Result ⊤ E) → (a >>= (λ _. b)) ≡ Ok tt → (a ≡ Ok tt) × (b ≡ Ok tt)
both (Ok u) b taken = (refl, taken)
both (Err e) b taken = cc taken

required : (field : Field) (reason : Reason) (test : Bool) → require field reason test ≡ Ok tt → test ≡ true
required field reason true taken = refl
required field reason false taken = cc taken

numbered : (n : ℕ) (check : Check) → at_number n check ≡ Ok tt → check ≡ Ok tt
numbered n (Ok u) taken = refl
numbered n (Err e) taken = cc taken

is_there : (field : Field) (check : List ℕ → Check) (text : Option (List ℕ)) → there field check text ≡ Ok tt → check (unwrap_or text []) ≡ Ok tt
is_there field check None taken = cc taken
is_there field check (Some text) taken = taken

-- ---- parts

name_is : (name : List ℕ) → name_check name ≡ Ok tt → IsName name
name_is name taken = let p = both _ _ taken in (required _ _ _ p.0, required _ _ _ p.1)

file_name_is : (field : Field) (name : List ℕ) → file_name_check field name ≡ Ok tt → IsFileName name
file_name_is field name taken = let p = both _ _ taken in (required _ _ _ p.0, required _ _ _ p.1)

web_url_is : (class : Class) (url : List ℕ) → web_url_check class url ≡ Ok tt → IsWebUrl class url
web_url_is class url taken =
    let p = both _ _ taken in
    by (host_cut url) refl p.1 (required _ _ _ (both _ _ p.0).1)
  where
    by : (cut : Option (List ℕ × List ℕ)) → host_cut url ≡ cut → host_check cut ≡ Ok tt → IsOf class url → IsWebUrl class url
    by None is host all = cc host
    by (Some cut) is host all =
        let at = web_found url cut is in
        let p = both _ _ host in
        record {
          scheme = at.0;
          host = cut.0;
          path = cut.1;
          whole = at.2 ∙ sym (joined_five at.0 (codes "://") cut.0 (codes "/") cut.1);
          is_scheme = at.1;
          is_host = (required _ _ _ p.0, required _ _ _ p.1);
          characters = all;
        }

file_url_is : (url : List ℕ) → is_file_url url ≡ true → IsOf class.PipUrl url → IsFileUrl url
file_url_is url is all = by (behind (codes "file:///") url) refl is
  where
    by : (rest : Option (List ℕ)) → behind (codes "file:///") url ≡ rest → option_map_or (starts is_ascii_alphanumeric) rest false ≡ true → IsFileUrl url
    by None found is = cc is
    by (Some path) found is = record { path = path; whole = behind_found (codes "file:///") url path found; begins = is; characters = all }

any_url_is : (url : List ℕ) → any_url_check url ≡ Ok tt → IsWebUrl class.PipUrl url ⊎ IsFileUrl url
any_url_is url taken = by (is_file_url url) refl taken
  where
    by : (b : Bool) → is_file_url url ≡ b → any_url_check url ≡ Ok tt → IsWebUrl class.PipUrl url ⊎ IsFileUrl url
    by true is taken = inr (file_url_is url is (required _ _ _ (rw is at taken)))
    by false is taken = inl (web_url_is class.PipUrl url (rw is at taken))

checkout_url_is : (url : List ℕ) → checkout_url_check url ≡ Ok tt → IsCheckoutUrl url
checkout_url_is url taken =
    let two = both _ _ taken in
    let one = both _ _ two.0 in
    (web_url_is class.PipUrl url one.0, not-true _ (required _ _ _ one.1), required _ _ _ two.1)

plain_is : (field : Field) (path : List ℕ) → plain_check field path ≡ Ok tt → IsPlainPath path
plain_is field path taken =
    let two = both _ _ taken in
    let one = both _ _ two.0 in
    record { characters = required _ _ _ one.0; something = not-true _ (required _ _ _ one.1); single = not-true _ (required _ _ _ two.1) }

path_is : (path : List ℕ) → path_check path ≡ Ok tt → IsPath path
path_is path taken = let p = both _ _ taken in (plain_is field.Path path p.0, not-true _ (required _ _ _ p.1))

directory_path_is : (path : List ℕ) → directory_path_check path ≡ Ok tt → IsDirectoryPath path
directory_path_is path taken = let p = both _ _ taken in (plain_is field.Path path p.0, not-true _ (required _ _ _ p.1))

subdirectory_is : (path : List ℕ) → subdirectory_check path ≡ Ok tt → IsSubdirectory path
subdirectory_is path taken =
    let two = both _ _ taken in
    let one = both _ _ two.0 in
    ((plain_is field.Subdirectory path one.0, not-true _ (required _ _ _ one.1)), not-true _ (required _ _ _ two.1))

hash_is : (digits : ℕ) (value : List ℕ) → hash_check digits value ≡ Ok tt → IsHash digits value
hash_is digits value taken = let p = both _ _ taken in (required _ _ _ p.0, required _ _ _ p.1)

commit_is : (kind commit : List ℕ) → commit_check kind commit ≡ Ok tt → IsCommit kind commit
commit_is kind commit = by (has_hex_commits kind) refl
  where
    by : (hex : Bool) → has_hex_commits kind ≡ hex → commit_check kind commit ≡ Ok tt → IsCommit kind commit
    by true is taken = let p = both _ _ (rw is at taken) in inl (is, required _ _ _ p.0, required _ _ _ p.1)
    by false is taken = let p = both _ _ (rw is at taken) in inr (is, required _ _ _ p.0, not-true _ (required _ _ _ p.1))

-- ---- parts that may be absent

fragment_is : (subdirectory : Option (List ℕ)) → where_there subdirectory_check subdirectory ≡ Ok tt → IsFragment (fragment subdirectory)
fragment_is None taken = inl refl
fragment_is (Some path) taken = inr (path, subdirectory_is path taken, refl)

sub_is : (sub : Option (List ℕ)) → where_there subdirectory_check sub ≡ Ok tt → IsSub sub
sub_is None taken = tt
sub_is (Some path) taken = subdirectory_is path taken

-- the hash that is written of these
abbrev best_of : (sha256 sha384 sha512 : Option (List ℕ)) → Option (List ℕ × ℕ × List ℕ)
best_of sha256 sha384 sha512 =
    either (option_map (λ value. (codes "sha256", 64, value)) sha256)
    (either (option_map (λ value. (codes "sha384", 96, value)) sha384) (option_map (λ value. (codes "sha512", 128, value)) sha512))

hashes_are : (hashes : List (List ℕ × List ℕ)) → hashes_check hashes ≡ Ok tt → IsHashOption (hashes_option hashes)
hashes_are hashes = by (hash_of (codes "sha256") hashes) (hash_of (codes "sha384") hashes) (hash_of (codes "sha512") hashes)
  where
    by : (a b c : Option (List ℕ)) → option_map_or (λ hash. hash_check hash.1 hash.2) (best_of a b c) (Err (missing field.Hash)) ≡ Ok tt
        → IsHashOption (option_map_or hash_option (best_of a b c) [])
    by (Some value) b c taken = option_sha256 value (hash_is 64 value taken)
    by None (Some value) c taken = option_sha384 value (hash_is 96 value taken)
    by None None (Some value) taken = option_sha512 value (hash_is 128 value taken)
    by None None None taken = cc taken

-- ---- lines of requirements

url_place : (url : List ℕ) → IsWebUrl class.PipUrl url ⊎ IsFileUrl url → EndsInFile url → IsPlace url
url_place url (inl web) ends = inl (web, ends)
url_place url (inr file) ends = inr (inl (file, ends))

-- what is to be a file name
abbrev end_of : (url path : Option (List ℕ)) → List ℕ
end_of url path = unwrap_or (last_part url path) []

located_line : (name : List ℕ) (url path subdirectory : Option (List ℕ)) (hash : List ℕ) → IsName name
    → place_check url path (last_part url path) ≡ Ok tt → where_there subdirectory_check subdirectory ≡ Ok tt → IsHashOption hash
    → IsLine format.Requirements (location_text name url path subdirectory ++ hash)
located_line name (Some url) path subdirectory hash is_name taken inner is =
    let p = both _ _ taken in
    place_line name url (fragment subdirectory) hash is_name (url_place url (any_url_is url p.0) (file_name_is field.UrlEnd (end_of (Some url) path) p.1)) (fragment_is subdirectory inner) is
located_line name None None subdirectory hash is_name taken inner is = cc taken
located_line name None (Some path) subdirectory hash is_name taken inner is =
    let p = both _ _ taken in
    by (path_is path p.0, file_name_is field.PathEnd (end_of None (Some path)) p.1) (starts is_slash path) refl
  where
    by : IsFilePath path → (slash : Bool) → starts is_slash path ≡ slash → IsLine format.Requirements
        (cond (not slash) (codes "./" ++ path) (named name ++ (codes "file://" ++ path) ++ fragment subdirectory) ++ hash)
    by own true slash = place_line name (codes "file://" ++ path) (fragment subdirectory) hash is_name (inr (inr (path, own, slash, refl))) (fragment_is subdirectory inner) is
    by own false slash = path_line path hash own is

checkout_is : (name : List ℕ) (vcs : VcsValue) → IsName name → vcs_check vcs ≡ Ok tt → IsLine format.RequirementsLocal (vcs_line name vcs)
checkout_is name vcs is_name taken =
    let three = both _ _ taken in
    let two = both _ _ three.0 in
    let one = both _ _ two.0 in
    checkout_line name vcs.kind (unwrap_or vcs.location.url []) vcs.commit_id (fragment vcs.subdirectory) is_name (required _ _ _ one.0)
    (checkout_url_is (unwrap_or vcs.location.url []) (is_there field.Url checkout_url_check vcs.location.url one.1)) (commit_is vcs.kind vcs.commit_id two.1) (fragment_is vcs.subdirectory three.1)

directory_is : (directory : DirectoryValue) → directory_check directory ≡ Ok tt → IsLine format.RequirementsLocal (source_line [] (OfDirectory directory))
directory_is directory taken =
    let three = both _ _ taken in
    let two = both _ _ three.0 in
    let one = both _ _ two.0 in
    directory_line (cond directory.editable (codes "-e ") []) directory.path directory.subdirectory
    (record { is_path = directory_path_is directory.path one.0; is_sub = sub_is directory.subdirectory one.1; is_joined = required _ _ _ two.1; is_taken = by directory.editable (required _ _ _ three.1) })
  where
    by : (editable : Bool) → (editable || not (ends_as_file (directory_end directory))) ≡ true
        → (cond editable (codes "-e ") [] ≡ codes "-e ") ⊎ ((cond editable (codes "-e ") [] ≡ []) × (ends_as_file (directory_end directory) ≡ false))
    by true is = inl refl
    by false is = inr (refl, not-true _ is)

hashed_is : (name : List ℕ) (source : SourceValue) (project : Option (List ℕ)) → IsName name
    → hashed_check name source (last_part (source_location source).url (source_location source).path) project ≡ Ok tt → IsLine format.Requirements (hashed_line name source)
hashed_is name source project is_name taken =
    let four = both _ _ taken in
    let three = both _ _ four.0 in
    let two = both _ _ three.0 in
    let one = both _ _ two.0 in
    located_line name (source_location source).url (source_location source).path (source_subdirectory source) (hashes_option (source_hashes source)) is_name
    one.0 (both _ _ one.1).0 (hashes_are (source_hashes source) two.1)

-- the form that has a line of a source
abbrev form_of : PlanPart → PlanFormat
form_of Hashed = format.Requirements
form_of Local = format.RequirementsLocal

source_is : (part : PlanPart) (name : List ℕ) (source : SourceValue) (project : Option (List ℕ)) → is_in part source ≡ true → IsName name
    → source_check name source (last_of source) project ≡ Ok tt → IsLine (form_of part) (source_line name source)
source_is Hashed name (OfVcs vcs) project has is_name taken = cc has
source_is Hashed name (OfDirectory directory) project has is_name taken = cc has
source_is Hashed name (OfArchive archive) project has is_name taken = hashed_is name (OfArchive archive) project is_name taken
source_is Hashed name (OfWheel file) project has is_name taken = hashed_is name (OfWheel file) project is_name taken
source_is Hashed name (OfSdist file) project has is_name taken = hashed_is name (OfSdist file) project is_name taken
source_is Local name (OfVcs vcs) project has is_name taken = checkout_is name vcs is_name taken
source_is Local name (OfDirectory directory) project has is_name taken = directory_is directory taken
source_is Local name (OfArchive archive) project has is_name taken = cc has
source_is Local name (OfWheel file) project has is_name taken = cc has
source_is Local name (OfSdist file) project has is_name taken = cc has

requirement_is : (part : PlanPart) (s : ListedValue) → is_in part s.source ≡ true → requirement_check s ≡ Ok tt → IsLine (form_of part) (requirement_line s)
requirement_is part s has taken =
    let p = both _ _ (numbered s.number (parts_check s) taken) in
    source_is part s.entry.name s.source (project_of s.source) has (name_is s.entry.name p.0) p.1

abbrev Taken : List ListedValue → Type 0
Taken sources = AllByRecursion (λ s. requirement_check s ≡ Ok tt) sources

all_taken : (sources : List ListedValue) → requirements_check sources ≡ Ok tt → Taken sources
all_taken [] taken = tt
all_taken (s ∷ rest) taken = let p = both _ _ taken in (p.0, all_taken rest p.1)

-- the line of each source is as it has to be
requirements_are : (part : PlanPart) (sources : List ListedValue) → Taken (part_of part sources) → AllByRecursion (IsLine (form_of part)) (map requirement_line (part_of part sources))
requirements_are part [] taken = tt
requirements_are part (s ∷ rest) taken = by (is_in part s.source) refl (requirements_are part rest) taken
  where
    by : (b : Bool) → is_in part s.source ≡ b → (Taken (part_of part rest) → AllByRecursion (IsLine (form_of part)) (map requirement_line (part_of part rest)))
        → Taken (cond b (s ∷ part_of part rest) (part_of part rest)) → AllByRecursion (IsLine (form_of part)) (map requirement_line (cond b (s ∷ part_of part rest) (part_of part rest)))
    by true has more taken = (requirement_is part s has taken.0, more taken.1)
    by false has more taken = more taken

-- ---- lines of lists

abbrev AreTaken : FileFormat → List ListedValue → Type 0
AreTaken form kept = AllByRecursion (λ s. list_check form s.source ≡ Ok tt) kept

itself : (form : FileFormat) (sources : List ListedValue) → AllByRecursion (λ s. list_check form s.source ≡ Ok tt → list_check form s.source ≡ Ok tt) sources
itself form [] = tt
itself form (s ∷ sources) = (λ is. is, itself form sources)

all_kept : (form : FileFormat) (sources all : List ListedValue) → with_sources form [] sources ≡ Ok all → AreTaken form all
all_kept form sources all made = all_from (λ s. list_check form s.source ≡ Ok tt) form sources [] all tt (itself form sources) made

abbrev AreLines : FileFormat → List (List ℕ) → Type 0
AreLines form lines = AllByRecursion (IsLine (format.Files form)) lines

-- the name of a file that has this path alone, or else this file name
abbrev named_by : (path name : Option (List ℕ)) → List ℕ
named_by path name = unwrap_or (option_map_or (λ path. Some path) path name) []

sum_name_is : (path name : Option (List ℕ)) → sum_name_check path (named_by path name) ≡ Ok tt → IsSumName (sum_name path (named_by path name))
sum_name_is None name taken = inl (file_name_is field.FileName (unwrap_or name []) taken)
sum_name_is (Some path) name taken = inr (path, path_is path taken, refl)

sum_is : (source : SourceValue) → own_sum_check source ≡ Ok tt → IsHash 64 (unwrap_or (sha256_of source) [])
sum_is source taken = hash_is 64 (unwrap_or (sha256_of source) []) (is_there field.Hash (hash_check 64) (sha256_of source) taken)

fetched_is : (url : Option (List ℕ)) → fetched_check url (last_part url None) ≡ Ok tt → IsFetchedUrl (unwrap_or url [])
fetched_is None taken = cc taken
fetched_is (Some url) taken = let p = both _ _ taken in (web_url_is class.Url url p.0, file_name_is field.UrlEnd (end_of (Some url) None) p.1)

lines_are : (form : FileFormat) (source : SourceValue) → list_check form source ≡ Ok tt → AreLines form (source_lines form source)
lines_are Sha256sum source taken =
    let p = both _ _ taken in
    (sum_line (value_of Sha256sum source) (sum_name (path_alone source) (key_of Sha256sum source)) (sum_is source p.1) (sum_name_is (path_alone source) (file_name_of_source source) p.0), tt)
lines_are Aria2 source taken =
    let two = both _ _ taken in
    let one = both _ _ two.0 in
    let name = both _ _ one.0 in (
      aria2_url (unwrap_or (url_of source) []) (fetched_is (url_of source) two.1),
      (
        aria2_file (key_of Aria2 source) (file_name_is field.FileName (key_of Aria2 source) name.0) (not-true (is_control_file (key_of Aria2 source)) (required _ _ _ name.1)),
        (aria2_hash (value_of Aria2 source) (sum_is source one.1), (aria2_torrent, (aria2_metalink, (aria2_renaming, tt)))),
      ),
    )
lines_are Urls source taken = (url_line (key_of Urls source) (fetched_is (url_of source) taken), tt)

joined : (form : FileFormat) (a b : List (List ℕ)) → AreLines form a → AreLines form b → AreLines form (a ++ b)
joined form [] b are others = others
joined form (x ∷ a) b are others = (are.0, joined form a b are.1 others)

kept_lines : (form : FileFormat) (kept : List ListedValue) → AreTaken form kept → AreLines form (flat_map (λ s. source_lines form s.source) kept)
kept_lines form [] are = tt
kept_lines form (s ∷ kept) are = joined form (source_lines form s.source) _ (lines_are form s.source are.0) (kept_lines form kept are.1)

-- ---- the laws

header_is : (part : PlanPart) → IsLine (form_of part) header
header_is Hashed = header_line
header_is Local = local_header_line

pub allowed_part : (part : PlanPart) (sources : List ListedValue) (lines : List (List ℕ)) → requirements_lines part sources ≡ Ok lines → All (IsLine (form_of part)) lines
allowed_part part sources lines made = by (requirements_check (part_of part sources)) refl made
  where
    by : (r : Result ⊤ ExportError) → requirements_check (part_of part sources) ≡ r → (r >>= (λ _. Ok (header ∷ map requirement_line (part_of part sources)))) ≡ Ok lines
        → All (IsLine (form_of part)) lines
    by (Err e) is made = cc made
    by (Ok u) is made =
        let same : header ∷ map requirement_line (part_of part sources) ≡ lines = cc made in
        subst (All (IsLine (form_of part))) same (All-from_recursion (IsLine (form_of part)) (header ∷ map requirement_line (part_of part sources)) (header_is part, requirements_are part sources (all_taken (part_of part sources) is)))

pub allowed_lines : (form : PlanFormat) (sources : List ListedValue) (lines : List (List ℕ)) → format_lines form sources ≡ Ok lines → All (IsLine form) lines
allowed_lines format.Requirements sources lines made = allowed_part Hashed sources lines made
allowed_lines format.RequirementsLocal sources lines made = allowed_part Local sources lines made
allowed_lines (format.Files form) sources lines made = by (with_sources form [] sources) refl made
  where
    by : (r : Result (List ListedValue) ExportError) → with_sources form [] sources ≡ r
        → (r >>= (λ kept. Ok (flat_map (λ s. source_lines form s.source) kept))) ≡ Ok lines → All (IsLine (format.Files form)) lines
    by (Err e) is made = cc made
    by (Ok kept) is made =
        let same : flat_map (λ s. source_lines form s.source) kept ≡ lines = cc made in
        subst (All (IsLine (format.Files form))) same
        (All-from_recursion (IsLine (format.Files form)) _ (kept_lines form kept (all_kept form sources kept is)))

pub requirement_each : (part : PlanPart) (sources : List ListedValue) (lines : List (List ℕ)) → requirements_lines part sources ≡ Ok lines
    → lines ≡ header ∷ map requirement_line (part_of part sources)
requirement_each part sources lines made = by (requirements_check (part_of part sources)) made
  where
    by : (r : Result ⊤ ExportError) → (r >>= (λ _. Ok (header ∷ map requirement_line (part_of part sources)))) ≡ Ok lines
        → lines ≡ header ∷ map requirement_line (part_of part sources)
    by (Err e) made = cc made
    by (Ok u) made = cc made
