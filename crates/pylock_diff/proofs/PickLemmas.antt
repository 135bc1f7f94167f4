-- The codes of a pick tell its fields, and its fields tell them.
use Rattle.std.proofs.Common.{Ordering, Less, Equal, Greater, ◌≡◌, ◌∙◌, ◌++◌, ℕ, Bool, true, false, cond, codes, length, List, [], ◌∷◌, None, Option, Some, option_map, unwrap_or, refl, sym, ap, arith}
use Rattle.std.specs.Cmp.Lexicographic.{nat_list_cmp_total, slice_cmp}
use Rattle.std.specs.FinMap.{entries, empty, insert, entries-insert, len-empty, len-entries}
use Rattle.std.specs.FinMap.Entries.{by_order, put as put_entry}
use Rattle.std.specs.Option.{option_map_or}
use Rattle.std.specs.Ordering.{match_ordering, nat_cmp}
use Rattle.std.specs.Str.{bytes_eq}
use Rattle.toml.specs.Data.{Members, get_member, member, no_members, same_key, string, table}
use Rattle.pytoml.proofs.Others.{same_is, with_member-other, with_member-there}
use Rattle.pytoml.specs.Members.{with_member}
use Rattle.pytoml_code.proofs.CodeLemmas.{equal_codes}
use Rattle.pytoml_code.specs.Code.{code}
use Rattle.pytoml_code.specs.Proper.{HasProper}
use Rattle.pylock_readers.specs.Entry.{FileValue, LocationValue}
use Rattle.pylock_core.specs.Session.Picks.{SourceValue, OfVcs, OfDirectory, OfArchive, OfWheel, OfSdist, is_unhashed, source_commit_id, source_file_name, source_hashes, source_location, source_subdirectory, source_vcs_kind, source_word}
use Rattle.pylock_diff.specs.Codes.{Rows}
use Rattle.pylock_diff.specs.Picks.{hash_members, put, put_all, put_hashes, source_members, source_row, text_members, text_rows, version_row}
use Rattle.pylock_diff.specs.SamePlan.{HashMap, by_algorithm, source_fields, with_hashes}
use Rattle.pylock_diff.proofs.MemberLemmas.{proper_with}

-- ---- hashes

abbrev members_of : List (List ℕ × List ℕ) → Members
members_of [] = no_members
members_of (hash ∷ hashes) = member hash.0 (string hash.1) (members_of hashes)

put_by : (o : Ordering) (k l v w : List ℕ) (es rest : List (List ℕ × List ℕ)) (ms : Members) → members_of rest ≡ ms
    → members_of (by_order o ((k, v) ∷ (l, w) ∷ es) ((l, v) ∷ es) ((l, w) ∷ rest))
    ≡ match_ordering o (member k (string v) (member l (string w) (members_of es))) (member l (string v) (members_of es)) (member l (string w) ms)
put_by Less k l v w es rest ms same = refl
put_by Equal k l v w es rest ms same = refl
put_by Greater k l v w es rest ms same = ap (member l (string w)) same

put_seen : (k v : List ℕ) (es : List (List ℕ × List ℕ)) → members_of (put_entry (slice_cmp nat_cmp) k v es) ≡ with_member k (string v) (members_of es)
put_seen k v [] = refl
put_seen k v (e ∷ es) = put_by (slice_cmp nat_cmp k e.0) k e.0 v e.1 es _ _ (put_seen k v es)

hashes_from : (hashes : List (List ℕ × List ℕ)) (m : HashMap) → hash_members hashes (members_of (entries m)) ≡ members_of (entries (with_hashes hashes m))
hashes_from [] m = refl
hashes_from (hash ∷ hashes) m =
    ap (hash_members hashes) (sym (put_seen hash.0 hash.1 (entries m)) ∙ ap members_of (sym (entries-insert nat_list_cmp_total m hash.0 hash.1)))
    ∙ hashes_from hashes (insert m hash.0 hash.1)

none_left : (es : List (List ℕ × List ℕ)) → length es ≡ 0 → es ≡ []
none_left [] none = refl
none_left (e ∷ es) none = absurd (omega arith)

none_at_first : entries {R = slice_cmp nat_cmp} (empty {X = List ℕ}) ≡ []
none_at_first = none_left _ (sym (len-entries (empty {X = List ℕ} {R = slice_cmp nat_cmp})) ∙ len-empty (slice_cmp nat_cmp) (List ℕ))

pub hashes_seen : (hashes : List (List ℕ × List ℕ)) → hash_members hashes no_members ≡ members_of (by_algorithm hashes)
hashes_seen hashes = ap (λ es. hash_members hashes (members_of es)) (sym none_at_first) ∙ hashes_from hashes empty

members_exact : (xs ys : List (List ℕ × List ℕ)) → members_of xs ≡ members_of ys → xs ≡ ys
members_exact [] [] same = refl
members_exact [] (y ∷ ys) same = absurd cc
members_exact (x ∷ xs) [] same = absurd cc
members_exact (x ∷ xs) (y ∷ ys) same =
    let key : x.0 ≡ y.0 = cc in
    let text : x.1 ≡ y.1 = cc in
    let more : members_of xs ≡ members_of ys = cc in
    λ i. (key i, text i) ∷ members_exact xs ys more i

hashes_exact : (xs ys : List (List ℕ × List ℕ)) → hash_members xs no_members ≡ hash_members ys no_members → by_algorithm xs ≡ by_algorithm ys
hashes_exact xs ys same = members_exact (by_algorithm xs) (by_algorithm ys) (sym (hashes_seen xs) ∙ same ∙ hashes_seen ys)

-- ---- texts that may be there

-- the text at a key, by the rows that are put in
abbrev text_at : List ℕ → List (List ℕ × Option (List ℕ)) → Option (List ℕ)
text_at key [] = None
text_at key (row ∷ rows) = cond (same_key key row.0) (option_map_or Some row.1 (text_at key rows)) (text_at key rows)

at_put : (key k : List ℕ) (text : Option (List ℕ)) (ms : Members)
    → get_member key (put k text ms) ≡ cond (same_key key k) (option_map_or (λ t. Some (string t)) text (get_member key ms)) (get_member key ms)
at_put key k None ms = by (same_key key k)
  where
    by : (b : Bool) → get_member key ms ≡ cond b (get_member key ms) (get_member key ms)
    by true = refl
    by false = refl
at_put key k (Some t) ms = by (same_key key k) refl
  where
    by : (b : Bool) → same_key key k ≡ b → get_member key (with_member k (string t) ms) ≡ cond b (Some (string t)) (get_member key ms)
    by true is = ap (λ key. get_member key (with_member k (string t) ms)) (same_is key k is) ∙ with_member-there k (string t) ms
    by false is = with_member-other key k (string t) ms is

at_all : (key : List ℕ) (rows : List (List ℕ × Option (List ℕ))) → get_member key (put_all rows) ≡ option_map string (text_at key rows)
at_all key [] = refl
at_all key (row ∷ rows) =
    at_put key row.0 row.1 (put_all rows)
    ∙ ap (λ rest. cond (same_key key row.0) (option_map_or (λ t. Some (string t)) row.1 rest) rest) (at_all key rows)
    ∙ by (same_key key row.0) row.1 (text_at key rows)
  where
    by : (b : Bool) (text rest : Option (List ℕ)) → cond b (option_map_or (λ t. Some (string t)) text (option_map string rest)) (option_map string rest)
        ≡ option_map string (cond b (option_map_or Some text rest) rest)
    by true None rest = refl
    by true (Some t) rest = refl
    by false text rest = refl

text_exact : (x y : Option (List ℕ)) → option_map string x ≡ option_map string y → x ≡ y
text_exact None None same = refl
text_exact None (Some y) same = absurd cc
text_exact (Some x) None same = absurd cc
text_exact (Some x) (Some y) same = let text : x ≡ y = cc in ap Some text

string_exact : (x y : List ℕ) → Some (string x) ≡ Some (string y) → x ≡ y
string_exact x y same = cc

table_exact : (ms ns : Members) → Some (table ms) ≡ Some (table ns) → ms ≡ ns
table_exact ms ns same = cc

-- ---- sources

-- the hashes of a source that has some, and its other keys
hashed_other : (key : List ℕ) (s : SourceValue) → same_key key (codes "hashes") ≡ false → get_member key (source_members s) ≡ option_map string (text_at key (text_rows s))
hashed_other key s apart = by (is_unhashed s) ∙ at_all key (text_rows s)
  where
    by : (b : Bool) → get_member key (cond b (text_members s) (put_hashes (source_hashes s) (text_members s))) ≡ get_member key (text_members s)
    by true = refl
    by false = with_member-other key (codes "hashes") (table (hash_members (source_hashes s) no_members)) (text_members s) apart

hashed_there : (s : SourceValue) → get_member (codes "hashes") (source_members s) ≡ cond (is_unhashed s) None (Some (table (hash_members (source_hashes s) no_members)))
hashed_there s = by (is_unhashed s)
  where
    by : (b : Bool) → get_member (codes "hashes") (cond b (text_members s) (put_hashes (source_hashes s) (text_members s)))
        ≡ cond b None (Some (table (hash_members (source_hashes s) no_members)))
    by true = at_all (codes "hashes") (text_rows s)
    by false = with_member-there (codes "hashes") (table (hash_members (source_hashes s) no_members)) (text_members s)

abbrev hashes_by : Bool → List (List ℕ × List ℕ) → List (List ℕ × List ℕ)
hashes_by unhashed hashes = cond unhashed [] (by_algorithm hashes)

-- two sources with the same members have the same text at a key, and the same hashes
same_at : (key : List ℕ) (part : SourceValue → Option (List ℕ)) → ((s : SourceValue) → option_map_or Some (part s) None ≡ text_at key (text_rows s))
    → same_key key (codes "hashes") ≡ false → (s t : SourceValue) → source_members s ≡ source_members t → part s ≡ part t
same_at key part at apart s t same =
    let text = text_exact _ _ (sym (hashed_other key s apart) ∙ ap (get_member key) same ∙ hashed_other key t apart) in
    sym (kept (part s)) ∙ at s ∙ text ∙ sym (at t) ∙ kept (part t)
  where
    kept : (text : Option (List ℕ)) → option_map_or Some text None ≡ text
    kept None = refl
    kept (Some t) = refl

same_hashes : (s t : SourceValue) → source_members s ≡ source_members t → hashes_by (is_unhashed s) (source_hashes s) ≡ hashes_by (is_unhashed t) (source_hashes t)
same_hashes s t same =
    by (is_unhashed s) (is_unhashed t) (source_hashes s) (source_hashes t) (sym (hashed_there s) ∙ ap (get_member (codes "hashes")) same ∙ hashed_there t)
  where
    by : (b c : Bool) (xs ys : List (List ℕ × List ℕ))
        → cond b None (Some (table (hash_members xs no_members))) ≡ cond c None (Some (table (hash_members ys no_members))) → hashes_by b xs ≡ hashes_by c ys
    by true true xs ys same = refl
    by true false xs ys same = absurd cc
    by false true xs ys same = absurd cc
    by false false xs ys same = hashes_exact xs ys (table_exact _ _ same)

-- a source is what its kind, its texts and its hashes tell
abbrev told : (word : List ℕ) (kind commit name url path inside : Option (List ℕ)) → List (List ℕ × List ℕ) → SourceValue
told word kind commit name url path inside hashes =
    let location : LocationValue = record { url = url; path = path } in
    let file : FileValue = record { name = name; location = location; hashes = hashes } in
    cond (bytes_eq word (codes "vcs")) (OfVcs (record { kind = unwrap_or kind []; commit_id = unwrap_or commit []; location = location; subdirectory = inside }))
    (cond (bytes_eq word (codes "archive")) (OfArchive (record { location = location; hashes = hashes; subdirectory = inside }))
    (cond (bytes_eq word (codes "wheel")) (OfWheel file)
    (cond (bytes_eq word (codes "sdist")) (OfSdist file)
    (OfDirectory (record { path = unwrap_or path []; editable = bytes_eq word (codes "editable"); subdirectory = inside })))))

fields_told : (s : SourceValue) → source_fields s ≡ told (source_word s) (source_vcs_kind s) (source_commit_id s) (source_file_name s)
    (source_location s).url (source_location s).path (source_subdirectory s) (hashes_by (is_unhashed s) (source_hashes s))
fields_told (OfVcs vcs) = refl
fields_told (OfDirectory directory) = by directory.editable
  where
    by : (b : Bool) → OfDirectory (record directory { editable = b })
        ≡ told (cond b (codes "editable") (codes "directory")) None None None None (Some directory.path) directory.subdirectory []
    by true = refl
    by false = refl
fields_told (OfArchive archive) = refl
fields_told (OfWheel file) = refl
fields_told (OfSdist file) = refl

source_exact : (s t : SourceValue) → source_word s ≡ source_word t → source_members s ≡ source_members t → source_fields s ≡ source_fields t
source_exact s t word same =
    let kind = same_at (codes "type") source_vcs_kind (λ s. refl) refl s t same in
    let commit = same_at (codes "commit-id") source_commit_id (λ s. refl) refl s t same in
    let name = same_at (codes "name") source_file_name (λ s. refl) refl s t same in
    let url = same_at (codes "url") (λ s. (source_location s).url) (λ s. refl) refl s t same in
    let path = same_at (codes "path") (λ s. (source_location s).path) (λ s. refl) refl s t same in
    let inside = same_at (codes "subdirectory") source_subdirectory (λ s. refl) refl s t same in
    fields_told s
    ∙ (λ i. told (word i) (kind i) (commit i) (name i) (url i) (path i) (inside i) (same_hashes s t same i))
    ∙ sym (fields_told t)

-- ---- the values stand in memory

proper_put : (key : List ℕ) (text : Option (List ℕ)) (ms : Members) → HasProper ms → HasProper (put key text ms)
proper_put key None ms all = all
proper_put key (Some t) ms all = proper_with key (string t) ms tt all

proper_all : (rows : List (List ℕ × Option (List ℕ))) → HasProper (put_all rows)
proper_all [] = tt
proper_all (row ∷ rows) = proper_put row.0 row.1 (put_all rows) (proper_all rows)

proper_hash : (hashes : List (List ℕ × List ℕ)) (ms : Members) → HasProper ms → HasProper (hash_members hashes ms)
proper_hash [] ms all = all
proper_hash (hash ∷ hashes) ms all = proper_hash hashes (with_member hash.0 (string hash.1) ms) (proper_with hash.0 (string hash.1) ms tt all)

proper_hashes : (hashes : List (List ℕ × List ℕ)) (ms : Members) → HasProper ms → HasProper (put_hashes hashes ms)
proper_hashes hashes ms all = proper_with (codes "hashes") (table (hash_members hashes no_members)) ms (proper_hash hashes no_members tt) all

proper_source : (s : SourceValue) → HasProper (source_members s)
proper_source s = by (is_unhashed s)
  where
    by : (b : Bool) → HasProper (cond b (text_members s) (put_hashes (source_hashes s) (text_members s)))
    by true = proper_all (text_rows s)
    by false = proper_hashes (source_hashes s) (text_members s) (proper_all (text_rows s))

-- ---- picks

one_row : (s t : SourceValue) → source_row s ≡ source_row t → source_fields s ≡ source_fields t
one_row s t same =
    let row : ◌≡◌ {A = List ℕ × List ℕ} (source_word s, code (table (source_members s))) (source_word t, code (table (source_members t))) = cc in
    let kind : source_word s ≡ source_word t = ap (λ (r : List ℕ × List ℕ). r.0) row in
    let value : code (table (source_members s)) ≡ code (table (source_members t)) = ap (λ (r : List ℕ × List ℕ). r.1) row in
    let tables : table (source_members s) ≡ table (source_members t) = equal_codes (table (source_members s)) (table (source_members t)) (proper_source s) (proper_source t) value in
    source_exact s t kind (table_exact (source_members s) (source_members t) (ap Some tables))

pub fields_exact : (v w : Option (List ℕ)) (s t : SourceValue) → version_row v ++ source_row s ≡ version_row w ++ source_row t → (v ≡ w) × (source_fields s ≡ source_fields t)
fields_exact None None s t same = (refl, one_row s t same)
fields_exact None (Some w) s t same = absurd cc
fields_exact (Some v) None s t same = absurd cc
fields_exact (Some v) (Some w) s t same =
    let row : ◌≡◌ {A = List ℕ × List ℕ} (codes "version", code (string v)) (codes "version", code (string w)) = cc in
    let more : source_row s ≡ source_row t = cc in
    let value : code (string v) ≡ code (string w) = ap (λ (r : List ℕ × List ℕ). r.1) row in
    (ap Some (string_exact v w (ap Some (equal_codes (string v) (string w) tt tt value))), one_row s t more)

-- a source as its fields make it
abbrev with_table : List (List ℕ × List ℕ) → Members → Members
with_table hashes = with_member (codes "hashes") (table (members_of hashes))

abbrev fields_text : Option (List ℕ) → SourceValue → Members
fields_text name s =
    put_all ((codes "type", source_vcs_kind s) ∷ (codes "commit-id", source_commit_id s) ∷ (codes "name", name)
    ∷ (codes "url", (source_location s).url) ∷ (codes "path", (source_location s).path) ∷ (codes "subdirectory", source_subdirectory s) ∷ [])

abbrev fields_members : SourceValue → Members
fields_members (OfVcs vcs) = text_members (OfVcs vcs)
fields_members (OfDirectory directory) = text_members (OfDirectory directory)
fields_members (OfArchive archive) = with_table archive.hashes (text_members (OfArchive archive))
fields_members (OfWheel file) = with_table file.hashes (fields_text file.name (OfWheel file))
fields_members (OfSdist file) = with_table file.hashes (fields_text file.name (OfSdist file))

abbrev pub fields_row : SourceValue → Rows
fields_row source = (source_word source, code (table (fields_members source))) ∷ []

with_seen : (hashes : List (List ℕ × List ℕ)) (ms : Members) → put_hashes hashes ms ≡ with_table (by_algorithm hashes) ms
with_seen hashes ms = ap (λ inner. with_member (codes "hashes") (table inner) ms) (hashes_seen hashes)

pub row_seen : (source : SourceValue) → source_row source ≡ fields_row (source_fields source)
row_seen (OfVcs vcs) = refl
row_seen (OfDirectory directory) = refl
row_seen (OfArchive archive) = ap (λ ms. (codes "archive", code (table ms)) ∷ []) (with_seen archive.hashes (text_members (OfArchive archive)))
row_seen (OfWheel file) = ap (λ ms. (codes "wheel", code (table ms)) ∷ []) (with_seen file.hashes (text_members (OfWheel file)))
row_seen (OfSdist file) = ap (λ ms. (codes "sdist", code (table ms)) ∷ []) (with_seen file.hashes (text_members (OfSdist file)))
