-- What is found in a line of a requirements file.
use Rattle.std.proofs.Common.{◌≡◌, ◌∙◌, ◌⊎◌, inl, inr, ℕ, Bool, true, false, not, ◌==◌, ◌||◌, cond, codes, List, [], ◌∷◌, ◌++◌, Option, Some, None, Ok, refl, sym, ap, append_assoc, subst}
use Rattle.std.proofs.lemmas.Bool.{and_parts, eqb-true, not-true}
use Rattle.std.proofs.lemmas.List.Elements.{All-from_recursion, recursion_from_All}
use Rattle.std.specs.Prelude.{⊤}
use Rattle.std.specs.Cmp.Lexicographic.{bytes_decides}
use Rattle.std.specs.List.{All, AllByRecursion, before_first, list_all, list_any}
use Rattle.std.specs.Str.{bytes_eq}
use Rattle.pytext.specs.Bytes.{starts}
use Rattle.pylock_readers.specs.Entry.FileName.{is_slash}
use Rattle.pylock_exports.specs.Class.{allows}
use Rattle.pylock_exports.specs.Line.{IsCheckoutUrl, IsCommit, IsDirectory, IsFragment, IsHashOption, IsHost, IsLine, IsName, IsOf, IsPlace, IsPlainPath, IsSub, IsSubdirectory, IsWebScheme, IsWebUrl, folder, option_sha256, option_sha384, option_sha512, sum_line, aria2_url, aria2_file, aria2_hash, aria2_torrent, aria2_metalink, aria2_renaming, url_line, header_line, place_line, path_line, local_header_line, checkout_line, directory_line}
use Rattle.pylock_exports.specs.Listed.{ListedValue}
use Rattle.pylock_exports.specs.Parts.{is_kind}
use Rattle.pylock_exports.specs.Pip.{Finds, IsAuthority, IsPlainUrl, Lacks, ReadsPlainly, ends_authority, sought}
use Rattle.pylock_exports.specs.Requirements.{header, named, path_text}
use Rattle.pylock_exports.specs.Texts.{format_lines}
use Rattle.pylock_exports.specs.declared.class.Class.{Class}
use Rattle.pylock_exports.specs.declared.class.Class.TheVariants as class
use Rattle.pylock_command.specs.declared.form.PlanFormat.{PlanFormat}
use Rattle.pylock_command.specs.declared.form.PlanFormat.TheVariants as format
use Rattle.pylock_exports.proofs.LineLemmas.{allowed_lines}
use Rattle.pylock_exports.proofs.SplitLemmas.{apart, before_found, fails_both, joined_five, lacking, last_behind, last_or, never_cut, no_such, one_cut, only_cut}

-- ---- hosts

host_ends : (c : ℕ) → allows class.Host c ≡ true → ends_authority c ≡ false
host_ends c is = rw (no_such (allows class.Host) 47 refl c is, no_such (allows class.Host) 63 refl c is, no_such (allows class.Host) 35 refl c is) refl

host_stays : (host : List ℕ) → IsOf class.Host host → list_any ends_authority host ≡ false
host_stays host is = apart (allows class.Host) ends_authority host host_ends is

-- a scheme, a host and what stands behind its `/`
abbrev pub IsRemote : List ℕ → Type 0
IsRemote url = (scheme host tail : List ℕ) × (url ≡ scheme ++ (codes "://" ++ (host ++ (codes "/" ++ tail)))) × Lacks 58 scheme × IsHost host

-- `file://` and a `/`
abbrev pub IsOwn : List ℕ → Type 0
IsOwn url = (tail : List ℕ) × (url ≡ codes "file:///" ++ tail)

remote_host : (url : List ℕ) → IsRemote url → (scheme rest : List ℕ) → Lacks 58 scheme → url ≡ scheme ++ codes "://" ++ rest → IsAuthority scheme rest
remote_host url r scheme rest lacks is =
    let own = r.0 in
    let host = r.1 in
    let tail = r.2 in
    let same : own ++ (58 ∷ (codes "//" ++ (host ++ (codes "/" ++ tail)))) ≡ scheme ++ (58 ∷ (codes "//" ++ rest)) = sym r.3 ∙ is ∙ append_assoc scheme (codes "://") rest in
    let cut = only_cut 58 own (codes "//" ++ (host ++ (codes "/" ++ tail))) scheme (codes "//" ++ rest) r.4 lacks same in
    let behind : rest ≡ host ++ (47 ∷ tail) = cc cut.1 in
    let whole = before_found ends_authority host 47 tail (host_stays host r.5.0) refl in
    let short = before_found is_slash host 47 tail (lacking (allows class.Host) 47 host refl r.5.0) refl in
    record {
      same = ap (before_first ends_authority) behind ∙ whole ∙ sym short ∙ sym (ap (before_first is_slash) behind);
      is_host = inl (subst IsHost (sym (ap (before_first is_slash) behind ∙ short)) r.5);
    }

own_host : (url : List ℕ) → IsOwn url → (scheme rest : List ℕ) → Lacks 58 scheme → url ≡ scheme ++ codes "://" ++ rest → IsAuthority scheme rest
own_host url o scheme rest lacks is =
    let tail = o.0 in
    let same : codes "file" ++ (58 ∷ (codes "///" ++ tail)) ≡ scheme ++ (58 ∷ (codes "//" ++ rest)) = sym o.1 ∙ is ∙ append_assoc scheme (codes "://") rest in
    let cut = only_cut 58 (codes "file") (codes "///" ++ tail) scheme (codes "//" ++ rest) refl lacks same in
    let behind : rest ≡ 47 ∷ tail = cc cut.1 in
    record {
      same = ap (before_first ends_authority) behind ∙ sym (ap (before_first is_slash) behind);
      is_host = inr (cut.0, ap (before_first is_slash) behind);
    }

-- ---- what stands in a URL

-- no `=`, no `&` and no `#`
pub record IsBare (text : List ℕ) : Type 0 where
  pub equals : Lacks 61 text
  pub ampersand : Lacks 38 text
  pub hash : Lacks 35 text

bare_of : (of : Class) (text : List ℕ) → allows of 61 ≡ false → allows of 38 ≡ false → allows of 35 ≡ false → IsOf of text → IsBare text
bare_of of text a b c is = record { equals = lacking (allows of) 61 text a is; ampersand = lacking (allows of) 38 text b is; hash = lacking (allows of) 35 text c is }

bare_both : (a b : List ℕ) → IsBare a → IsBare b → IsBare (a ++ b)
bare_both a b one two =
    record {
      equals = fails_both (λ x. x == 61) a b one.equals two.equals;
      ampersand = fails_both (λ x. x == 38) a b one.ampersand two.ampersand;
      hash = fails_both (λ x. x == 35) a b one.hash two.hash;
    }

sub_bare : (path : List ℕ) → IsSubdirectory path → IsBare path
sub_bare path is = bare_of class.Path path refl refl refl is.0.0.characters

-- what is bare, and then a fragment of ours or none
found_fragment : (base rest : List ℕ) → IsBare base → IsFragment rest → (front back : List ℕ) → base ++ rest ≡ front ++ codes "#" ++ back
    → (path : List ℕ) × IsSubdirectory path × (back ≡ codes "subdirectory=" ++ path)
found_fragment base rest bare (inl none) front back is =
    absurd (never_cut 35 (base ++ rest) front back (fails_both (λ x. x == 35) base rest bare.hash (subst (Lacks 35) (sym none) refl)) (is ∙ append_assoc front (codes "#") back))
found_fragment base rest bare (inr some) front back is =
    let path = some.0 in
    let same : base ++ (35 ∷ (codes "subdirectory=" ++ path)) ≡ front ++ (35 ∷ back) = sym (ap (λ r. base ++ r) some.2) ∙ is ∙ append_assoc front (codes "#") back in
    (path, some.1, (one_cut 35 base (codes "subdirectory=" ++ path) front back bare.hash (fails_both (λ x. x == 35) (codes "subdirectory=") path refl (sub_bare path some.1).hash) same).1)

found_key : (base rest : List ℕ) → IsBare base → IsFragment rest → (front back : List ℕ) → base ++ rest ≡ front ++ codes "=" ++ back
    → (own : List ℕ) × (front ≡ own ++ codes "#subdirectory")
found_key base rest bare (inl none) front back is =
    absurd (never_cut 61 (base ++ rest) front back (fails_both (λ x. x == 61) base rest bare.equals (subst (Lacks 61) (sym none) refl)) (is ∙ append_assoc front (codes "=") back))
found_key base rest bare (inr some) front back is =
    let path = some.0 in
    let same : (base ++ codes "#subdirectory") ++ (61 ∷ path) ≡ front ++ (61 ∷ back) =
    append_assoc base (codes "#subdirectory") (61 ∷ path) ∙ sym (ap (λ r. base ++ r) some.2) ∙ is ∙ append_assoc front (codes "=") back in
    (base, (one_cut 61 (base ++ codes "#subdirectory") path front back (fails_both (λ x. x == 61) base (codes "#subdirectory") bare.equals refl) (sub_bare path some.1).equals same).0)

lacks_ampersand : (base rest : List ℕ) → IsBare base → IsFragment rest → Lacks 38 (base ++ rest)
lacks_ampersand base rest bare (inl none) = fails_both (λ x. x == 38) base rest bare.ampersand (subst (Lacks 38) (sym none) refl)
lacks_ampersand base rest bare (inr some) =
    fails_both (λ x. x == 38) base rest bare.ampersand
    (subst (Lacks 38) (sym some.2) (fails_both (λ x. x == 38) (codes "#subdirectory=") some.0 refl (sub_bare some.0 some.1).ampersand))

-- what ends in another letter than `y` isn't found
not_found : (url : List ℕ) → ((front back : List ℕ) → url ≡ front ++ codes "=" ++ back → (own : List ℕ) × (front ≡ own ++ codes "#subdirectory"))
    → (x : ℕ) (key : List ℕ) → ((last_or x key == 121) ≡ false) → Finds (x ∷ key) url → ⊥
not_found url keys x key other found =
    let front = found.0 in
    let back = found.1 in
    let own = keys (front ++ (x ∷ key)) back found.2 in
    let last : last_or x key ≡ 121 = sym (last_behind 0 front x key) ∙ ap (last_or 0) own.1 ∙ last_behind 0 own.0 35 (codes "subdirectory") in
    cc (sym other ∙ ap (λ c. c == 121) last)

-- a key that ends in another letter
abbrev ends_otherwise : List ℕ → Bool
ends_otherwise [] = false
ends_otherwise (x ∷ key) = not (last_or x key == 121)

none_found : (url : List ℕ) → ((front back : List ℕ) → url ≡ front ++ codes "=" ++ back → (own : List ℕ) × (front ≡ own ++ codes "#subdirectory"))
    → (keys : List (List ℕ)) → list_all ends_otherwise keys ≡ true → AllByRecursion (λ key. Finds key url → ⊥) keys
none_found url found [] all = tt
none_found url found ([] ∷ keys) all = cc all
none_found url found ((x ∷ key) ∷ keys) all =
    let (other, more) = and_parts (not (last_or x key == 121)) (list_all ends_otherwise keys) all in
    (not_found url found x key (not-true (last_or x key == 121) other), none_found url found keys more)

plain_url : (base rest : List ℕ) → IsBare base → IsFragment rest
    → ((scheme rest' : List ℕ) → Lacks 58 scheme → base ++ rest ≡ scheme ++ codes "://" ++ rest' → IsAuthority scheme rest') → IsPlainUrl (base ++ rest)
plain_url base rest bare is host =
    record {
      host = host;
      fragment = found_fragment base rest bare is;
      key = found_key base rest bare is;
      none = All-from_recursion (λ key. Finds key (base ++ rest) → ⊥) sought (none_found (base ++ rest) (found_key base rest bare is) sought refl);
      ampersand = lacks_ampersand base rest bare is;
    }

-- ---- the parts of a line

remote_more : (url more : List ℕ) → IsRemote url → IsRemote (url ++ more)
remote_more url more (scheme, host, tail, whole, lacks, is) = (
  scheme,
  host,
  tail ++ more,
  ap (λ u. u ++ more) whole ∙ append_assoc scheme (codes "://" ++ (host ++ (codes "/" ++ tail))) more
      ∙ ap (λ r. scheme ++ (codes "://" ++ r)) (append_assoc host (codes "/" ++ tail) more),
  lacks,
  is,
)

remote_front : (front url : List ℕ) → Lacks 58 front → IsRemote url → IsRemote (front ++ url)
remote_front front url none (scheme, host, tail, whole, lacks, is) = (
  front ++ scheme,
  host,
  tail,
  ap (λ u. front ++ u) whole ∙ sym (append_assoc front scheme (codes "://" ++ (host ++ (codes "/" ++ tail)))),
  fails_both (λ x. x == 58) front scheme none lacks,
  is,
)

scheme_lacks : (scheme : List ℕ) → IsWebScheme scheme → Lacks 58 scheme
scheme_lacks scheme (inl https) = subst (Lacks 58) (sym https) refl
scheme_lacks scheme (inr http) = subst (Lacks 58) (sym http) refl

web_remote : (of : Class) (url : List ℕ) → IsWebUrl of url → IsRemote url
web_remote of url web = (web.scheme, web.host, web.path, web.whole ∙ joined_five web.scheme (codes "://") web.host (codes "/") web.path, scheme_lacks web.scheme web.is_scheme, web.is_host)

own_more : (url more : List ℕ) → IsOwn url → IsOwn (url ++ more)
own_more url more (tail, whole) = (tail ++ more, ap (λ u. u ++ more) whole)

slashed : (path : List ℕ) → starts is_slash path ≡ true → (tail : List ℕ) × (path ≡ codes "/" ++ tail)
slashed [] is = cc is
slashed (x ∷ tail) is = (tail, ap (λ c. c ∷ tail) (eqb-true x 47 is))

-- a place of a file, its host, and what it lacks
pub record IsFound (base : List ℕ) : Type 0 where
  pub bare : IsBare base
  pub spaceless : Lacks 32 base
  pub place : IsRemote base ⊎ IsOwn base

pip_bare : (url : List ℕ) → IsOf class.PipUrl url → IsBare url
pip_bare url is = bare_of class.PipUrl url refl refl refl is

place_found : (place : List ℕ) → IsPlace place → IsFound place
place_found place (inl (web, ends)) =
    record { bare = pip_bare place web.characters; spaceless = lacking (allows class.PipUrl) 32 place refl web.characters; place = inl (web_remote class.PipUrl place web) }
place_found place (inr (inl (file, ends))) =
    record { bare = pip_bare place file.characters; spaceless = lacking (allows class.PipUrl) 32 place refl file.characters; place = inr (file.path, file.whole) }
place_found place (inr (inr (path, is, slash, whole))) =
    let all = is.0.0.characters in
    let tail = slashed path slash in
    let bare = bare_both (codes "file://") path (record { equals = refl; ampersand = refl; hash = refl }) (bare_of class.Path path refl refl refl all) in
    record {
      bare = subst IsBare (sym whole) bare;
      spaceless = subst (Lacks 32) (sym whole) (fails_both (λ x. x == 32) (codes "file://") path refl (lacking (allows class.Path) 32 path refl all));
      place = inr (tail.0, whole ∙ ap (λ p. codes "file://" ++ p) tail.1);
    }

found_host : (base more : List ℕ) → IsRemote base ⊎ IsOwn base → (scheme rest : List ℕ) → Lacks 58 scheme → base ++ more ≡ scheme ++ codes "://" ++ rest → IsAuthority scheme rest
found_host base more (inl remote) = remote_host (base ++ more) (remote_more base more remote)
found_host base more (inr own) = own_host (base ++ more) (own_more base more own)

found_plain : (base rest : List ℕ) → IsFound base → IsFragment rest → IsPlainUrl (base ++ rest)
found_plain base rest f is = plain_url base rest f.bare is (found_host base rest f.place)

fragment_spaceless : (rest : List ℕ) → IsFragment rest → Lacks 32 rest
fragment_spaceless rest (inl none) = subst (Lacks 32) (sym none) refl
fragment_spaceless rest (inr (path, is, whole)) =
    subst (Lacks 32) (sym whole) (fails_both (λ x. x == 32) (codes "#subdirectory=") path refl (lacking (allows class.Path) 32 path refl is.0.0.characters))

-- ---- checkouts

kind_each : (P : List ℕ → Type 0) → P (codes "git") → P (codes "hg") → P (codes "svn") → P (codes "bzr") → (kind : List ℕ) → is_kind kind ≡ true → P kind
kind_each P git hg svn bzr kind is = by (bytes_eq kind (codes "git")) (bytes_eq kind (codes "hg")) (bytes_eq kind (codes "svn")) (bytes_eq kind (codes "bzr")) refl refl refl refl is
  where
    from : (word : List ℕ) → bytes_eq kind word ≡ true → P word → P kind
    from word same p = subst P (sym ((bytes_decides kind word).0 same)) p

    by : (a b c d : Bool) → bytes_eq kind (codes "git") ≡ a → bytes_eq kind (codes "hg") ≡ b → bytes_eq kind (codes "svn") ≡ c → bytes_eq kind (codes "bzr") ≡ d
        → ((a || b) || c || d) ≡ true → P kind
    by true b c d one two three four is = from (codes "git") one git
    by false true c d one two three four is = from (codes "hg") two hg
    by false false true d one two three four is = from (codes "svn") three svn
    by false false false true one two three four is = from (codes "bzr") four bzr
    by false false false false one two three four is = cc is

commit_found : (kind commit : List ℕ) → IsCommit kind commit → IsBare commit × Lacks 32 commit
commit_found kind commit (inl (hex, is, long)) = (bare_of class.Hex commit refl refl refl is, lacking (allows class.Hex) 32 commit refl is)
commit_found kind commit (inr (other, is, long)) = (bare_of class.Alphanumeric commit refl refl refl is, lacking (allows class.Alphanumeric) 32 commit refl is)

-- a kind and `+`
pub record IsFront (front : List ℕ) : Type 0 where
  pub bare : IsBare front
  pub spaceless : Lacks 32 front
  pub no_colon : Lacks 58 front

front_known : (front : List ℕ) → Lacks 61 front → Lacks 38 front → Lacks 35 front → Lacks 32 front → Lacks 58 front → IsFront front
front_known front a b c d e = record { bare = record { equals = a; ampersand = b; hash = c }; spaceless = d; no_colon = e }

front_of : (kind : List ℕ) → is_kind kind ≡ true → IsFront (kind ++ codes "+")
front_of kind is =
    kind_each (λ kind. IsFront (kind ++ codes "+")) (front_known _ refl refl refl refl refl) (front_known _ refl refl refl refl refl)
    (front_known _ refl refl refl refl refl) (front_known _ refl refl refl refl refl) kind is

checkout_found : (kind url commit : List ℕ) → is_kind kind ≡ true → IsCheckoutUrl url → IsCommit kind commit
    → IsFound ((kind ++ codes "+") ++ ((url ++ codes "@") ++ commit))
checkout_found kind url commit is is_url is_commit =
    let web = is_url.0 in
    let front = front_of kind is in
    let c = commit_found kind commit is_commit in
    let at = bare_both url (codes "@") (pip_bare url web.characters) (record { equals = refl; ampersand = refl; hash = refl }) in
    let spaceless = fails_both (λ x. x == 32) url (codes "@") (lacking (allows class.PipUrl) 32 url refl web.characters) refl in
    record {
      bare = bare_both (kind ++ codes "+") ((url ++ codes "@") ++ commit) front.bare (bare_both (url ++ codes "@") commit at c.0);
      spaceless = fails_both (λ x. x == 32) (kind ++ codes "+") ((url ++ codes "@") ++ commit) front.spaceless
          (fails_both (λ x. x == 32) (url ++ codes "@") commit spaceless c.1);
      place = inl (remote_front (kind ++ codes "+") ((url ++ codes "@") ++ commit) front.no_colon
          (remote_more (url ++ codes "@") commit (remote_more url (codes "@") (web_remote class.PipUrl url web))));
    }

-- ---- the ways to read a line

-- a line that has a name and a URL is read as these alone
read_as : (line name url more : List ℕ) → line ++ codes " " ≡ name ++ (32 ∷ (codes "@ " ++ (url ++ (32 ∷ more)))) → Lacks 32 name → Lacks 32 url
    → IsPlainUrl url → ReadsPlainly line
read_as line name url more whole one two plain n u o r =
    let first : name ++ (32 ∷ (codes "@ " ++ (url ++ (32 ∷ more)))) ≡ n ++ (32 ∷ (codes "@ " ++ (u ++ (32 ∷ o)))) = sym whole ∙ r.whole ∙ joined_five n (codes " @ ") u (codes " ") o in
    let cut = only_cut 32 name (codes "@ " ++ (url ++ (32 ∷ more))) n (codes "@ " ++ (u ++ (32 ∷ o))) one r.one_name first in
    let rest : url ++ (32 ∷ more) ≡ u ++ (32 ∷ o) = cc cut.1 in
    subst IsPlainUrl (sym (only_cut 32 url more u o two r.one_url rest).0) plain

-- a line in which no `@` stands behind the first space has none
read_never : (line word more : List ℕ) → line ++ codes " " ≡ word ++ (32 ∷ more) → Lacks 32 word → starts (λ c. c == 64) more ≡ false → ReadsPlainly line
read_never line word more whole one other n u o r =
    let first : word ++ (32 ∷ more) ≡ n ++ (32 ∷ (codes "@ " ++ (u ++ (32 ∷ o)))) = sym whole ∙ r.whole ∙ joined_five n (codes " @ ") u (codes " ") o in
    let cut = only_cut 32 word more n (codes "@ " ++ (u ++ (32 ∷ o))) one r.one_name first in
    absurd (cc (sym other ∙ ap (starts (λ c. c == 64)) (sym cut.1)))

-- a hash stands behind a space, and begins with `-`
hash_begins : (hash : List ℕ) → IsHashOption hash → (tail : List ℕ) × (hash ≡ codes " -" ++ tail)
hash_begins hash (option_sha256 value is) = (codes "-hash=sha256:" ++ value, refl)
hash_begins hash (option_sha384 value is) = (codes "-hash=sha384:" ++ value, refl)
hash_begins hash (option_sha512 value is) = (codes "-hash=sha512:" ++ value, refl)

name_spaceless : (name : List ℕ) → IsName name → Lacks 32 name
name_spaceless name is = lacking (allows class.Name) 32 name refl is.0

-- a name, a URL, and what stands behind it
named_reads : (name base fragment more : List ℕ) → IsName name → IsFound base → IsFragment fragment
    → (line : List ℕ) → line ++ codes " " ≡ (named name ++ (base ++ fragment)) ++ (32 ∷ more) → ReadsPlainly line
named_reads name base fragment more is_name found is line whole =
    read_as line name (base ++ fragment) more
    (whole ∙ append_assoc (named name) (base ++ fragment) (32 ∷ more) ∙ append_assoc name (codes " @ ") ((base ++ fragment) ++ (32 ∷ more)))
    (name_spaceless name is_name) (fails_both (λ x. x == 32) base fragment found.spaceless (fragment_spaceless fragment is)) (found_plain base fragment found is)

place_reads : (name place fragment hash : List ℕ) → IsName name → IsPlace place → IsFragment fragment → IsHashOption hash → ReadsPlainly ((named name ++ place ++ fragment) ++ hash)
place_reads name place fragment hash is_name is_place is is_hash =
    let h = hash_begins hash is_hash in
    let front = named name ++ place ++ fragment in
    named_reads name place fragment (codes "-" ++ h.0 ++ codes " ") is_name (place_found place is_place) is (front ++ hash)
    (append_assoc front hash (codes " ") ∙ ap (λ t. front ++ (t ++ codes " ")) h.1
    ∙ ap (λ t. t ++ (32 ∷ (codes "-" ++ h.0 ++ codes " "))) (append_assoc (named name) place fragment))

path_reads : (path hash : List ℕ) → IsPlainPath path → IsHashOption hash → ReadsPlainly ((codes "./" ++ path) ++ hash)
path_reads path hash is is_hash =
    let h = hash_begins hash is_hash in
    let front = codes "./" ++ path in
    read_never (front ++ hash) front (codes "-" ++ h.0 ++ codes " ") (append_assoc front hash (codes " ") ∙ ap (λ t. front ++ (t ++ codes " ")) h.1)
    (fails_both (λ x. x == 32) (codes "./") path refl (lacking (allows class.Path) 32 path refl is.characters)) refl

checkout_reads : (name kind url commit fragment : List ℕ) → IsName name → is_kind kind ≡ true → IsCheckoutUrl url → IsCommit kind commit → IsFragment fragment
    → ReadsPlainly (named name ++ (kind ++ codes "+") ++ (url ++ codes "@") ++ commit ++ fragment)
checkout_reads name kind url commit fragment is_name is_kind is_url is_commit is =
    let k = kind ++ codes "+" in
    let u = url ++ codes "@" in
    named_reads name (k ++ (u ++ commit)) fragment [] is_name (checkout_found kind url commit is_kind is_url is_commit) is (named name ++ k ++ u ++ commit ++ fragment)
    (ap (λ t. t ++ codes " ") (joined_five (named name) k u commit fragment
    ∙ ap (λ t. named name ++ t) (ap (λ t. k ++ t) (sym (append_assoc u commit fragment)) ∙ sym (append_assoc k (u ++ commit) fragment))))

-- ---- directories

written_spaceless : (path : List ℕ) → IsPlainPath path → Lacks 32 (path_text path)
written_spaceless path is = by (starts is_slash path)
  where
    own : Lacks 32 path
    own = lacking (allows class.Path) 32 path refl is.characters

    by : (b : Bool) → Lacks 32 (cond b path (codes "./" ++ path))
    by true = own
    by false = fails_both (λ x. x == 32) (codes "./") path refl own

folder_spaceless : (sub : Option (List ℕ)) → IsSub sub → Lacks 32 (folder sub)
folder_spaceless None is = refl
folder_spaceless (Some path) is = fails_both (λ x. x == 32) (codes "/") path refl (lacking (allows class.Path) 32 path refl is.0.0.characters)

-- no path is written with `@` first
written_begins : (path more : List ℕ) → starts (λ c. c == 64) (path_text path ++ more) ≡ false
written_begins path more = by (starts is_slash path) refl
  where
    by : (b : Bool) → starts is_slash path ≡ b → starts (λ c. c == 64) (cond b path (codes "./" ++ path) ++ more) ≡ false
    by true is = let tail = slashed path is in ap (λ p. starts (λ c. c == 64) (p ++ more)) tail.1
    by false is = refl

directory_reads : (editable path : List ℕ) (sub : Option (List ℕ)) → IsDirectory editable path sub → ReadsPlainly (editable ++ path_text path ++ folder sub)
directory_reads editable path sub is = by is.is_taken
  where
    rest : List ℕ
    rest = path_text path ++ folder sub

    by : {X : Type 0} → (editable ≡ codes "-e ") ⊎ ((editable ≡ []) × X) → ReadsPlainly (editable ++ path_text path ++ folder sub)
    by (inl is_editable) =
        subst (λ e. ReadsPlainly (e ++ path_text path ++ folder sub)) (sym is_editable)
        (read_never (codes "-e " ++ rest) (codes "-e") (rest ++ codes " ") refl refl
        (ap (starts (λ c. c == 64)) (append_assoc (path_text path) (folder sub) (codes " ")) ∙ written_begins path (folder sub ++ codes " ")))
    by (inr (none, other)) =
        subst (λ e. ReadsPlainly (e ++ path_text path ++ folder sub)) (sym none)
        (read_never rest rest [] refl (fails_both (λ x. x == 32) (path_text path) (folder sub) (written_spaceless path is.is_path.0) (folder_spaceless sub is.is_sub)) refl)

-- ---- all lines

-- a form for pip
abbrev IsPip : PlanFormat → Type 0
IsPip format.Requirements = ⊤
IsPip format.RequirementsLocal = ⊤
IsPip (format.Files form) = ⊥

header_reads : ReadsPlainly header
header_reads = read_never header (codes "#") (codes "plan by pylock ") refl refl refl

line_reads : (form : PlanFormat) (line : List ℕ) → IsLine form line → IsPip form → ReadsPlainly line
line_reads form line (sum_line hash file a b) pip = absurd pip
line_reads form line (aria2_url url a) pip = absurd pip
line_reads form line (aria2_file file a b) pip = absurd pip
line_reads form line (aria2_hash hash a) pip = absurd pip
line_reads form line aria2_torrent pip = absurd pip
line_reads form line aria2_metalink pip = absurd pip
line_reads form line aria2_renaming pip = absurd pip
line_reads form line (url_line url a) pip = absurd pip
line_reads form line header_line pip = header_reads
line_reads form line (place_line name place fragment hash a b c d) pip = place_reads name place fragment hash a b c d
line_reads form line (path_line path hash a b) pip = path_reads path hash a.0.0 b
line_reads form line local_header_line pip = header_reads
line_reads form line (checkout_line name kind url commit fragment a b c d e) pip = checkout_reads name kind url commit fragment a b c d e
line_reads form line (directory_line editable path sub a) pip = directory_reads editable path sub a

all_read : (form : PlanFormat) (lines : List (List ℕ)) → IsPip form → AllByRecursion (IsLine form) lines → AllByRecursion ReadsPlainly lines
all_read form [] pip are = tt
all_read form (line ∷ lines) pip are = (line_reads form line are.0 pip, all_read form lines pip are.1)

pip_lines : (form : PlanFormat) → IsPip form → (sources : List ListedValue) (lines : List (List ℕ)) → format_lines form sources ≡ Ok lines → All ReadsPlainly lines
pip_lines form pip sources lines made =
    All-from_recursion ReadsPlainly lines (all_read form lines pip (recursion_from_All (IsLine form) lines (allowed_lines form sources lines made)))

pub plain_hashed : (sources : List ListedValue) (lines : List (List ℕ)) → format_lines format.Requirements sources ≡ Ok lines → All ReadsPlainly lines
plain_hashed sources lines made = pip_lines format.Requirements tt sources lines made

pub plain_local : (sources : List ListedValue) (lines : List (List ℕ)) → format_lines format.RequirementsLocal sources ≡ Ok lines → All ReadsPlainly lines
plain_local sources lines made = pip_lines format.RequirementsLocal tt sources lines made
