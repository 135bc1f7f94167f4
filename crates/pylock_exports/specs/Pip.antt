-- What pip and a reader of RFC 3986 find in a line of a requirements file, wherever they look for
-- it: nothing that the lock doesn't say.
use Rattle.std.specs.Prelude.{◌≡◌, ◌⊎◌, ℕ, Bool, false, ◌==◌, ◌||◌, ◌++◌, codes, List, [], ◌∷◌}
use Rattle.std.specs.List.{All, before_first, list_any}
use Rattle.pylock_readers.specs.Entry.FileName.{is_slash}
use Rattle.pylock_exports.specs.Line.{IsHost, IsSubdirectory}

-- no such character stands in the text
abbrev pub Lacks : ℕ → List ℕ → Type 0
Lacks c text = list_any (λ b. b == c) text ≡ false

-- the line reads as a name, `@` and a URL (PEP 508, "direct references"), and options behind a
-- space
pub record IsReference (line name url options : List ℕ) : Type 0 where
  pub whole : line ++ codes " " ≡ name ++ codes " @ " ++ url ++ codes " " ++ options
  pub one_name : Lacks 32 name
  pub one_url : Lacks 32 url

-- the end of what names the machine (RFC 3986, section 3.2)
abbrev pub ends_authority : ℕ → Bool
ends_authority c = c == 47 || c == 63 || c == 35

-- what stands between `://` and the next `/` is all that names a machine, and is a host: no user
-- stands before it. Of a file no machine is named
pub record IsAuthority (scheme rest : List ℕ) : Type 0 where
  pub same : before_first ends_authority rest ≡ before_first is_slash rest
  pub is_host : IsHost (before_first is_slash rest)
      ⊎ ((scheme ≡ codes "file") × (before_first is_slash rest ≡ []))

-- the URL has a key with a value
abbrev pub Finds : (key url : List ℕ) → Type 0
Finds key url = (front back : List ℕ) × (url ≡ front ++ key ++ codes "=" ++ back)

-- what pip looks for in a URL besides a subdirectory
abbrev pub sought : List (List ℕ)
sought =
    codes "md5" ∷ codes "sha1" ∷ codes "sha224" ∷ codes "sha256" ∷ codes "sha384"
    ∷ codes "sha512" ∷ codes "egg" ∷ []

-- a URL in which nothing else is found than its host, its path and its subdirectory
pub record IsPlainUrl (url : List ℕ) : Type 0 where
  pub host : (scheme rest : List ℕ) → Lacks 58 scheme → url ≡ scheme ++ codes "://" ++ rest
      → IsAuthority scheme rest
  -- the fragment (RFC 3986, section 3.5) is a subdirectory
  pub fragment : (front back : List ℕ) → url ≡ front ++ codes "#" ++ back
      → (path : List ℕ) × IsSubdirectory path × (back ≡ codes "subdirectory=" ++ path)
  -- a `=` stands behind this fragment's key alone
  pub key : (front back : List ℕ) → url ≡ front ++ codes "=" ++ back
      → (base : List ℕ) × (front ≡ base ++ codes "#subdirectory")
  -- and so neither an algorithm nor an egg is found
  pub none : All (λ key. Finds key url → ⊥) sought
  -- nothing is parted by `&`
  pub ampersand : Lacks 38 url

-- whatever name and URL are found in the line, the URL is plain
abbrev pub ReadsPlainly : List ℕ → Type 0
ReadsPlainly line =
    (name url options : List ℕ) → IsReference line name url options → IsPlainUrl url
