-- What a URL names besides its place: its scheme, and who asks (RFC 3986, sections 3.1 and 3.2.1).
use Rattle.std.specs.Prelude.{ℕ, Bool, false, ◌==◌, ◌&&◌, ◌||◌, not, codes}
use Rattle.std.specs.Prelude.{List, [], ◌∷◌, length, map, take, Option, Some, None}
use Rattle.std.specs.Prelude.{if◌then◌else◌, is_some, option_and_then, option_map}
use Rattle.std.specs.Char.{to_ascii_lowercase}
use Rattle.std.specs.List.{list_any}
use Rattle.std.specs.Option.{option_map_or}
use Rattle.std.specs.Str.{bytes_eq}
use Rattle.pytext.specs.Options.{either}
use Rattle.pywheel_core.specs.Texts.{cut_at}

-- ---- the scheme

-- the text begins with the word, ASCII letter case ignored
abbrev pub begins : List ℕ → List ℕ → Bool
begins word text =
    bytes_eq (map to_ascii_lowercase (take (length word) text)) (map to_ascii_lowercase word)

-- what stands behind the `//` that a text begins with
abbrev pub behind_slashes : List ℕ → Option (List ℕ)
behind_slashes [] = None
behind_slashes (a ∷ []) = None
behind_slashes (a ∷ b ∷ rest) = if a == 47 && b == 47 then Some rest else None

-- what stands behind the first `://`
abbrev pub behind_scheme : List ℕ → Option (List ℕ)
behind_scheme [] = None
behind_scheme (b ∷ rest) =
    if b == 58 then either (behind_slashes rest) (behind_scheme rest) else behind_scheme rest

-- a file on another machine, as `ssh` names it: `git@host:path`
abbrev pub is_remote_path : List ℕ → Bool
is_remote_path text =
    option_map_or (λ cut. list_any (λ b. b == 64) cut.0 && not (list_any (λ b. b == 47) cut.0))
    (cut_at 58 text) false

-- what a version control system encrypts besides
abbrev pub is_safe_remote : List ℕ → Bool
is_safe_remote url =
    begins (codes "ssh://") url || begins (codes "git+ssh://") url
    || begins (codes "git+https://") url
    || (not (is_some (behind_scheme url)) && is_remote_path url)

abbrev pub is_https : List ℕ → Bool
is_https url = begins (codes "https://") url

-- ---- who asks

-- the end of what names the machine
abbrev pub ends_authority : ℕ → Bool
ends_authority b = b == 47 || b == 63 || b == 35

-- what stands before and behind the last `@` before the next `/`, `?`, `#` or the end
abbrev pub around_user : List ℕ → Option (List ℕ × List ℕ)
around_user [] = None
around_user (b ∷ rest) =
    if ends_authority b then None
    else either (option_map (λ cut. (b ∷ cut.0, cut.1)) (around_user rest))
    (if b == 64 then Some ([], rest) else None)

-- behind `ssh://` a name alone tells nothing
abbrev pub names_alone : List ℕ → Bool
names_alone url = begins (codes "ssh://") url || begins (codes "git+ssh://") url

abbrev pub has_credentials : List ℕ → Bool
has_credentials url =
    option_map_or (λ cut. not (names_alone url) || list_any (λ b. b == 58) cut.0)
    (option_and_then around_user (behind_scheme url)) false
