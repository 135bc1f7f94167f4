-- The query of a URL, and what it gives away (RFC 3986, sections 3.4 and 3.5). Keys and values are
-- taken as they stand: an escape is no letter.
use Rattle.std.specs.Prelude.{ℕ, Bool, false, ◌==◌, ◌&&◌, codes, List, [], ◌∷◌, map}
use Rattle.std.specs.Prelude.{Option, Some, None, is_some, if◌then◌else◌, length, nat_lt}
use Rattle.std.specs.Prelude.{option_and_then}
use Rattle.std.specs.Char.{to_ascii_lowercase}
use Rattle.std.specs.List.{list_any}
use Rattle.std.specs.Option.{option_map_or}
use Rattle.std.specs.Str.{bytes_eq}
use Rattle.pywheel_core.specs.Texts.{cut_at, pieces_at}

-- ---- where it stands

-- what stands before and behind the first `?`; a `#` before it begins the fragment, which ends all
abbrev pub around_mark : List ℕ → Option (List ℕ × List ℕ)
around_mark url =
    option_and_then (λ cut. if list_any (λ b. b == 35) cut.0 then None else Some cut)
    (cut_at 63 url)

-- what stands before the first `#`
abbrev pub before_fragment : List ℕ → List ℕ
before_fragment text = option_map_or (λ cut. cut.0) (cut_at 35 text) text

-- ---- its secrets

-- names of keys whose value opens what the URL names, in lower case
abbrev pub secret_keys : List (List ℕ)
secret_keys =
    codes "token" ∷ codes "access_token" ∷ codes "private_token" ∷ codes "api_key"
    ∷ codes "apikey" ∷ codes "key" ∷ codes "password" ∷ codes "secret" ∷ codes "sig"
    ∷ codes "signature" ∷ codes "x-amz-signature" ∷ []

-- ASCII letter case is ignored
abbrev pub is_secret_key : List ℕ → Bool
is_secret_key key = list_any (bytes_eq (map to_ascii_lowercase key)) secret_keys

-- the key of a pair that has a secret: what stands before its first `=`, where a value follows
abbrev pub secret_key : List ℕ → Option (List ℕ)
secret_key pair =
    option_and_then
    (λ cut. if is_secret_key cut.0 && nat_lt 0 (length cut.1) then Some cut.0 else None)
    (cut_at 61 pair)

abbrev pub is_secret : List ℕ → Bool
is_secret pair = is_some (secret_key pair)

-- the pairs of a query are what stands between each `&`
abbrev pub has_secret : List ℕ → Bool
has_secret url =
    option_map_or (λ cut. list_any is_secret (pieces_at 38 (before_fragment cut.1)))
    (around_mark url) false
