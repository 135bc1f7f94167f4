-- Hashes of files: pairs of algorithm and value (PEP 751, `packages.archive.hashes`), with the
-- names of algorithms that Python's `hashlib` has.
use Rattle.std.specs.Prelude.{ℕ, Bool, ◌==◌, ◌&&◌, ◌||◌, not, codes, List, [], ◌∷◌, length}
use Rattle.std.specs.Prelude.{if◌then◌else◌}
use Rattle.std.specs.Int.{is_in_range}
use Rattle.std.specs.List.{list_all, list_any}
use Rattle.std.specs.Str.{bytes_eq}
use Rattle.pylock_readers.specs.Entry.Kinds.{is_any}

abbrev pub Hash : Type 0
Hash = List ℕ × List ℕ

-- nobody has found two files with the same value of these
abbrev pub strong_names : List (List ℕ)
strong_names =
    codes "sha256" ∷ codes "sha384" ∷ codes "sha512"
    ∷ codes "sha3_256" ∷ codes "sha3_384" ∷ codes "sha3_512"
    ∷ codes "blake2b" ∷ codes "blake2s" ∷ []

abbrev pub is_strong : List ℕ → Bool
is_strong algorithm = list_any (bytes_eq algorithm) strong_names

abbrev pub is_weak : List Hash → Bool
is_weak hashes = not (list_any (λ hash. is_strong hash.0) hashes)

-- how many hex digits a value of the algorithm may have; of others it isn't known
abbrev pub hex_lengths : List ℕ → List ℕ
hex_lengths algorithm =
    if bytes_eq algorithm (codes "md5") then 32 ∷ []
    else if bytes_eq algorithm (codes "sha1") then 40 ∷ []
    else if bytes_eq algorithm (codes "sha224") then 56 ∷ []
    else if bytes_eq algorithm (codes "sha3_224") then 56 ∷ []
    else if bytes_eq algorithm (codes "sha256") then 64 ∷ []
    else if bytes_eq algorithm (codes "sha3_256") then 64 ∷ []
    else if bytes_eq algorithm (codes "blake2s") then 64 ∷ []
    else if bytes_eq algorithm (codes "sha384") then 96 ∷ []
    else if bytes_eq algorithm (codes "sha3_384") then 96 ∷ []
    else if bytes_eq algorithm (codes "sha512") then 128 ∷ []
    else if bytes_eq algorithm (codes "sha3_512") then 128 ∷ []
    else if bytes_eq algorithm (codes "blake2b") then 64 ∷ 128 ∷ []
    else []

-- `0` to `9`, `a` to `f`
abbrev pub is_hex_digit : ℕ → Bool
is_hex_digit b = is_in_range 48 57 b || is_in_range 97 102 b

-- the value is none of an algorithm whose lengths these are
abbrev pub is_bad_value : List ℕ → List ℕ → Bool
is_bad_value lengths value =
    is_any lengths
    && not (list_any (λ n. n == length value) lengths && list_all is_hex_digit value)

abbrev pub is_bad : Hash → Bool
is_bad hash = is_bad_value (hex_lengths hash.0) hash.1

-- `,` and `=` stand between hashes and within one where a line shows them
abbrev pub is_mark : ℕ → Bool
is_mark b = b == 44 || b == 61

abbrev pub is_odd : Hash → Bool
is_odd hash = list_any is_mark hash.0 || list_any is_mark hash.1
