-- Hashes of a file, with the names of algorithms that Python's `hashlib` has (PEP 751,
-- `packages.archive.hashes`), and those that the two standards have.
use Rattle.std.specs.Prelude.{ℕ, Bool, ◌==◌, ◌||◌, codes, List, length}
use Rattle.std.specs.Prelude.{Option, Some, None, if◌then◌else◌}
use Rattle.std.specs.Int.{is_in_range}
use Rattle.std.specs.List.{list_all}
use Rattle.std.specs.Str.{bytes_eq}
use Rattle.pylock_bill.specs.declared.hash.Algorithm.{Algorithm}
use Rattle.pylock_bill.specs.declared.hash.Algorithm.TheVariants as algorithm

-- the algorithm, where its values have as many hex digits
abbrev pub where_long : ℕ → Algorithm → ℕ → Option Algorithm
where_long wanted named digits = if digits == wanted then Some named else None

-- BLAKE2b has values of several lengths
abbrev pub blake2b_of : ℕ → Option Algorithm
blake2b_of digits =
    if digits == 64 then Some algorithm.Blake2b256
    else if digits == 96 then Some algorithm.Blake2b384
    else if digits == 128 then Some algorithm.Blake2b512
    else None

-- the algorithm of this name, whose value has so many hex digits
abbrev pub algorithm_of : List ℕ → ℕ → Option Algorithm
algorithm_of name digits =
    if bytes_eq name (codes "md5") then where_long 32 algorithm.Md5 digits
    else if bytes_eq name (codes "sha1") then where_long 40 algorithm.Sha1 digits
    else if bytes_eq name (codes "sha256") then where_long 64 algorithm.Sha256 digits
    else if bytes_eq name (codes "sha384") then where_long 96 algorithm.Sha384 digits
    else if bytes_eq name (codes "sha512") then where_long 128 algorithm.Sha512 digits
    else if bytes_eq name (codes "sha3_256") then where_long 64 algorithm.Sha3With256 digits
    else if bytes_eq name (codes "sha3_384") then where_long 96 algorithm.Sha3With384 digits
    else if bytes_eq name (codes "sha3_512") then where_long 128 algorithm.Sha3With512 digits
    else if bytes_eq name (codes "blake2b") then blake2b_of digits
    else if bytes_eq name (codes "blake3") then where_long 64 algorithm.Blake3 digits
    else None

-- `0` to `9`, `a` to `f`, `A` to `F`
abbrev pub is_hex_digit : ℕ → Bool
is_hex_digit b = is_in_range 48 57 b || is_in_range 97 102 b || is_in_range 65 70 b

-- the algorithm of a pair of name and value, where the value is one of it
abbrev pub hash_algorithm : List ℕ × List ℕ → Option Algorithm
hash_algorithm hash =
    if list_all is_hex_digit hash.1 then algorithm_of hash.0 (length hash.1) else None

-- its name in CycloneDX (CycloneDX 1.6, `hash-alg`)
abbrev pub cyclonedx_word : Algorithm → List ℕ
cyclonedx_word algorithm.Md5 = codes "MD5"
cyclonedx_word algorithm.Sha1 = codes "SHA-1"
cyclonedx_word algorithm.Sha256 = codes "SHA-256"
cyclonedx_word algorithm.Sha384 = codes "SHA-384"
cyclonedx_word algorithm.Sha512 = codes "SHA-512"
cyclonedx_word algorithm.Sha3With256 = codes "SHA3-256"
cyclonedx_word algorithm.Sha3With384 = codes "SHA3-384"
cyclonedx_word algorithm.Sha3With512 = codes "SHA3-512"
cyclonedx_word algorithm.Blake2b256 = codes "BLAKE2b-256"
cyclonedx_word algorithm.Blake2b384 = codes "BLAKE2b-384"
cyclonedx_word algorithm.Blake2b512 = codes "BLAKE2b-512"
cyclonedx_word algorithm.Blake3 = codes "BLAKE3"

-- its name in SPDX (SPDX 2.3, section 7.10)
abbrev pub spdx_word : Algorithm → List ℕ
spdx_word algorithm.Md5 = codes "MD5"
spdx_word algorithm.Sha1 = codes "SHA1"
spdx_word algorithm.Sha256 = codes "SHA256"
spdx_word algorithm.Sha384 = codes "SHA384"
spdx_word algorithm.Sha512 = codes "SHA512"
spdx_word algorithm.Sha3With256 = codes "SHA3-256"
spdx_word algorithm.Sha3With384 = codes "SHA3-384"
spdx_word algorithm.Sha3With512 = codes "SHA3-512"
spdx_word algorithm.Blake2b256 = codes "BLAKE2b-256"
spdx_word algorithm.Blake2b384 = codes "BLAKE2b-384"
spdx_word algorithm.Blake2b512 = codes "BLAKE2b-512"
spdx_word algorithm.Blake3 = codes "BLAKE3"
