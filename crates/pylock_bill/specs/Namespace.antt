-- The namespace of an SPDX document (SPDX 2.3, section 6.5).
use Rattle.std.specs.Prelude.{ℕ, ◌++◌, codes, List}
use Rattle.hex.specs.Hex.{encode_lower}
use Rattle.sha2.specs.Sha256.{sha256}

-- a URI at SPDX's own place for documents without a website, with the SHA-256 of the time, the plan
-- and the lock
abbrev pub namespace_of : List ℕ → List ℕ → List ℕ → List ℕ
namespace_of created plan lock =
    codes "https://spdx.org/spdxdocs/pylock-" ++ encode_lower (sha256 (created ++ plan ++ lock))
