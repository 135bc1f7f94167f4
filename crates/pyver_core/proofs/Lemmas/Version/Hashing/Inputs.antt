-- The derived hashes of letters and segments are those of the definition.
use Rattle.std.proofs.Common.{◌≡◌, ℕ, ◌++◌, refl, ap}
use Rattle.std.specs.Hash as fed
use Rattle.pyver_core.specs.Version.Hashing.{letter_input, pre_input, segment_input}
use Rattle.pyver_core.specs.contracts.version.part.LocalPartHash.TheImpl as segments
use Rattle.pyver_core.specs.contracts.version.part.PreKindHash.TheImpl as letters
use Rattle.pyver_core.specs.declared.version.part.LocalPart.{LocalPart}
use Rattle.pyver_core.specs.declared.version.part.LocalPart.TheVariants.{Number, Text}
use Rattle.pyver_core.specs.declared.version.part.PreKind.{PreKind}
use Rattle.pyver_core.specs.declared.version.part.PreKind.TheVariants.{A, B, Rc}

hash_input-letter : (letter : PreKind) → letters.ghosts.hash_input letter ≡ letter_input letter
hash_input-letter A = refl
hash_input-letter letter = refl

pub hash_input-pre : (pre : PreKind × ℕ) → letters.ghosts.hash_input pre.0 ++ fed.u128 pre.1 ≡ pre_input pre
hash_input-pre pre = ap (λ writes. writes ++ fed.u128 pre.1) (hash_input-letter pre.0)

pub hash_input-segment : (segment : LocalPart) → segments.ghosts.hash_input segment ≡ segment_input segment
hash_input-segment (Text text) = refl
hash_input-segment (Number n) = refl
