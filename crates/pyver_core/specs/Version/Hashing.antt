-- What is hashed of a version: its parts, the release without the zeros at its end, so that equal
-- versions are hashed alike.
use Rattle.std.specs.Prelude.{ℕ, zero, suc, List, [], ◌∷◌, ◌++◌, pos}
use Rattle.std.specs.Hash as fed
use Rattle.pyver_core.specs.Version.Parts.{Parts}
use Rattle.pyver_core.specs.declared.version.part.LocalPart.{LocalPart}
use Rattle.pyver_core.specs.declared.version.part.LocalPart.TheVariants.{Number, Text}
use Rattle.pyver_core.specs.declared.version.part.PreKind.{PreKind}
use Rattle.pyver_core.specs.declared.version.part.PreKind.TheVariants.{A, B, Rc}

-- a number before the rest of a release: a zero before nothing goes
abbrev pub prepend_unless_trailing : ℕ → List ℕ → List ℕ
prepend_unless_trailing zero [] = []
prepend_unless_trailing zero (y ∷ ys) = zero ∷ y ∷ ys
prepend_unless_trailing (suc n) rest = suc n ∷ rest

-- a release without the zeros at its end
unfoldable pub without_trailing_zeros : List ℕ → List ℕ
without_trailing_zeros [] = []
without_trailing_zeros (x ∷ xs) = prepend_unless_trailing x (without_trailing_zeros xs)

abbrev pub letter_input : PreKind → fed.HashWrites
letter_input A = fed.isize (pos 0)
letter_input B = fed.isize (pos 1)
letter_input Rc = fed.isize (pos 2)

abbrev pub pre_input : PreKind × ℕ → fed.HashWrites
pre_input pre = letter_input pre.0 ++ fed.u128 pre.1

abbrev pub segment_input : LocalPart → fed.HashWrites
segment_input (Text text) = fed.isize (pos 0) ++ fed.str text
segment_input (Number n) = fed.isize (pos 1) ++ fed.u128 n

-- the parts, the release without the zeros at its end
unfoldable pub version_input : Parts → fed.HashWrites
version_input v = fed.u128 v.epoch ++ (fed.slice fed.u128 (without_trailing_zeros v.release)
    ++ (fed.option pre_input v.pre ++ (fed.option fed.u128 v.post
    ++ (fed.option fed.u128 v.dev ++ fed.slice segment_input v.local))))
