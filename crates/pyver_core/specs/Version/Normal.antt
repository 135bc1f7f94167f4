-- The normal form of a version (PEP 440, "Normalization").
use Rattle.std.specs.Prelude.{ℕ, zero, suc, ◌+◌, List, [], ◌∷◌, ◌++◌, map, codes, Option, Some}
use Rattle.std.specs.Prelude.{None}
use Rattle.std.specs.Int.Digits.{digits_of}
use Rattle.std.specs.List.{flat_map}
use Rattle.pyver_core.specs.Version.Parts.{Parts}
use Rattle.pyver_core.specs.declared.version.part.PreKind.{PreKind}
use Rattle.pyver_core.specs.declared.version.part.PreKind.TheVariants.{A, B, Rc}
use Rattle.pyver_core.specs.declared.version.part.LocalPart.{LocalPart}
use Rattle.pyver_core.specs.declared.version.part.LocalPart.TheVariants.{Number, Text}

-- a number in base ten, without leading zeros
abbrev pub decimal_text : ℕ → List ℕ
decimal_text zero = codes "0"
decimal_text (suc n) = map (λ d. 48 + d) (digits_of 10 (suc n))

-- the epoch, which isn't written where it is 0
abbrev pub epoch_text : ℕ → List ℕ
epoch_text zero = []
epoch_text (suc n) = decimal_text (suc n) ++ codes "!"

-- a dot and a number
abbrev pub dotted_number : ℕ → List ℕ
dotted_number n = codes "." ++ decimal_text n

-- the release: all its numbers, with dots between them
abbrev pub release_text : List ℕ → List ℕ
release_text [] = []
release_text (first ∷ rest) = decimal_text first ++ flat_map dotted_number rest

-- the letters of a pre-release
abbrev pub kind_text : PreKind → List ℕ
kind_text A = codes "a"
kind_text B = codes "b"
kind_text Rc = codes "rc"

abbrev pub pre_text : Option (PreKind × ℕ) → List ℕ
pre_text None = []
pre_text (Some pre) = kind_text pre.0 ++ decimal_text pre.1

abbrev pub post_text : Option ℕ → List ℕ
post_text None = []
post_text (Some n) = codes ".post" ++ decimal_text n

abbrev pub dev_text : Option ℕ → List ℕ
dev_text None = []
dev_text (Some n) = codes ".dev" ++ decimal_text n

-- a segment of the local part
abbrev pub segment_text : LocalPart → List ℕ
segment_text (Number n) = decimal_text n
segment_text (Text text) = text

-- a dot and a segment
abbrev pub dotted_segment : LocalPart → List ℕ
dotted_segment segment = codes "." ++ segment_text segment

-- the local part: its segments, with dots between them
abbrev pub local_text : List LocalPart → List ℕ
local_text [] = []
local_text (first ∷ rest) = codes "+" ++ segment_text first ++ flat_map dotted_segment rest

-- the normal form: the normal forms of the parts, one after the other
abbrev pub normal_text : Parts → List ℕ
normal_text p = epoch_text p.epoch
    ++ (release_text p.release ++ (pre_text p.pre
    ++ (post_text p.post ++ (dev_text p.dev ++ local_text p.local))))
