-- Which platforms run what an older one of the same system and machine runs.
use Rattle.std.specs.Prelude.{◌≡◌, ◌≤◌, List, [], ◌∷◌}
use Rattle.pywheel_core.specs.Target.Compatible.{IsNotLater}
use Rattle.pywheel_core.specs.declared.target.platform.Platform.{Platform}
use Rattle.pywheel_core.specs.declared.target.platform.Platform.TheVariants as platform

-- The first list is the second one with some elements left out.
pub data IsPart {X : Type 0} : List X → List X → Type 0 where
  part_end : IsPart [] []
  part_kept : (x : X) (xs ys : List X) → IsPart xs ys → IsPart (x ∷ xs) (x ∷ ys)
  part_left_out : (y : X) (xs ys : List X) → IsPart xs ys → IsPart xs (y ∷ ys)

-- the same kind of system and machine, with a glibc, a musl or a macOS that isn't older
abbrev pub IsAtLeast : Platform → Platform → Type 0
IsAtLeast (platform.Manylinux minor arch) (platform.Manylinux than on) =
    (than ≤ minor) × (arch ≡ on)
IsAtLeast (platform.Musllinux minor arch) (platform.Musllinux than on) =
    (than ≤ minor) × (arch ≡ on)
IsAtLeast (platform.MacOs major minor arch) (platform.MacOs than_major than_minor on) =
    IsNotLater than_major than_minor major minor × (arch ≡ on)
IsAtLeast (platform.Windows arch) (platform.Windows on) = arch ≡ on
IsAtLeast p q = ⊥
