-- The final releases of CPython, up to 3.14.2.
use Rattle.std.specs.Prelude.{ℕ, ◌+◌, ◌++◌, Bool, List, [], ◌∷◌, codes}
use Rattle.std.specs.Fmt.{decimal}
use Rattle.std.specs.List.{list_any, range_with_len}
use Rattle.std.specs.Str.{bytes_eq}

-- what the releases of each minor version begin with, and the last number that they end in
abbrev pub minor_versions : List (List ℕ × ℕ)
minor_versions =
    (codes "2.7.", 18) ∷ (codes "3.0.", 1) ∷ (codes "3.1.", 5) ∷ (codes "3.2.", 6)
    ∷ (codes "3.3.", 7) ∷ (codes "3.4.", 10) ∷ (codes "3.5.", 10) ∷ (codes "3.6.", 15)
    ∷ (codes "3.7.", 17) ∷ (codes "3.8.", 20) ∷ (codes "3.9.", 25) ∷ (codes "3.10.", 19)
    ∷ (codes "3.11.", 14) ∷ (codes "3.12.", 12) ∷ (codes "3.13.", 11) ∷ (codes "3.14.", 2) ∷ []

-- the text begins so, and ends in a number from 0 to the last, in decimal
unfoldable pub is_among : List ℕ → List ℕ → ℕ → Bool
is_among text front last =
    list_any (λ number. bytes_eq text (front ++ decimal number)) (range_with_len 0 (last + 1))

-- the text is that of a release
unfoldable pub is_release : List ℕ → Bool
is_release text = list_any (λ (front, last). is_among text front last) minor_versions
