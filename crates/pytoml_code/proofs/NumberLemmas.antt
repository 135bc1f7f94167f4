-- Two digits of a character that is written by its number.
use Rattle.std.proofs.Common.{◌≡◌, ◌∙◌, ℕ, ◌-◌, ◌≤◌, List, [], ◌∷◌, length, take, drop, slice_index_or, refl, sym, ap, arith}
use Rattle.std.proofs.lemmas.List.{take_all}
use Rattle.pytoml_code.specs.Shown.{byte_value, read_number, read_text, with_byte}

pub number_read : (bs : List ℕ) (n d e : ℕ) → 4 ≤ length bs → n ≡ byte_value (slice_index_or bs 2 d) (slice_index_or bs 3 e)
    → read_number bs ≡ with_byte n (read_text (take (length bs - 4) (drop 4 bs)))
number_read [] n d e long h = absurd (omega arith)
number_read (a ∷ []) n d e long h = absurd (omega arith)
number_read (a ∷ b ∷ []) n d e long h = absurd (omega arith)
number_read (a ∷ b ∷ c ∷ []) n d e long h = absurd (omega arith)
number_read (a ∷ b ∷ high ∷ low ∷ rest) n d e long h =
    ap (λ m. with_byte m (read_text rest)) (sym h) ∙ ap (λ r. with_byte n (read_text r)) (sym (take_all (length (a ∷ b ∷ high ∷ low ∷ rest) - 4) rest (omega arith)))
