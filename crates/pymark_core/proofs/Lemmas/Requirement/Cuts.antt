-- What `split_once` says at a byte.
use Rattle.std.proofs.Common.{◌≡◌, ℕ, ◌<◌, List, length, Option, Some, None, sym, ◌∙◌, arith}
use Rattle.std.specs.Prelude.{◌==◌, MatchOption, option_map}
use Rattle.std.specs.List.{after_first, before_first, position_or_len}
use denote.Ref.{Bor}
use Rattle.std.proofs.lemmas.Bool.{cond-false, cond-true, le-ltb, lt-ltb}
use Rattle.pymark_core.specs.Requirement.Reading.{cut_around}

pub cut_around_first : (byte : ℕ) (bs : List ℕ) (r : Option (Bor (List ℕ) × Bor (List ℕ)))
    → MatchOption r (position_or_len (λ b. b == byte) bs ≡ length bs)
    (λ x. (position_or_len (λ b. b == byte) bs < length bs) × (x.0.now ≡ before_first (λ b. b == byte) bs) × (x.1.now ≡ after_first (λ b. b == byte) bs))
    → option_map (λ cut. (cut.0.now, cut.1.now)) r ≡ cut_around byte bs
cut_around_first byte bs None h = sym (cond-false _ _ None (le-ltb (position_or_len (λ b. b == byte) bs) (length bs) (omega arith)))
cut_around_first byte bs (Some x) h =
    (λ i. Some (h.1 i, h.2 i)) ∙ sym (cond-true _ _ None (lt-ltb (position_or_len (λ b. b == byte) bs) (length bs) h.0))
