use Rattle.std.proofs.Common.{◌≡◌, ◌∷◌, ◌++◌, [], ℕ, List, ◌+◌, ◌-◌, ◌/◌, ◌<◌, ◌%◌, drop, length, length-set, arith, ap, ◌∙◌}
use Rattle.std.specs.Prelude.{slice_set}
use Rattle.std.proofs.lemmas.List.{drop-set}
use Rattle.pyver_core.specs.Version.OrderKey.{number_key}
use Rattle.pyver_core.proofs.Lemmas.Version.OrderKey.{one_byte_less, pushed_long}
use Rattle.pyver_core.proofs.version.order_key.push_long.Goals as goal

-- one more byte at the end is taken off
pub loop-high-preserved : goal.loop-high-preserved
loop-high-preserved c =
    let l = c.loop-high in
    let is = l.invariant.0 in
    let high : ℕ = l.high / 256 in
    let last : ℕ = l.high % 256 in
    let less = one_byte_less l.start l.high c.loop-high-test.true is.capacity in
    let before : l.start - 1 < length l.low = omega arith in
    let start : l.start - 1 + 1 ≡ l.start = omega arith in
    let taken : drop (l.start - 1) (slice_set l.low (l.start - 1) last) ≡ last ∷ drop l.start l.low =
    drop-set l.low (l.start - 1) last before ∙ ap (λ (n : ℕ). last ∷ drop n l.low) start in (
      record { low_len = length-set l.low (l.start - 1) last ∙ is.low_len; in_low = omega arith; capacity = less.1 },
      ap (λ (k : List ℕ). k ++ (number_key high ++ drop (l.start - 1) (slice_set l.low (l.start - 1) last))) c.in_ok-push.ensures.items
          ∙ ap (λ (rest : List ℕ). (l.key.items ++ 254 ∷ []) ++ (number_key high ++ rest)) taken
          ∙ pushed_long l.key.items (drop l.start l.low) l.high c.loop-high-test.true ∙ l.invariant.1,
    )
