-- What is left of a list, one element on.
use Rattle.std.proofs.Common.{◌≡◌, ◌∙◌, ℕ, ◌+◌, ◌<◌, List, ◌∷◌, ap, arith, drop, get_or, length, suc, sym}
use Rattle.std.proofs.Math.Seq.{drop-cons}
use Rattle.pylock_exports.specs.Inner.{all_lent, lent}
use Rattle.pylock_exports.specs.declared.listed.Listed.{Listed}

pub next : {A : Type 0} (xs : List A) (i : ℕ) (x : A) → i < length xs → x ≡ get_or xs i x → drop i xs ≡ x ∷ drop (i + 1) xs
next {A} xs i x within is =
    let one : suc i ≡ i + 1 = omega arith in
    drop-cons xs i x within ∙ ap (λ n. get_or xs i x ∷ drop n xs) one ∙ ap (λ y. y ∷ drop (i + 1) xs) (sym is)

pub next_lent : (list : List Listed) (i : ℕ) (s : Listed) → i < length list → s ≡ get_or list i s
    → all_lent (drop i list) ≡ lent s ∷ all_lent (drop (i + 1) list)
next_lent list i s within is = ap all_lent (next list i s within is)
