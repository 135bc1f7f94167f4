use Rattle.std.proofs.Common.{◌≡◌, ◌∙◌, ◌++◌, ◌∷◌, [], ◌-◌, cond, not, nat_lt, sym, ap, append_assoc}
use Rattle.pylock_compare.specs.Counts.{count}
use Rattle.pylock_compare.specs.Partners.{are_alone, without_one}
use Rattle.pylock_compare.specs.Texts.{are_alike}
use Rattle.pylock_compare.proofs.PartnerLemmas.{alike_turned, counted_without, one_judged}
use Rattle.pylock_compare.proofs.partners.are_alone.Goals as goal

pub loop-key-preserved : goal.loop-key-preserved
loop-key-preserved c =
    let (others, counts, whole) = c.loop-key.invariant in
    let key = c.in-Some.key in
    let rest = c.next.new.self.rest.items in
    let taken = c.in_ok-taken.taken in
    let front : c.loop-key.key-iterator.rest.items ≡ key ∷ rest = c.in-Some.ensures.steps.0 in
    let judged = one_judged key rest others taken (c.in_ok-taken.ensures.taken ∙ ap (nat_lt 0) (counts key)) in
    let left = without_one key others in (
      left,
      (λ k. c.in_ok-taken.ensures.left k ∙ ap (λ n. n - cond (are_alike key k) 1 0) (counts k) ∙ ap (λ b. count k others - cond b 1 0) (alike_turned key k) ∙ sym (counted_without k key others)),
      ap (λ flags. flags ++ are_alone rest left) c.in_ok-push.ensures.items ∙ append_assoc c.loop-key.alone.items (not taken ∷ []) (are_alone rest left)
          ∙ ap (λ flags. c.loop-key.alone.items ++ flags) (sym judged ∙ ap (λ keys. are_alone keys others) (sym front)) ∙ whole,
    )
