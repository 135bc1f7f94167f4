use Rattle.std.proofs.Common.{◌≡◌, ◌∙◌, ◌∷◌, ◌+◌, ap, arith, drop, false, map, sym, true}
use Rattle.std.proofs.lemmas.List.{length-map}
use Rattle.pylock_exports.specs.Inner.{all_lent, lent}
use Rattle.pylock_exports.specs.Texts.{first_left, is_left_out, left_out, shown_left}
use Rattle.pylock_exports.proofs.LeftLemmas.{count_more, count_other, left_more, line_more, with_left}
use Rattle.pylock_exports.proofs.NextLemmas.{next_lent}
use Rattle.pylock_exports.proofs.left.left_of.Goals as goal
use Rattle.pylock_exports.proofs.left.left_of.Goals.{then-branch+in_ok-push_left, else-branch}

pub loop-listed-preserved : goal.loop-listed-preserved
loop-listed-preserved c =
    let form = c.args.form in
    let list = c.args.list.now in
    let s = lent c.listed-item.result in
    let rest = all_lent (drop (c.loop-listed.listed-index + 1) list) in
    let count = c.loop-listed.count in
    let first = map shown_left c.loop-listed.first.items in
    let total = left_out form (all_lent list) in
    let next = next_lent list c.loop-listed.listed-index c.listed-item.result c.loop-listed-test.true c.listed-item.is in
    let within = c.loop-listed.invariant.1 in
    let counted : count + left_out form (s ∷ rest) ≡ total = ap (λ l. count + left_out form l) (sym next) ∙ c.loop-listed.invariant.0 in
    let named : with_left form first (s ∷ rest) ≡ first_left form (all_lent list) = ap (with_left form first) (sym next) ∙ c.loop-listed.invariant.2 in
    elim c.if-branch.branch [
      | then-branch+in_ok-push_left w ↦
          let left : is_left_out form s.source ≡ true = sym c.in_ok-is_left_out.ensures ∙ w.if-branch.true in (
            ap (λ n. n + left_out form rest) w.count-is ∙ count_more form count total s rest left counted,
            omega (arith, w.count-is, within),
            left_more form first (map shown_left c.if-branch.first.items) s rest left (rw (w.first-is, length-map c.loop-listed.first.items shown_left) w.in_ok-push_left.ensures)
                ∙ named,
          )
      | else-branch w ↦
          let has : is_left_out form s.source ≡ false = sym c.in_ok-is_left_out.ensures ∙ w.if-branch.false in (
            ap (λ n. n + left_out form rest) w.count-is ∙ count_other form count total s rest has counted,
            omega (arith, w.count-is, within),
            ap (λ f. with_left form (map shown_left f.items) rest) w.first-is ∙ line_more form first s rest has ∙ named,
          )
    ]
