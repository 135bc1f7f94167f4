use Rattle.std.proofs.Common.{◌≡◌, ◌∙◌, ◌∷◌, ◌+◌, ap, codes, drop, false, string_bytes, sym, true}
use Rattle.std.proofs.lemmas.Result.{err_from_is_err_and}
use Rattle.pylock_exports.specs.Inner.{all_lent, lent, parts_behind}
use Rattle.pylock_exports.specs.Requirements.{is_in}
use Rattle.pylock_exports.proofs.BehindLemmas.{behind_header, behind_more, behind_other, behind_refused}
use Rattle.pylock_exports.proofs.NextLemmas.{next_lent}
use Rattle.pylock_exports.proofs.requirements.requirements_text.Goals as goal
use Rattle.pylock_exports.proofs.requirements.requirements_text.Goals.{then-is_in+in_ok-push_requirement, else-is_in}

pub returns-in_err-push_requirement : goal.returns-in_err-push_requirement
returns-in_err-push_requirement c =
    let p = err_from_is_err_and c.from_residual-in_err-push_requirement.result c.from_residual-in_err-push_requirement.ensures.1 in
    let part = c.args.part in
    let text = string_bytes c.loop-listed.text in
    let list = c.args.list.now in
    let at = c.loop-listed.listed-index in
    let s = lent c.listed-item.result in
    let has : is_in part s.source ≡ true = sym c.is_in.ensures ∙ c.if-is_in.true in
    rw (p.1, p.2) (λ h. behind_header part (all_lent list) ∙ sym c.loop-listed.invariant
    ∙ ap (parts_behind part text) (next_lent list at c.listed-item.result c.loop-listed-test.true c.listed-item.is)
    ∙ behind_refused part text s (all_lent (drop (at + 1) list)) c.in_err-push_requirement.field-0.0 has (c.in_err-push_requirement.ensures h))

pub loop-listed-preserved : goal.loop-listed-preserved
loop-listed-preserved c =
    let part = c.args.part in
    let text = string_bytes c.loop-listed.text in
    let list = c.args.list.now in
    let at = c.loop-listed.listed-index in
    let s = lent c.listed-item.result in
    let rest = all_lent (drop (at + 1) list) in
    let next = next_lent list at c.listed-item.result c.loop-listed-test.true c.listed-item.is in
    let more : parts_behind part text (s ∷ rest) ≡ parts_behind part (codes "# plan by pylock\n") (all_lent list) = ap (parts_behind part text) (sym next) ∙ c.loop-listed.invariant in
    elim c.if-is_in.branch [
      | then-is_in+in_ok-push_requirement w ↦
          let has : is_in part s.source ≡ true = sym c.is_in.ensures ∙ w.if-is_in.true in
          ap (λ t. parts_behind part (string_bytes t) rest) w.text-is
          ∙ sym (behind_more part text (string_bytes w.push_requirement.new.text) s rest has w.in_ok-push_requirement.ensures) ∙ more
      | else-is_in w ↦
          let other : is_in part s.source ≡ false = sym c.is_in.ensures ∙ w.if-is_in.false in
          ap (λ t. parts_behind part (string_bytes t) rest) w.text-is ∙ sym (behind_other part text s rest other) ∙ more
    ]
