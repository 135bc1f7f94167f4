use Rattle.std.proofs.Common.{◌++◌, Some, None, sym, ap, ◌∙◌}
use Rattle.std.specs.Cmp.{unsigned_Decides}
use Rattle.std.proofs.lemmas.Slice.Eq.{strip_prefix_is}
use Rattle.pylock_environments.proofs.ReleaseLemmas.{among_behind, among_none}
use Rattle.pylock_environments.proofs.releases.is_among.Goals as goal

pub returns-in-Some : goal.returns-in-Some
returns-in-Some c =
    let text = c.as_bytes.ensures.value in
    let front = c.as_bytes-2.ensures.value in
    let behind = strip_prefix_is unsigned_Decides c.as_bytes.result.now c.as_bytes-2.result.now (Some c.in-Some.digits) c.in-Some.ensures.cases in
    c.is_up_to.ensures
    ∙ sym (among_behind c.args.text.now c.args.front.now c.in-Some.digits.now c.args.last (sym text ∙ behind ∙ ap (λ f. f ++ c.in-Some.digits.now) front))

pub returns-in-None : goal.returns-in-None
returns-in-None c =
    let text = c.as_bytes.ensures.value in
    let front = c.as_bytes-2.ensures.value in
    let other = strip_prefix_is unsigned_Decides c.as_bytes.result.now c.as_bytes-2.result.now None c.in-None.ensures.cases in
    sym (among_none c.args.text.now c.args.front.now c.args.last (λ rest is. other rest (text ∙ is ∙ ap (λ f. f ++ rest) (sym front))))
