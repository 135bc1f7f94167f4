use Rattle.std.proofs.Common.{◌≡◌, ◌∙◌, List, ℕ, ap, subst, sym, true}
use Rattle.std.proofs.lemmas.Result.{IfOk-weaker}
use Rattle.pymark_expected.proofs.CutLemmas.{at_end, behind_url_ends, marker_ends, url_ends}
use Rattle.pymark_expected.proofs.requirement.refused.Goals as goal
use Rattle.pymark_expected.specs.Kinds.{is_of_grammar}
use Rattle.pymark_expected.specs.Requirement.{IsStopWithin, behind_url, marker, source, url}
use Rattle.pymark_expected.specs.Stretch.{EndsWith}

pub returns-in-Url-clause-place : goal.returns-in-Url-clause-place
returns-in-Url-clause-place c =
    let text = c.args.text.now in
    let is : c.url.result.now ≡ url (source text) = c.url.ensures ∙ ap url c.source-source.ensures in
    rw c.in-Url.is (at_end text (url (source text)) c.url.result.now c.fault_at.result (url_ends text) is c.fault_at.ensures.end)

pub returns-in-Trailing-clause-place : goal.returns-in-Trailing-clause-place
returns-in-Trailing-clause-place c =
    let text = c.args.text.now in
    let is : c.behind_url.result.now ≡ behind_url (url (source text)) = c.behind_url.ensures ∙ ap behind_url (c.url-url.ensures ∙ ap url c.source-source.ensures) in
    rw c.in-Trailing.is (at_end text (behind_url (url (source text))) c.behind_url.result.now c.fault_between.result (behind_url_ends text) is c.fault_between.ensures.end)

pub returns-in-Marker-clause-place : goal.returns-in-Marker-clause-place
returns-in-Marker-clause-place c =
    let text = c.args.text.now in
    let is : c.marker.result.now ≡ marker (source text) = c.marker.ensures ∙ ap marker c.source-source.ensures in
    let ends : EndsWith text c.marker.result.now = subst (EndsWith text) (sym is) (marker_ends text) in
    rw c.in-Marker.is
    (IfOk-weaker c.marker_part_fault.result
    (λ fault. is_of_grammar fault.expected ≡ true → EndsWith text c.marker.result.now → IsStopWithin text c.marker.result.now fault)
    (λ fault. is_of_grammar fault.expected ≡ true → IsStopWithin text (marker (source text)) fault)
    (λ fault stop grammar. subst (λ (m : List ℕ). IsStopWithin text m fault) is (stop grammar ends))
    c.marker_part_fault.ensures.place)
