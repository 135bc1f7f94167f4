use Rattle.std.proofs.Common.{◌≡◌, ◌≤◌, ◌+◌, ◌*◌, ◌∙◌, ap, arith, length, subst, sym, fold, []}
use Rattle.std.proofs.lemmas.Result.{IfOk-weaker}
use Rattle.std.specs.Rc.{rc_str_bytes}
use Rattle.pywheel_core.specs.Inner.TargetWords.{AreParts}
use Rattle.pywheel_core.specs.Inner.Words.{words_at}
use Rattle.pywheel_core.specs.Spans.{at}
use Rattle.pywheel_core.specs.Tag.{with_tag}
use Rattle.pywheel_core.specs.declared.target.cpython.CPython.{CPython}
use Rattle.pywheel_core.proofs.Lemmas.Target.Distinct.{added_tags}
use Rattle.pywheel_core.proofs.Lemmas.Target.Parts.{enough_words, least_minor, parts_are, tag_parts, tags_are}
use Rattle.pywheel_core.proofs.tag_list.TagList.of_target.Goals as goal

pub new-parts-requires-clause-least : goal.new-parts-requires-clause-least
new-parts-requires-clause-least c =
    let low = least_minor c.args.target.now c.python.ensures.known in
    let minor = ap (λ (p : CPython). p.minor) c.python.ensures.python in
    omega (arith, low, minor, c.from.ensures)

pub new-parts-requires-clause-spans : goal.new-parts-requires-clause-spans
new-parts-requires-clause-spans c =
    let t = c.args.target.now in
    let minor = ap (λ (p : CPython). p.minor) c.python.ensures.python in
    let made = c.in_ok-text.ensures.words ∙ c.in_ok-of_target.ensures in
    let enough = enough_words t c.in_ok-text.spans.items (at (rc_str_bytes c.in_ok-text.text)) (least_minor t c.python.ensures.known) made in
    let same = ap length c.deref.ensures.value in
    omega (arith, enough, minor, same, c.from.ensures)

pub of_parts-requires : goal.of_parts-requires
of_parts-requires c =
    let t = c.args.target.now in
    let minor = c.from.ensures ∙ ap (λ (p : CPython). p.minor) c.python.ensures.python in
    let made : AreParts c.in_ok-text.spans.items t.python.minor c.new-parts.result = subst (λ n. AreParts c.in_ok-text.spans.items n c.new-parts.result) minor
    (subst (λ s. AreParts s c.from.result c.new-parts.result) c.deref.ensures.value c.new-parts.ensures) in
    tag_parts (rc_str_bytes c.in_ok-text.text) t c.in_ok-text.spans.items c.new-parts.result c.python.ensures.known c.in_ok-text.ensures.whole
    (c.in_ok-text.ensures.words ∙ c.in_ok-of_target.ensures) made

pub returns : goal.returns
returns c =
    let t = c.args.target.now in
    let text = rc_str_bytes c.in_ok-text.text in
    let minor = c.from.ensures ∙ ap (λ (p : CPython). p.minor) c.python.ensures.python in
    let made : AreParts c.in_ok-text.spans.items t.python.minor c.new-parts.result = subst (λ n. AreParts c.in_ok-text.spans.items n c.new-parts.result) minor
    (subst (λ s. AreParts s c.from.result c.new-parts.result) c.deref.ensures.value c.new-parts.ensures) in
    let parts = parts_are (at text) t c.in_ok-text.spans.items c.new-parts.result (c.in_ok-text.ensures.words ∙ c.in_ok-of_target.ensures) made in
    IfOk-weaker c.of_parts.result _ _ (λ list e. e ∙ ap (fold with_tag []) (tags_are text t c.new-parts.result parts) ∙ added_tags t c.python.ensures.known) c.of_parts.ensures
