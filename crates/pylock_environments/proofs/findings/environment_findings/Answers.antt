use Rattle.std.proofs.Common.{◌≡◌, ℕ, ◌+◌, ◌<◌, Some, ap, arith, length, refl, subst, sym, ◌∙◌}
use Rattle.std.specs.Prelude.{slice_get}
use Rattle.std.proofs.lemmas.Option.{slice_get_read}
use Rattle.pylock_readers.specs.Entry.{EntryValue}
use Rattle.pylock_readers.specs.Lock.{HeadValue}
use Rattle.pylock_environments.specs.Findings.{Clashes, place}
use Rattle.pylock_environments.specs.Inner.{AreBefore, named_before, numbered, values_under}
use Rattle.pylock_environments.proofs.RowLemmas.{all_whole, passed_more}
use Rattle.pylock_environments.proofs.findings.environment_findings.Goals as goal

pub loop-index-preserved : goal.loop-index-preserved
loop-index-preserved c =
    let i = c.loop-index.index in
    let entries = c.args.entries.now in
    let e = c.index-entries-index.result in
    let below : i < length entries = omega arith in
    let at : slice_get entries i ≡ Some e = slice_get_read entries (length entries) i e refl below c.index-entries-index.is in
    let weighed = c.in_ok-weighed.weighed in
    let number = c.in_ok-weighed.ensures.number in
    let entry = c.in_ok-weighed.ensures.entry in
    let head = c.in_ok-lock.lock.head.now in
    let fs = c.loop-index.findings.items in
    let new = c.push_entry.new.findings.items in
    let start : AreBefore head entries (place weighed.number Clashes) fs =
    subst (λ (h : HeadValue). AreBefore h entries (place weighed.number Clashes) fs) (sym c.in_ok-lock.ensures)
    (subst (λ (n : ℕ). AreBefore c.args.head.now entries (place n Clashes) fs) (sym number) c.loop-index.invariant.1) in
    let after = c.in_ok-push_entry.ensures entries i number (at ∙ ap (λ (x : EntryValue). Some x) (sym entry))
    (ap numbered c.values_under-others.ensures ∙ c.loop-index.invariant.0 c.name.result.now
    ∙ ap (λ n. named_before n i entries) (c.name.ensures ∙ ap (λ (x : EntryValue). x.name) (sym entry))) start in (
      λ name. passed_more name c.name-in-loop-index.result.now i entries e (values_under c.loop-index.passed name) (values_under c.add_value.new.named name) weighed
          at number entry c.name-in-loop-index.ensures (c.loop-index.invariant.0 name) (c.in_ok-add_value.ensures name),
      subst (λ (h : HeadValue). AreBefore h entries (place (i + 1 + 1) Clashes) new) c.in_ok-lock.ensures
          (subst (λ (n : ℕ). AreBefore head entries (place (n + 1) Clashes) new) number after),
    )

pub returns-clause-whole : goal.returns-clause-whole
returns-clause-whole c =
    let past : length c.args.entries.now < c.loop-index.index + 1 = omega arith in
    all_whole c.args.head.now c.args.entries.now (c.loop-index.index + 1) c.loop-index.findings.items past c.loop-index.invariant.1
