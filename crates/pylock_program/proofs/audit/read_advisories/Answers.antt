use Rattle.std.proofs.Common.{◌≡◌, ◌∙◌, Err, ap, rules, subst, sym}
use Rattle.pylock_advisories.specs.File.{advisories_of, read_more}
use Rattle.pylock_program.proofs.AdvisoryLemmas.{file_refused, no_file_left, one_file}
use Rattle.pylock_program.proofs.audit.read_advisories.Goals as goal

pub returns-in-Err : goal.returns-in-Err
returns-in-Err c memory =
    sym c.loop-place.invariant
    ∙ file_refused c.args.files.now c.loop-place.place _ c.loop-place.advisories c.loop-place-test.true c.in-Err.error
    (ap (λ bytes. read_more c.loop-place.advisories (advisories_of bytes)) (sym (c.deref.ensures.value ∙ ap (λ f. f.bytes.items) c.index-files-place.is)) ∙ c.in-Err.ensures.read (search rules))
    ∙ ap (λ because. Err because) (sym c.of_advisories.ensures)

pub loop-place-preserved : goal.loop-place-preserved
loop-place-preserved c =
    sym (one_file c.args.files.now c.loop-place.place _ c.loop-place.advisories c.loop-place-test.true _
    (ap (λ bytes. read_more c.loop-place.advisories (advisories_of bytes)) (sym (c.deref.ensures.value ∙ ap (λ f. f.bytes.items) c.index-files-place.is)) ∙ c.in-Ok.ensures.read))
    ∙ c.loop-place.invariant

pub returns : goal.returns
returns c = sym c.loop-place.invariant ∙ no_file_left c.args.files.now c.loop-place.place _ c.loop-place.advisories c.loop-place-test.false
