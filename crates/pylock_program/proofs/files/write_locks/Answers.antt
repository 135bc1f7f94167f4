-- What is printed of a refusal is the report on the question.
use Rattle.pylock_program.specs.Files.{chosen_sources, files_form, is_several, sources_report}
use Rattle.pylock_program.specs.Inner.Files.{reads_view}
use Rattle.pylock_program.proofs.OpeningLemmas.{refused}
use Rattle.pylock_program.proofs.files.write_locks.Goals as goal

pub returns-in-Err : goal.returns-in-Err
returns-in-Err g c =
    let asked = c.args.asked.now in
    refused (files_form asked.output) c.files_form.result (sources_report asked.output (is_several asked))
    (chosen_sources (is_several asked) asked.options.items (reads_view c.args.locks.now))
    c.in-Err.refusal.cause _ _ _ c.files_form.ensures c.write_refusal.ensures.printed c.write_refusal.ensures.memory c.in-Err.ensures
