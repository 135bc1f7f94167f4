-- What is printed of locks that were read, or of a refusal, is the report on the question.
use Rattle.std.proofs.Common.{◌∙◌, [], ap, sym}
use Rattle.pytext.specs.Results.{◌>>=◌}
use Rattle.pylock_program.specs.Files.{chosen_sources, files_form, is_described, is_several, locks_from, sources_report}
use Rattle.pylock_program.specs.Inner.Audit.{file_bytes}
use Rattle.pylock_program.proofs.OpeningLemmas.{refused}
use Rattle.pylock_program.proofs.files.write_files.Goals as goal

pub returns-in-Err : goal.returns-in-Err
returns-in-Err g c =
    let asked = c.args.asked.now in
    refused (files_form asked.output) c.files_form.result (sources_report asked.output (is_several asked))
    (locks_from [] (is_described asked.output) (file_bytes c.args.files.now) >>= chosen_sources (is_several asked) asked.options.items)
    c.in-Err.refusal.cause _ _ _ c.files_form.ensures c.write_refusal.ensures.printed c.write_refusal.ensures.memory
    (λ other. ap (λ read. read >>= chosen_sources (is_several asked) asked.options.items)
    (ap (λ d. locks_from [] d (file_bytes c.args.files.now)) (sym c.is_described.ensures) ∙ c.in-Err.ensures other))
