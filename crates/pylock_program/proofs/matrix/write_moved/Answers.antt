-- What is printed of the files that targets take is the report on the question.
use Rattle.std.proofs.Common.{rules}
use Rattle.pylock_program.proofs.MatrixLemmas.{files_printed}
use Rattle.pylock_program.proofs.matrix.write_moved.Goals as goal

pub returns : goal.returns
returns g c =
    let ok = c.in_ok-rows-in-Files in
    files_printed c.args.asked.now c.in-Files.output c.in_ok-settings.settings.items c.args.session.now.state c.rows_and_files.new.session.state
    c.args.cells.items ok.rows.items ok.picks.items c.rows_status-status-in-Files.result _ _ _ (search rules) (search rules) (search rules) (rw c.deref-in-Files.ensures.value at (ok.ensures.files c.requires))
    (search rules) (search rules) (search rules)
