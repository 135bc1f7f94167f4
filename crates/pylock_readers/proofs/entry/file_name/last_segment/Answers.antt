use Rattle.std.proofs.Common.{rules}
use Rattle.pylock_readers.specs.Entry.FileName.{is_slash}
use Rattle.pylock_readers.proofs.FileNameLemmas.{after_last_at}
use Rattle.pylock_readers.proofs.entry.file_name.last_segment.Goals as goal

pub returns-in-Some : goal.returns-in-Some
returns-in-Some c =
    let found = after_last_at is_slash c.args.path.now c.in-Some.at (search rules) (search rules) (search rules) in
    rw found (search rules)
