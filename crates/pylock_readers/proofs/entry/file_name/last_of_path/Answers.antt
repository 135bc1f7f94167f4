use Rattle.std.proofs.Common.{◌≡◌, ◌<◌, true, get_or, arith, rules}
use Rattle.std.proofs.lemmas.Str.{IsCharBoundary-after_ascii}
use Rattle.pylock_readers.specs.Entry.FileName.{ends_segment}
use Rattle.pylock_readers.proofs.FileNameLemmas.{after_last_at}
use Rattle.pylock_readers.proofs.entry.file_name.last_of_path.Goals as goal

pub range_from-requires : goal.range_from-requires
range_from-requires c _ =
    let separates : ends_segment (get_or c.args.path.now c.in-Some.at 0) ≡ true = search rules in
    let ascii : get_or c.args.path.now c.in-Some.at 0 < 128 = grind arith in
    IsCharBoundary-after_ascii _ _ c.utf8.path (search rules) ascii

pub returns-in-Some : goal.returns-in-Some
returns-in-Some c =
    let found = after_last_at ends_segment c.args.path.now c.in-Some.at (search rules) (search rules) (search rules) in
    rw found (search rules)
