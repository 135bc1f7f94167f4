use Rattle.std.proofs.Common.{slice_get, rules}
use Rattle.std.proofs.lemmas.Iterator.{YieldsList-from_chars}
use Rattle.std.proofs.lemmas.Iterator.Consumers.{nth_from_yields_List}
use Rattle.std.specs.Str.{chars}
use Rattle.pylock_audit.proofs.UnsafeLemmas.{is_colon_by}
use Rattle.pylock_audit.proofs.unsafe_text.has_drive.Goals as goal

pub returns : goal.returns
returns c =
    let second = nth_from_yields_List c.nth.result _ 1 c.nth.ensures.ran (YieldsList-from_chars c.args.text.now c.utf8.text cc) in
    is_colon_by c.eq.result c.nth.result (slice_get (chars c.args.text.now) 1) (search rules) second
