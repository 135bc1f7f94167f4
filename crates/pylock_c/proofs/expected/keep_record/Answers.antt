-- What is told is the outcome itself.
use Rattle.std.proofs.Common.{rules}
use Rattle.pylock_c.proofs.ExpectedLemmas.{gives_itself, told}
use Rattle.pylock_c.proofs.expected.keep_record.Goals as goal

pub returns : goal.returns
returns c =
    let t = c.keep_text.ensures (told c.args.outcome) (gives_itself c.args.outcome) in
    (told c.args.outcome, (t.0, t.1, Prim.search rules, t.3))
