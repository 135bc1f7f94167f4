use Rattle.std.proofs.Common.{rules}
use Rattle.pylock_union.proofs.TextLemmas.{cut_end}
use Rattle.pylock_union.proofs.lines.take_end.Goals as goal

pub returns : goal.returns
returns c = λ line is. cut_end c.args.out.now.items line c.pop-end.new.self.items c.args.out.now.len is c.pop-end.ensures.rest (search rules)
