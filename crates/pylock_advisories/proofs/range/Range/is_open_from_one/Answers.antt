use Rattle.std.proofs.Common.{◌∙◌}
use Rattle.pylock_advisories.proofs.RangeLemmas.{last_decides}
use Rattle.pylock_advisories.proofs.range.Range.is_open_from_one.Goals as goal

pub returns : goal.returns
returns c = c.is_open_from_latest.ensures ∙ last_decides c.args.version.now c.args.self.now
