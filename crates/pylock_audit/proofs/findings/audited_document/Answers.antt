use Rattle.toml.specs.Data.{no_items}
use Rattle.pylock_audit.proofs.findings.audited_document.Goals as goal

pub returns : goal.returns
returns c = c.audited.ensures no_items c.new.ensures.packages c.new.ensures.tables
