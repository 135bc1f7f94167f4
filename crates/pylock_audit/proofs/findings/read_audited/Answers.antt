use Rattle.pylock_audit.proofs.TableLemmas.{given_audited, given_found}
use Rattle.pylock_audit.proofs.findings.read_audited.Goals as goal

pub returns-clause-both : goal.returns-clause-both
returns-clause-both c = given_audited c.args.bytes.now c.audited_bytes.result c.audited_bytes.ensures

pub returns-clause-found : goal.returns-clause-found
returns-clause-found c = given_found c.args.bytes.now c.audited_bytes.result c.audited_bytes.ensures
