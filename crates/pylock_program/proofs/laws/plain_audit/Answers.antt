use Rattle.pylock_program.proofs.PlainAuditLemmas.{plain_document, plain_lines}
use Rattle.pylock_program.proofs.laws.plain_audit.Goals as goal

pub returns-clause-lines : goal.returns-clause-lines
returns-clause-lines c asked lock sink sink' result shown environments hosts ignored fail_on prints =
    plain_lines asked lock sink sink' result shown environments hosts ignored fail_on prints

pub returns-clause-document : goal.returns-clause-document
returns-clause-document c asked lock sink sink' result shown environments hosts ignored fail_on prints =
    plain_document asked lock sink sink' result shown environments hosts ignored fail_on prints
