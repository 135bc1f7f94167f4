use Rattle.std.proofs.Common.{string_bytes, rules}
use Rattle.pylock_audit.proofs.PrintableLemmas.{printable_hash}
use Rattle.pylock_audit.proofs.control.is_printable_hash.Goals as goal

pub returns-then-is_printable : goal.returns-then-is_printable
returns-then-is_printable c = λ yes.
    printable_hash (string_bytes c.args.hash.now.0) (string_bytes c.args.hash.now.1) (search rules) (search rules)
