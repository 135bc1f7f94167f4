use Rattle.std.proofs.Common.{◌∙◌, ◌++◌, ap, append-nil, sym}
use Rattle.pylock_readers.specs.Text.{text_pairs}
use Rattle.pylock_core.specs.Session.Picks.{lent_source}
use Rattle.pylock_audit.specs.Source.{tested_hashes}
use Rattle.pylock_audit.proofs.HashLemmas.{none_told}
use Rattle.pylock_audit.proofs.source.push_tested_hashes.Goals as goal

pub returns-then-not-any_told : goal.returns-then-not-any_told
returns-then-not-any_told c =
    let list = c.args.list.now.items in
    let source = lent_source c.args.source in
    let none = none_told c.args.kind source (text_pairs c.hashes-hashes.result.now) (sym c.any_told.ensures ∙ c.if-not-any_told.true) in
    sym (append-nil list) ∙ ap (λ more. list ++ more) (sym none ∙ ap (tested_hashes c.args.kind source) c.hashes-hashes.ensures)
