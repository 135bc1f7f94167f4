use Rattle.std.proofs.Common.{◌∙◌, string_bytes, true}
use Rattle.std.proofs.lemmas.Map.Text.{btree_set_updates_text}
use Rattle.std.specs.BTreeSet.{contains_text}
use Rattle.std.specs.Str.{bytes_eq}
use Rattle.pylock_installed.proofs.TableLemmas.{either_has}
use Rattle.pylock_installed.proofs.reading.add_text.Goals as goal

pub returns-clause-added : goal.returns-clause-added
returns-clause-added c = λ other.
    let key = string_bytes c.args.name in
    btree_set_updates_text key c.args.names.now c.insert.new.self true c.in_ok-insert.ensures.updates other
    ∙ either_has (bytes_eq key other) (contains_text c.args.names.now other)
