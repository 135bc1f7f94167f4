use Rattle.std.proofs.Common.{◌≡◌, Some, rules, string_bytes, true}
use Rattle.std.proofs.lemmas.Map.Text.{btree_set_updates_text}
use Rattle.pylock_readers.specs.Entry.{file_name}
use Rattle.pylock_audit.proofs.NameLemmas.{holds_more}
use Rattle.pylock_audit.proofs.files.push_same_name.Goals as goal

pub returns-clause-earlier : goal.returns-clause-earlier
returns-clause-earlier c = λ names holds.
    let named : file_name c.args.file.now ≡ Some c.in-Some.name.now = search rules in
    let same : string_bytes c.in_ok-from_str.field-0 ≡ c.in-Some.name.now = search rules in
    let key = string_bytes c.in_ok-from_str.field-0 in
    let updated = btree_set_updates_text key c.args.earlier.now c.insert.new.self true c.in_ok-insert.ensures.updates in
    rw (named, ← same) (holds_more c.args.earlier.now c.insert.new.self key names updated holds)
