use Rattle.std.proofs.Common.{◌≡◌, ◌∷◌, ◌++◌, [], codes, rules, string_bytes, unwrap_or}
use Rattle.std.proofs.lemmas.Result.{on_ok_weaker}
use Rattle.pylock_exports.specs.Inner.{written}
use Rattle.pylock_exports.specs.Listed.{url_of}
use Rattle.pylock_exports.specs.Lists.{value_of}
use Rattle.pylock_exports.specs.Texts.{lines_text}
use Rattle.pylock_command.specs.declared.form.FileFormat.TheVariants.{Aria2}
use Rattle.pylock_exports.proofs.TextLemmas.{six_lines}
use Rattle.pylock_exports.proofs.lists.push_aria2.Goals as goal

pub returns : goal.returns
returns c =
    let source = written c.args.source in
    let url : string_bytes c.push_whole.new.text ≡ string_bytes c.args.text.now ++ lines_text (unwrap_or (url_of source) [] ∷ []) = search rules in
    let file : string_bytes c.push_line.new.text ≡ string_bytes c.push_whole.new.text ++ lines_text ((codes " out=" ++ c.args.name.now) ∷ []) = search rules in
    let hash : string_bytes c.push_line-2.new.text ≡ string_bytes c.push_line.new.text ++ lines_text ((codes " checksum=sha-256=" ++ value_of Aria2 source) ∷ []) = search rules in
    on_ok_weaker c.push_whole-4.result
    (λ last. six_lines (string_bytes c.args.text.now) (string_bytes c.push_whole.new.text) (string_bytes c.push_line.new.text) (string_bytes c.push_line-2.new.text)
    (string_bytes c.push_whole-2.new.text) (string_bytes c.push_whole-3.new.text) (string_bytes c.push_whole-4.new.text)
    (unwrap_or (url_of source) []) (codes " out=" ++ c.args.name.now) (codes " checksum=sha-256=" ++ value_of Aria2 source)
    (codes " follow-torrent=false") (codes " follow-metalink=false") (codes " auto-file-renaming=false")
    url file hash c.in_ok-push_whole-2.ensures c.in_ok-push_whole-3.ensures last)
    c.push_whole-4.ensures
