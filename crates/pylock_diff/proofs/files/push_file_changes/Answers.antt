use Rattle.std.proofs.Common.{◌∙◌, ◌++◌, ap}
use Rattle.pylock_compare.proofs.RowLemmas.{in_turn}
use Rattle.pylock_diff.specs.Files.{places_told}
use Rattle.pylock_diff.specs.Hashes.{hashes_told}
use Rattle.pylock_diff.specs.Sources.{file_changes}
use Rattle.pylock_diff.proofs.files.push_file_changes.Goals as goal

pub returns : goal.returns
returns c =
    let name = c.args.name.now in
    let start = c.args.changes.now.items in
    let files = c.push_hashes.new.changes.items in
    let hashes = in_turn start files c.push_hashes-2.new.changes.items _ _
    (c.in_ok-push_hashes.ensures ∙ ap (λ more. start ++ more) (c.in_ok-files.ensures (λ file. hashes_told name)))
    (c.in_ok-push_hashes-2.ensures ∙ ap (λ more. files ++ more) (c.in_ok-archives.ensures (λ file. hashes_told name))) in
    c.in_ok-push_places.ensures
    ∙ (λ i. (c.in_ok-push_lone_sources.ensures ∙ ap (λ front. front ++ file_changes name c.args.olds.now c.args.news.now) hashes) i ++ c.in_ok-files.ensures (λ file. places_told name) i)
