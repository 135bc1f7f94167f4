use Rattle.std.proofs.Common.{◌∙◌, ◌++◌, ap, false, map, true}
use Rattle.pylock_compare.proofs.RowLemmas.{in_turn}
use Rattle.pylock_core.specs.Session.Picks.{lent_source}
use Rattle.pylock_diff.specs.Sources.{file_change}
use Rattle.pylock_diff.proofs.sources.push_lone_sources.Goals as goal

pub returns : goal.returns
returns c =
    let name = c.args.name.now in
    let start = c.args.changes.now.items in
    let middle = c.push_files.new.changes.items in
    in_turn start middle c.push_files-2.new.changes.items _ _
    (c.in_ok-push_files.ensures ∙ ap (λ sources. start ++ map (file_change name true) sources) (ap (map lent_source) c.as_slice.ensures.value ∙ c.in_ok-gone.ensures))
    (c.in_ok-push_files-2.ensures ∙ ap (λ sources. middle ++ map (file_change name false) sources) (ap (map lent_source) c.as_slice-2.ensures.value ∙ c.in_ok-come.ensures))
