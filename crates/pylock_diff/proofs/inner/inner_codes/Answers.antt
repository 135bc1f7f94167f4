use Rattle.std.proofs.Common.{◌∙◌, ◌++◌, [], ap, codes}
use Rattle.toml.specs.Data.{get_member}
use Rattle.toml.specs.View.{table_view}
use Rattle.pylock_compare.proofs.RowLemmas.{five_in_turn}
use Rattle.pylock_diff.specs.Codes.{Rows}
use Rattle.pylock_diff.specs.SourceKeys.{other_rows}
use Rattle.pylock_diff.specs.declared.inner.SourceTable.TheVariants as kinds
use Rattle.pylock_diff.proofs.InnerLemmas.{source_at, wheels_at}
use Rattle.pylock_diff.proofs.inner.inner_codes.Goals as goal

pub returns : goal.returns
returns c =
    let entries = c.args.entry.now.entries in
    let one = source_at c.get.result (codes "vcs") entries c.get.ensures.value kinds.Vcs c.new-codes.result c.push_source.new.codes c.in_ok-push_source.ensures in
    let two = source_at c.get-2.result (codes "directory") entries c.get-2.ensures.value kinds.Directory c.push_source.new.codes c.push_source-2.new.codes c.in_ok-push_source-2.ensures in
    let three = source_at c.get-3.result (codes "archive") entries c.get-3.ensures.value kinds.Archive c.push_source-2.new.codes c.push_source-3.new.codes c.in_ok-push_source-3.ensures in
    let four = wheels_at c.get-4.result (codes "wheels") entries c.get-4.ensures.value c.push_source-3.new.codes c.push_wheels.new.codes c.in_ok-push_wheels.ensures in
    let five = source_at c.get-5.result (codes "sdist") entries c.get-5.ensures.value kinds.File c.push_wheels.new.codes c.push_source-4.new.codes c.in_ok-push_source-4.ensures in
    five_in_turn [] c.push_source.new.codes c.push_source-2.new.codes c.push_source-3.new.codes c.push_wheels.new.codes c.push_source-4.new.codes _ _ _ _ _
    (one ∙ ap (λ (front : Rows). front ++ other_rows kinds.Vcs (get_member (codes "vcs") (table_view c.args.entry.now))) c.new-codes.ensures) two three four five
