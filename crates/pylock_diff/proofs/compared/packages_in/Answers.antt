use Rattle.std.proofs.Common.{◌∙◌, ap, codes}
use Rattle.toml.proofs.Views.{table_get}
use Rattle.pylock_diff.specs.Compared.{items_at}
use Rattle.pylock_diff.proofs.compared.packages_in.Goals as goal

pub returns : goal.returns
returns c =
    c.items_at.ensures ∙ ap items_at (table_get c.get.result (codes "packages") c.args.document.now.entries c.get.ensures.value)
