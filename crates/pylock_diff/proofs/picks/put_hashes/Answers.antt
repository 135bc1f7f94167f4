use Rattle.std.proofs.Common.{◌∙◌, ap, ap₂, string_bytes}
use Rattle.toml.proofs.Views.{view-Table}
use Rattle.toml.specs.Data.{table}
use Rattle.toml.specs.View.{members_view}
use Rattle.toml.specs.declared.value.Value.TheVariants.{Table}
use Rattle.pytoml.proofs.Tables.{members_view-insert_entry}
use Rattle.pytoml.specs.Members.{with_member}
use Rattle.pylock_diff.proofs.picks.put_hashes.Goals as goal

pub returns : goal.returns
returns c =
    let old = c.args.table.now.entries in
    ap members_view c.in_ok-insert.ensures.entries
    ∙ members_view-insert_entry old c.in_ok-from_str.field-0 (Table c.in_ok-inner.inner)
    ∙ ap (λ d. with_member (string_bytes c.in_ok-from_str.field-0) d (members_view old)) (view-Table c.in_ok-inner.inner)
    ∙ ap₂ (λ key members. with_member key (table members) (members_view old)) c.in_ok-from_str.ensures.ok c.in_ok-inner.ensures
