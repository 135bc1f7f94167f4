use Rattle.std.proofs.Common.{◌∙◌, Bor, List, Option, ℕ, ap, ap₂, sym}
use Rattle.std.specs.Option.{option_copied}
use Rattle.toml.specs.View.{members_view}
use Rattle.pytoml.proofs.Tables.{members_view-insert_entry}
use Rattle.pytoml.specs.Members.{with_member}
use Rattle.pylock_diff.specs.Picks.{put}
use Rattle.pylock_diff.proofs.picks.put.Goals as goal

pub returns-in_ok-insert : goal.returns-in_ok-insert
returns-in_ok-insert c =
    let old = c.args.table.now.entries in
    ap members_view c.in_ok-insert.ensures.entries
    ∙ members_view-insert_entry old c.in_ok-from_str.field-0 c.in_ok-string.field-0
    ∙ ap₂ (λ k d. with_member k d (members_view old)) c.in_ok-from_str.ensures.ok c.in_ok-string.ensures
    ∙ ap (λ (text : Option (Bor (List ℕ))). put c.args.key.now (option_copied text) (members_view old)) (sym c.in-Some.is)
