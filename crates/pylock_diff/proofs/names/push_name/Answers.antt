use Rattle.std.proofs.Common.{◌∙◌, ◌++◌, append-nil, ap, sym}
use Rattle.pylock_diff.specs.Inner.Lent.{lent_items}
use Rattle.pylock_diff.proofs.PartnerLemmas.{same_untold}
use Rattle.pylock_diff.proofs.names.push_name.Goals as goal

pub returns-then-have_same_keys : goal.returns-then-have_same_keys
returns-then-have_same_keys c =
    let changes = c.args.changes.now.items in
    sym (append-nil changes)
    ∙ ap (λ told. changes ++ told)
    (sym (same_untold c.args.name.now (lent_items c.args.olds.now) (lent_items c.args.news.now) (c.have_same_keys.ensures c.if-have_same_keys.true)))
