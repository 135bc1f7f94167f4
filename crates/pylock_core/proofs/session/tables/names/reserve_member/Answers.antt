use Rattle.std.proofs.Common.{◌∙◌, ap, arith}
use Rattle.pylock_core.proofs.Lemmas.Tables.Index.{kept_at}
use Rattle.pylock_core.proofs.Lemmas.Tables.Names.{members_same}
use Rattle.pylock_core.proofs.session.tables.names.reserve_member.Goals as goal

pub returns-clause-members : goal.returns-clause-members
returns-clause-members c =
    let lists = c.args.names.now.members.items in
    members_same c.args.names.now _ (λ n. kept_at lists c.args.number n c.reserve_in_list.new.numbers c.index_mut.result.now (omega (arith, c.requires.within, c.requires.is.even))
    (c.reserve_in_list.ensures.kept ∙ ap (λ list. list.items) c.index_mut.ensures.value))
