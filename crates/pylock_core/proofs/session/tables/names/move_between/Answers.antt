use Rattle.std.proofs.Common.{◌∙◌, nat_eq, true, false, cond, subst, ap, sym}
use Rattle.std.proofs.lemmas.Bool.{ne_eqb}
use Rattle.pylock_core.specs.Inner.Tables.Index.{list_at, moved}
use Rattle.pylock_core.specs.Session.State.{Rises}
use Rattle.pylock_core.proofs.Lemmas.Tables.Index.{moved_same, moved_two}
use Rattle.pylock_core.proofs.session.tables.names.move_between.Goals as goal

pub returns-then-was-is-clause-members : goal.returns-then-was-is-clause-members
returns-then-was-is-clause-members c = λ n.
    let list = list_at c.args.names.now.members.items n in
    moved_same c.args.entry (nat_eq n c.args.was) list ∙ ap (λ k. moved c.args.entry (nat_eq n c.args.was) (nat_eq n k) list) c.if-was-is.true

pub change_member-requires-2-clause-rises : goal.change_member-requires-2-clause-rises
change_member-requires-2-clause-rises c =
    let was = c.args.was in
    let lists = c.args.names.now.members.items in
    subst (Rises 0)
    (sym (c.change_member.ensures.members was ∙ ap (λ b. cond b (moved c.args.entry false true (list_at lists was)) (list_at lists was)) (ne_eqb was c.args.is c.if-was-is.false)))
    c.requires.was_rises

pub returns-clause-members : goal.returns-clause-members
returns-clause-members c = λ n.
    moved_two n c.args.was c.args.is c.args.entry _ _ _ c.if-was-is.false (c.change_member.ensures.members n) (c.change_member-2.ensures.members n)
