use Rattle.std.proofs.Common.{◌≡◌, ◌∙◌, ◌<◌, ℕ, [], not, nat_eq, cond, length, ap, sym, eq-eqb, arith}
use Rattle.std.specs.Global.{Global}
use Rattle.std.specs.declared.vec.Vec.{Vec}
use Rattle.std.proofs.lemmas.Bool.{ne_eqb}
use Rattle.std.proofs.lemmas.List.{get_or-map}
use Rattle.pylock_core.specs.Inner.Tables.Index.{list_at, moved}
use Rattle.pylock_core.proofs.Lemmas.Tables.Index.{set_list}
use Rattle.pylock_core.proofs.session.tables.names.change_member.Goals as goal

pub returns-clause-members : goal.returns-clause-members
returns-clause-members c = λ n.
    let lists = c.args.names.now.members.items in
    let number = c.args.number in
    let within : number < length lists = omega (arith, c.requires.within, c.requires.is.even) in
    let new = moved c.args.entry (not c.args.is) c.args.is in
    let here : c.move_in_list.new.numbers.items ≡ new (list_at lists number) =
    c.move_in_list.ensures ∙ ap (λ list. new list.items) c.index_mut.ensures.value
    ∙ ap new (sym (get_or-map (λ (list : Vec ℕ Global). list.items) lists number c.index_mut.result.now [] within)) in
    set_list (λ ns. ns ≡ cond (nat_eq n number) (new (list_at lists n)) (list_at lists n)) lists number n c.move_in_list.new.numbers within
    (λ same. here ∙ sym (ap (λ b. cond b (new (list_at lists n)) (list_at lists n)) (eq-eqb n number same) ∙ ap (λ k. new (list_at lists k)) same))
    (λ ne. sym (ap (λ b. cond b (new (list_at lists n)) (list_at lists n)) (ne_eqb n number ne)))
