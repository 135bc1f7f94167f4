use Rattle.std.proofs.Common.{◌≡◌, ◌∙◌, ◌+◌, ◌∷◌, [], ℕ, List, is_some, ap, sym, drop}
use Rattle.std.proofs.lemmas.List.{drop_more}
use Rattle.pylock_core.specs.Session.State.{with_policies, with_policy}
use Rattle.pylock_core.specs.Inner.Tables.Names.{number_named, policies_in}
use Rattle.pylock_core.proofs.Lemmas.Editing.Policies.{get_default}
use Rattle.pylock_core.proofs.session.tables.names.set_policies.Goals as goal

pub set_policy_of-requires-clause-known : goal.set_policy_of-requires-clause-known
set_policy_of-requires-clause-known c =
    let list = c.args.list.now in
    let i = c.loop-name.name-index in
    ap is_some (c.loop-name.invariant.numbers c.as_str.result.now)
    ∙ ap (λ (q : List ℕ). is_some (number_named c.args.names.now q)) (c.as_str.ensures.text ∙ c.name-item.is ∙ get_default list i c.name-item.result [] c.loop-name-test.true)
    ∙ c.requires.known i c.loop-name-test.true

pub loop-name-preserved : goal.loop-name-preserved
loop-name-preserved c =
    let list = c.args.list.now in
    let i = c.loop-name.name-index in
    let x = c.name-item.result in
    let rest = drop (i + 1) list in
    let old = policies_in c.loop-name.names in
    let more : drop i list ≡ x ∷ rest = drop_more list i x c.loop-name-test.true ∙ ap (λ e. e ∷ rest) (sym c.name-item.is) in
    record {
      policies = ap (λ ps. with_policies ps rest c.args.policy) (c.set_policy_of.ensures.policies ∙ ap (λ name. with_policy old name c.args.policy) c.as_str.ensures.text)
          ∙ ap (λ left. with_policies old left c.args.policy) (sym more)
          ∙ c.loop-name.invariant.policies;
      members = λ q. c.set_policy_of.ensures.members q ∙ c.loop-name.invariant.members q;
      numbers = λ q. c.set_policy_of.ensures.numbers q ∙ c.loop-name.invariant.numbers q;
      is = c.set_policy_of.ensures.is;
    }
