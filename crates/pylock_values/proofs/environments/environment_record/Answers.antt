-- The record is the fields without the TAB before the first.
use Rattle.std.proofs.Common.{◌∙◌}
use Rattle.std.proofs.lemmas.Result.{IfOk-weaker}
use Rattle.pylock_values.proofs.EnvironmentLemmas.{record_made}
use Rattle.pylock_values.proofs.environments.environment_record.Goals as goal

pub returns : goal.returns
returns c =
    IfOk-weaker c.without_first.result _ _
    (λ made h. record_made c.args.environment.now _ _ _ _ _ _ _ made.items c.extras.ensures c.groups.ensures
    c.new-fields.ensures.items c.all.ensures c.in_ok-push_variables.ensures c.in_ok-push_names.ensures
    (c.deref.ensures.value ∙ c.in_ok-push_names-2.ensures) h)
    c.without_first.ensures
