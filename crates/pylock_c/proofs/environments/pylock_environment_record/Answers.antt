-- The record is that of what was taken out.
use Rattle.std.proofs.Common.{ap, rules}
use Rattle.pylock_c.specs.Markers.{environment_in}
use Rattle.pylock_c.proofs.EnvironmentLemmas.{records_kept}
use Rattle.pylock_c.proofs.ExpectedLemmas.{gives_itself, told}
use Rattle.pylock_c.proofs.environments.pylock_environment_record.Goals as goal

pub returns-clause-told : goal.returns-clause-told
returns-clause-told c =
    let outcome = c.record_in.result in
    records_kept outcome (ap environment_in c.take-kept.ensures.taken) (Prim.search rules) c.record_in.ensures
    (c.keep_text-code.ensures (told outcome) (gives_itself outcome))
