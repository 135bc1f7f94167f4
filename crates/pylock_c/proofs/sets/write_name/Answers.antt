use Rattle.std.proofs.Common.{◌≡◌, rules}
use Rattle.std.specs.Prelude.{Ok}
use Rattle.pyver_core.specs.Name.{normal_name}
use Rattle.pylock_c.specs.Sets.{name_of}
use Rattle.pylock_slots.proofs.AnswerLemmas.{writes_some}
use Rattle.pylock_c.proofs.sets.write_name.Goals as goal

pub returns-clause-written : goal.returns-clause-written
returns-clause-written c =
    let name = normal_name c.in_ok-ok.field-0.now in
    let gives : name_of c.args.bytes.now ≡ Ok name = search rules in
    writes_some _ (name_of c.args.bytes.now) name c.args.out.now c.write_normal_name.new.out c.write_normal_name.result gives
    c.write_normal_name.ensures.count c.write_normal_name.ensures.capacity c.write_normal_name.ensures.written
