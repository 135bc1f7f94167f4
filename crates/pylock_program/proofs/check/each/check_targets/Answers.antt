-- What `matrix` is asked with the same words is what the question asks.
use Rattle.std.proofs.Common.{subst}
use Rattle.pylock_program.specs.Program.{ChecksTargets, Opens}
use Rattle.pylock_program.proofs.check.each.check_targets.Goals as goal

pub returns : goal.returns
returns g c = subst (λ matrix. Opens (g.F.Files.read_gives c.args.host.now.files) matrix.lock.now
    (λ lock. Opens (g.F.Files.read_gives c.args.host.now.files) c.args.asked.project.now (ChecksTargets c.args.asked.form matrix lock))
    (g.R.Source.value c.args.host.now.reader) (g.R.Source.value c.check_each.new.host.reader)
    (g.W.Sink.value c.args.host.now.outputs.writer) (g.W.Sink.value c.check_each.new.host.outputs.writer) c.check_each.result)
    c.matrix_of-matrix.ensures c.check_each.ensures
