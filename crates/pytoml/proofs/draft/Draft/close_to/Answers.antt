use Rattle.std.proofs.Common.{refl, arith}
use Rattle.pytoml.proofs.Levels.{whole_path}
use Rattle.pytoml.proofs.draft.Draft.close_to.Goals as goal

pub loop-self-init : goal.loop-self-init
loop-self-init c = (omega arith, λ rings inner h. (rings, inner, h, refl, whole_path c.args.self.now rings inner h))
