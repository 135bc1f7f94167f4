use Rattle.std.proofs.Common.{string_bytes, arith}
use Rattle.std.proofs.lemmas.Grind.{common_steps}
use Rattle.pytoml.proofs.Keys.{key_equals-single}
use Rattle.pytoml.proofs.key.other_key_equals.Goals as goal

pub returns-clause-value : goal.returns-clause-value
returns-clause-value c =
    let read = c.in-Ok.read in
    let is = key_equals-single c.args.s.now read.1.now read.0.path.items (string_bytes read.0.last) c.in-Ok.ensures.value (grind (arith, common_steps)) (omega (arith, c.first.ensures)) in
    rw (c.past_ws.ensures.rest, c.skip.ensures.rest) is
