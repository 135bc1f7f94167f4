use Rattle.std.proofs.Common.{arith, ap}
use Rattle.std.proofs.lemmas.Result.{IfOk-weaker, on_ok_weaker, on_err_weaker}
use Rattle.pylock_run.specs.Stream.Memory.{PiecesValue}
use Rattle.pylock_run.proofs.ReadLemmas.{ReadConsumes-known}
use Rattle.pylock_run.proofs.stream.memory.PiecesSource.TheImpl.Goals as goal

pub read-tells : goal.read-tells
read-tells g c = record {
  bound = IfOk-weaker c.result _ _ (λ n count. omega arith) c.ensures.count;
  given = ReadConsumes-known c.result _ _ _ c.ensures.given c.ensures.end (on_err_weaker c.result (ap (λ (p : PiecesValue). p.rest)) c.ensures.err);
  counted = on_ok_weaker c.result (ap (λ (p : PiecesValue). p.failures)) c.ensures.ok;
  failed = on_err_weaker c.result (ap (λ (p : PiecesValue). p.failures)) c.ensures.err;
}
