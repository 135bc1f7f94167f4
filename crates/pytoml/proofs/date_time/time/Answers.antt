use Rattle.std.proofs.Common.{arith}
use Rattle.pytoml.proofs.Dates.{time_at}
use Rattle.pytoml.proofs.date_time.time.Goals as goal

pub returns : goal.returns
returns c =
    time_at c.args.bytes.now c.in_ok-hour.hour c.in_ok-minute.minute c.in_ok-second.second c.requires
    c.in_ok-hour.ensures (omega arith) c.in_ok-minute.ensures (omega arith) c.in_ok-second.ensures
