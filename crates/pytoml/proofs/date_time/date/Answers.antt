use Rattle.std.proofs.Common.{arith}
use Rattle.pytoml.proofs.Dates.{date_at}
use Rattle.pytoml.proofs.date_time.date.Goals as goal

pub returns : goal.returns
returns c =
    let century = c.in_ok-century in
    let year = c.in_ok-year in
    let month = c.in_ok-month in
    let day = c.in_ok-day in
    rw (c.from.ensures, c.from-2.ensures) (date_at c.args.bytes.now century.century year.year month.month day.day c.requires century.ensures year.ensures (omega arith)
    month.ensures (omega arith) day.ensures)
