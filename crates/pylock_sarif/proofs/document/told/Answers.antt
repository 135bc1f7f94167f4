use Rattle.std.proofs.Common.{arith, sym}
use Rattle.std.proofs.lemmas.List.{length-take-le, take_all}
use Rattle.pylock_sarif.proofs.document.told.Goals as goal

pub slice_bounds-result-end : goal.slice_bounds-result-end
slice_bounds-result-end c = sym (length-take-le 25000 c.args.results.now (omega arith))

pub returns-else-results-gt-MOST_RESULTS : goal.returns-else-results-gt-MOST_RESULTS
returns-else-results-gt-MOST_RESULTS c = sym (take_all 25000 c.args.results.now (omega arith))
