use Rattle.std.proofs.Common.{◌∙◌, ap, option_map, sym, unwrap_or}
use Rattle.std.specs.FinSet as set
use Rattle.std.specs.List.Sorted.{IsStrictlySortedBy}
use Rattle.pymark_core.proofs.names.SharedNames.iter.Goals as goal

pub returns-in-None : goal.returns-in-None
unfolding IsStrictlySortedBy
returns-in-None c = record {
  whole = ap (λ n. unwrap_or (option_map (λ names. names.value) n) set.empty) (sym c.in-None.is) ∙ c.self.view_is;
  rise = tt;
}
