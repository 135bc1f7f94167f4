use Rattle.std.proofs.Common.{◌∙◌, ap, map}
use Rattle.std.specs.FinSet.{from_list}
use Rattle.std.specs.Prelude.{string_bytes}
use Rattle.pymark_core.proofs.Lemmas.Environment.Names.{bytes_rise}
use Rattle.pymark_core.proofs.names.NameSet.iter.Goals as goal

pub returns : goal.returns
returns c = record {
  whole = ap (λ names. from_list (map string_bytes names)) c.iter.ensures.rest ∙ c.self.view_is;
  rise = rw c.iter.ensures.rest (bytes_rise _ c.iter.ensures.ordered);
}
