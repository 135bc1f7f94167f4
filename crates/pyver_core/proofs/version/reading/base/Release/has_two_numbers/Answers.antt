use Rattle.std.proofs.Common.{◌∙◌, List, ℕ, ap, sym, length}
use Rattle.std.specs.Prelude.{is_some, nat_le}
use Rattle.pyver_core.proofs.Lemmas.Version.Reading.TwoNumbers.{is_some-option_map, two_numbers}
use Rattle.pyver_core.proofs.version.reading.base.Release.has_two_numbers.Goals as goal

pub returns : goal.returns
returns c =
    c.is_some.ensures ∙ sym (is_some-option_map _ c.read_dotted_number.result) ∙ ap is_some c.read_dotted_number.ensures
    ∙ two_numbers c.self.inside.first c.self.inside.others.now
    ∙ ap (λ (ns : List ℕ). nat_le 2 (length ns)) c.self.view_is
