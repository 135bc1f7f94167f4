use Rattle.std.proofs.Common.{◌≡◌, false, sym, ◌∙◌}
use Rattle.std.specs.Prelude.{codes}
use Rattle.std.specs.Str.{bytes_eq}
use Rattle.pymark_expected.proofs.marker.follow.is_set_word.Goals as goal

pub returns-else-eq : goal.returns-else-eq
returns-else-eq c =
    let other : bytes_eq c.args.letters.now (codes "extras") ≡ false = sym c.eq.ensures ∙ c.if-eq.false in
    rw other c.eq-else-eq.ensures
