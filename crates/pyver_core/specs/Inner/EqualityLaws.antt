-- Equality of specifiers as they are written is an equivalence. The laws of `Eq` cite this.
use Rattle.std.specs.Cmp.{IsEquivalence, on_equiv}
use Rattle.std.specs.Cmp.Lexicographic.{lists_equiv, nat_list_eq_equiv}
use Rattle.pyver_core.specs.Set.Equality.{specifier_pieces, set_eq, specifier_eq}

pub specifier_equivalence : IsEquivalence specifier_eq
specifier_equivalence = on_equiv specifier_pieces (lists_equiv nat_list_eq_equiv)

pub set_equivalence : IsEquivalence set_eq
set_equivalence = lists_equiv specifier_equivalence
