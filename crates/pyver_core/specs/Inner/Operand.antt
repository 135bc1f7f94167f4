-- What stands after an operator, lent.
use Rattle.std.specs.Prelude.{ℕ, List, [], ◌∷◌}
use Rattle.pyver_core.specs.Set.Equality.{prefix_pieces}
use Rattle.pyver_core.specs.Set.Normal.{prefix_text}
use Rattle.pyver_core.specs.declared.set.specifier.Operand.{Operand}
use Rattle.pyver_core.specs.declared.set.specifier.Operand.TheVariants.{Text, Prefix}

abbrev pub lent_pieces : Operand → List (List ℕ)
lent_pieces (Text text) = text.now ∷ []
lent_pieces (Prefix prefix) = prefix_pieces prefix.now

abbrev pub lent_text : Operand → List ℕ
lent_text (Text text) = text.now
lent_text (Prefix prefix) = prefix_text prefix.now
