-- Comparisons that a program joins one by one are the comparisons in turn.
use Rattle.std.proofs.Common.{◌≡◌, List, [], ◌∷◌, refl}
use Rattle.std.specs.Ordering.{ordering_then}
use Rattle.std.specs.declared.cmp.Ordering.{Ordering}
use Rattle.std.specs.declared.cmp.Ordering.TheVariants.{Less, Equal, Greater}
use Rattle.pyver_core.specs.Version.Order.{cmp_in_turn}

-- the first joined with each of the others
abbrev pub then_each : Ordering → List Ordering → Ordering
then_each first [] = first
then_each first (next ∷ rest) = then_each (ordering_then first next) rest

pub then_each_in_turn : (first : Ordering) (rest : List Ordering) → then_each first rest ≡ cmp_in_turn (first ∷ rest)
then_each_in_turn Less [] = refl
then_each_in_turn Equal [] = refl
then_each_in_turn Greater [] = refl
then_each_in_turn Less (next ∷ rest) = then_each_in_turn Less rest
then_each_in_turn Equal (next ∷ rest) = then_each_in_turn next rest
then_each_in_turn Greater (next ∷ rest) = then_each_in_turn Greater rest

pub then_assoc : (a b c : Ordering) → ordering_then (ordering_then a b) c ≡ ordering_then a (ordering_then b c)
then_assoc Less b c = refl
then_assoc a b c = refl
