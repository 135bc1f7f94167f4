use Rattle.pyver_core.proofs.Lemmas.Version.OrderKey.{keys_equal, keys_order, order_keeps}
use Rattle.pyver_core.proofs.laws.keys_stand_in_order.Goals as goal

pub returns : goal.returns
returns c = record { order = keys_order; equal = keys_equal; behind = order_keeps }
