use Rattle.std.proofs.Common.{◌≡◌, [], ◌∷◌, length, vec_len}
use Rattle.pymark_clauses.specs.Clauses.{lists_of, product}
use Rattle.pymark_clauses.proofs.products.lengthened.Given as goal

abbrev pub invariant-loop-clause : goal.invariant-loop-clause
invariant-loop-clause l =
    (lists_of l.longer.items ≡ product (lists_of l.yielded) (l.literals ∷ []))
    × (vec_len l.longer ≡ length l.yielded)
