use Rattle.std.proofs.Common.{◌≡◌, ◌*◌, ◌++◌, drop, length, vec_len}
use Rattle.pymark_clauses.specs.Clauses.{lists_of, product}
use Rattle.pymark_clauses.proofs.products.product.Given as goal

abbrev pub invariant-loop-clause : goal.invariant-loop-clause
invariant-loop-clause l =
    (lists_of l.clauses.items ++ product (lists_of (drop l.clause-index l.first)) (lists_of l.second)
    ≡ product (lists_of l.first) (lists_of l.second))
    × (vec_len l.clauses ≡ l.clause-index * length l.second)
