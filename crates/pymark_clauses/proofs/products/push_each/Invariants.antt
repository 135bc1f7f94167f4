use Rattle.std.proofs.Common.{◌≡◌, ◌+◌, ◌++◌, drop, vec_len}
use Rattle.pymark_clauses.specs.Clauses.{lists_of, with_each}
use Rattle.pymark_clauses.proofs.products.push_each.Given as goal

abbrev pub invariant-loop-other : goal.invariant-loop-other
invariant-loop-other l =
    (lists_of l.clauses.items ++ with_each l.clause (lists_of (drop l.other-index l.others))
    ≡ lists_of l.initial.clauses.items ++ with_each l.clause (lists_of l.others))
    × (vec_len l.clauses ≡ vec_len l.initial.clauses + l.other-index)
