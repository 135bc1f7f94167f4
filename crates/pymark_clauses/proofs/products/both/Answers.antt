use Rattle.pymark_clauses.proofs.ClauseLemmas.{product_holds, product_only}
use Rattle.pymark_clauses.proofs.products.both.Goals as goal

pub returns-in_ok-product-in-Some-clause-holds : goal.returns-in_ok-product-in-Some-clause-holds
returns-in_ok-product-in-Some-clause-holds c = λ e.
    product_holds e c.args.first.now c.args.second.now c.in_ok-product-in-Some.field-0.items c.in_ok-product-in-Some.ensures.each

pub returns-in_ok-product-in-Some-clause-only : goal.returns-in_ok-product-in-Some-clause-only
returns-in_ok-product-in-Some-clause-only c = λ e.
    product_only e c.args.first.now c.args.second.now c.in_ok-product-in-Some.field-0.items c.in_ok-product-in-Some.ensures.each
