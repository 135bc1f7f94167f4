use Rattle.std.proofs.Common.{arith, rules, tests}
use Rattle.std.proofs.lemmas.Iterator.Search.{any_from_yields_List}
use Rattle.std.proofs.lemmas.Iterator.Splits.{YieldsList-from_str_split}
use Rattle.pylock_places.specs.Query.{is_secret}
use Rattle.pylock_places.proofs.query.any_secret.Goals as goal

pub returns : goal.returns
returns c =
    let pairs = YieldsList-from_str_split 38 c.args.query.now (omega arith) c.split.ensures.text c.split.ensures.has_more c.split.ensures.pattern in
    any_from_yields_List is_secret _ _ c.any.result c.any.ensures.ran pairs (λ x b q k. search (rules, tests))
