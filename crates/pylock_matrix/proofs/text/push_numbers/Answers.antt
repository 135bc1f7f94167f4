use Rattle.std.proofs.Common.{◌≡◌, ◌∷◌, rules}
use Rattle.std.proofs.lemmas.Result.{on_ok_weaker}
use Rattle.pylock_matrix.proofs.TextLemmas.{numbers_pushed}
use Rattle.pylock_matrix.proofs.text.push_numbers.Goals as goal

pub returns : goal.returns
returns c =
    let whole : c.args.numbers.now ≡ c.in-Some.first.now ∷ c.in-Some.rest.now = search rules in
    let same : c.from.result ≡ c.in-Some.first.now = search rules in
    on_ok_weaker c.push_more_numbers.result
    (numbers_pushed c.args.out.now.items c.push_number.new.out.items c.push_more_numbers.new.out.items c.from.result c.in-Some.first.now c.in-Some.rest.now c.args.numbers.now
    same whole c.in_ok-push_number.ensures)
    c.push_more_numbers.ensures
