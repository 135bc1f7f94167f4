use Rattle.std.proofs.Common.{◌≡◌, ◌∙◌, ◌-◌, ◌++◌, ap, arith, rules, take}
use Rattle.std.proofs.Output.{has_written_append, has_written_of_eq}
use Rattle.pylock_shown.proofs.SlashLemmas.{cut_of}
use Rattle.pylock_shown.specs.Hidden.{hidden_front, hidden_place}
use Rattle.pylock_shown.proofs.hiding.write_front.Goals as goal

pub returns : goal.returns
returns g c = λ plain ok.
    let took = g.W.Write.write_str_gives in
    let text = c.args.text.now in
    let front = c.range.result.now in
    let back = c.range_from.result.now in
    let first = c.write_str.ensures.writes plain (search rules) in
    let second = c.write_place.ensures first.plain ok in
    let place = c.front_len-place.result in
    let none : place - 0 ≡ place = omega arith in
    let whole = cut_of text front back place c.front_len-place.ensures (c.range.ensures.value ∙ ap (λ n. take n text) none) c.range_from.ensures.value in
    has_written_of_eq took c.args.f.now (front ++ hidden_place back) (hidden_front text) c.write_place.new.f whole
    (has_written_append took c.args.f.now front c.write_str.new.self (hidden_place back) c.write_place.new.f first second)
