use Rattle.std.proofs.Common.{◌≡◌, false, nat_lt, rules, true}
use Rattle.pylock_command.proofs.InputLemmas.{refused, taken}
use Rattle.pylock_command.proofs.asked.judge_paths.Goals as goal

pub returns-then-input_count-gt1 : goal.returns-then-input_count-gt1
returns-then-input_count-gt1 c =
    let more : nat_lt 1 c.input_count.result ≡ true = search rules in
    refused c.args.paths.now c.input_count.result c.input_count.ensures more

pub returns : goal.returns
returns c =
    let few : nat_lt 1 c.input_count.result ≡ false = search rules in
    taken c.args.paths.now c.input_count.result c.input_count.ensures few
