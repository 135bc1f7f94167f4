use Rattle.std.proofs.Common.{◌≡◌, ◌<◌, arith}
use Rattle.std.proofs.lemmas.Bool.Decides.{nat_tests}
use Rattle.std.proofs.lemmas.Grind.{common_steps}
use Rattle.std.specs.List.{prefix_len}
use Rattle.toml_parser.specs.Lexical.{is_bare}
use Rattle.toml_parser.proofs.LexicalLemmas.{IsCharBoundary-ascii_run}
use Rattle.pytoml.proofs.Keys.{key_equals-bare}
use Rattle.pytoml.proofs.key.key_equals.Goals as goal

pub split_at-requires : goal.split_at-requires
split_at-requires c =
    rw (c.bare_len.ensures.len, c.as_bytes.ensures.value) (IsCharBoundary-ascii_run is_bare c.args.s.now c.utf8.s (λ b e. grind (arith, nat_tests)))

pub returns-clause-value : goal.returns-clause-value
returns-clause-value c =
    let s = c.args.s.now in
    let n = c.bare_len.result in
    let is : n ≡ prefix_len is_bare s = rw (← c.as_bytes.ensures.value) c.bare_len.ensures.len in
    let front = c.split_at.ensures.front in
    let back = c.split_at.ensures.back in
    let some : 0 < n = grind (arith, common_steps) in
    let read = key_equals-bare s c.past_ws-rest.result.now n is some (rw (← back) c.past_ws-rest.ensures.rest) (omega (arith, c.first.ensures)) in
    rw (c.in_ok-from_str.ensures.ok, front, c.past_ws.ensures.rest, c.skip.ensures.rest) read
