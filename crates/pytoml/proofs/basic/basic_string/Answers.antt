use Rattle.std.proofs.Common.{arith, ◌≡◌, ◌∙◌, ◌+◌, refl}
use Rattle.std.specs.List.{prefix_len}
use Rattle.toml_parser.specs.Lexical.{first}
use Rattle.std.proofs.Common.{drop}
use Rattle.pytoml.specs.Text.{is_simple}
use Rattle.std.proofs.Common.{Global, string_bytes}
use Rattle.std.proofs.Common.{Ok}
use Rattle.pytoml.proofs.Strings.{simple_boundary, string_ends, string_goes_on}
use Rattle.pytoml.proofs.basic.basic_string.Goals as goal

pub split_at-requires : goal.split_at-requires
split_at-requires c =
    simple_boundary c.args.s.now c.simple_end.result (rw (← c.as_bytes.ensures.value) c.simple_end.ensures.end)

pub returns-then-first-eq34-clause-value : goal.returns-then-first-eq34-clause-value
returns-then-first-eq34-clause-value c n h =
    let s = c.args.s.now in
    let end = c.simple_end.result in
    let is : end ≡ 0 + prefix_len is_simple s = rw (← c.as_bytes.ensures.value) c.simple_end.ensures.end in
    let closing : first (drop end s) ≡ 34 = rw (← c.split_at.ensures.back) (omega (arith, c.first.ensures)) in
    string_ends s end n is closing h ∙ rw (c.in_ok-from_str.ensures.ok, c.split_at.ensures.front, c.skip.ensures.rest, c.split_at.ensures.back) refl

pub returns-clause-value : goal.returns-clause-value
returns-clause-value c n h =
    let s = c.args.s.now in
    let end = c.simple_end.result in
    let is : end ≡ 0 + prefix_len is_simple s = rw (← c.as_bytes.ensures.value) c.simple_end.ensures.end in
    string_goes_on s (string_bytes {Z = Global}) (Ok (c.in_ok-text.text, c.in_ok-text.rest)) end n is
    (λ m fits. rw (← c.split_at.ensures.front, ← c.split_at.ensures.back) (c.in_ok-text.ensures.value m (rw c.split_at.ensures.back fits))) h
