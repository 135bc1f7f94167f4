use Rattle.std.proofs.Common.{◌≡◌, ◌==◌, ◌&&◌, ◌∙◌, get_or, false, length, refl, arith}
use Rattle.std.proofs.lemmas.Bool.Decides.{nat_tests}
use Rattle.std.proofs.lemmas.Grind.{common_steps}
use Rattle.pytoml.proofs.Strings.{next_to_quote, quoted_on_line}
use Rattle.pytoml.proofs.value.string.Goals as goal

pub returns-then-byte_at-ne34-clause-value : goal.returns-then-byte_at-ne34-clause-value
returns-then-byte_at-ne34-clause-value c =
    let s = c.args.s.now in
    let other : (get_or s 1 0 == 34 && get_or s 2 0 == 34) ≡ false = grind (arith, nat_tests, common_steps) in
    rw (quoted_on_line s (omega (arith, c.first.ensures)) other, ← c.skip.ensures.rest) (c.basic_string.ensures.value (length s) c.skip.ensures.shorter)

pub returns-then-byte_at-ne34-2-clause-value : goal.returns-then-byte_at-ne34-2-clause-value
returns-then-byte_at-ne34-2-clause-value c =
    let s = c.args.s.now in
    let other : (get_or s 1 0 == 34 && get_or s 2 0 == 34) ≡ false = grind (arith, nat_tests, common_steps) in
    let closing = next_to_quote s (omega (arith, c.byte_at.ensures)) in
    quoted_on_line s (omega (arith, c.first.ensures)) other ∙ closing
    ∙ rw (c.new.ensures.bytes, c.skip-then-byte_at-ne34-2.ensures.rest) refl
