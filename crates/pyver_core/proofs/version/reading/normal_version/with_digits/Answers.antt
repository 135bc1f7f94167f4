use Rattle.std.proofs.Common.{◌++◌, ap, ◌∙◌, arith}
use Rattle.pyver_core.specs.Version.Normal.{decimal_text}
use Rattle.pyver_core.proofs.Lemmas.Version.NormalVersion.{digit_more, first_digit}
use Rattle.pyver_core.proofs.version.reading.normal_version.with_digits.Goals as goal

pub loop-rest-preserved : goal.loop-rest-preserved
loop-rest-preserved c =
    let n = c.loop-rest.value in
    let d = c.from.result in
    record {
      some = omega arith;
      fits = omega arith;
      text = digit_more _ n d _ (omega arith) (omega arith) (omega arith) (c.loop-rest.invariant.text
          ∙ ap (λ t. decimal_text n ++ t) (first_digit c.loop-rest.rest.now d _ (omega arith) (omega arith) (omega arith)));
    }
