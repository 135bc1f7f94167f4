use Rattle.std.proofs.Common.{◌∙◌, ap, take}
use Rattle.std.specs.Char.{is_ascii_digit}
use Rattle.std.specs.List.{list_all, prefix_len}
use Rattle.pytext.proofs.BytesLemmas.{list_all_prefix}
use Rattle.pywheel_core.proofs.build.BuildTag.parse.Goals as goal

pub digits_value-requires : goal.digits_value-requires
digits_value-requires c =
    let count = c.digits_len-digits.ensures ∙ ap (prefix_len is_ascii_digit) c.as_bytes.ensures.value in
    (λ i. list_all is_ascii_digit (take (count i) (c.as_bytes-2.ensures.value i))) ∙ list_all_prefix is_ascii_digit c.args.text.now
