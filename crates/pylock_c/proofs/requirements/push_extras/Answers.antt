-- The extras are joined as they are written.
use Rattle.std.proofs.Common.{◌≡◌, ◌++◌, ◌∷◌, ◌∙◌, ap, sym, subst, false, length, map, OnOk, Some, codes, string_bytes}
use Rattle.std.specs.Prelude.{◌==◌}
use Rattle.pylock_run.specs.Text.Field.{field}
use Rattle.pylock_values.specs.Record.{joined}
use Rattle.pylock_c.proofs.RecordLemmas.{some_joined}
use Rattle.pylock_c.proofs.requirements.push_extras.Goals as goal

pub returns : goal.returns
returns c =
    let some : (length c.args.extras.now == 0) ≡ false = cc in
    let text : Some c.as_str.result.now ≡ joined (λ extra. extra) (codes ",") (map string_bytes c.args.extras.now) =
    ap Some (c.as_str.ensures.value ∙ c.in_ok-text.ensures.ok) ∙ sym (some_joined string_bytes (codes ",") c.args.extras.now some) in
    subst (λ t. OnOk c.push_next_field-2.result (c.push_next_field-2.new.out.items ≡ c.args.out.now.items ++ 9 ∷ field t)) text c.push_next_field-2.ensures
