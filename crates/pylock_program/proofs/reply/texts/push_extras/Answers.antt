use Rattle.std.proofs.Common.{◌≡◌, ◌++◌, ◌∷◌, ◌∙◌, ap, sym, subst, false, length, map, OnOk, Some, codes, string_bytes}
use Rattle.std.specs.Prelude.{◌==◌}
use Rattle.std.specs.List.{join_by}
use Rattle.pyver_core.specs.Name.{normal_name}
use Rattle.pylock_run.specs.Text.Field.{field}
use Rattle.pylock_program.specs.Reply.{names_text}
use Rattle.pylock_program.proofs.ReplyLemmas.{joined_alike, some_names}
use Rattle.pylock_program.proofs.reply.texts.push_extras.Goals as goal

pub returns : goal.returns
returns c =
    let some : (length c.args.extras.now == 0) ≡ false = cc in
    let text : Some c.as_str.result.now ≡ names_text (map string_bytes c.args.extras.now) =
    ap Some (c.as_str.ensures.value ∙ c.in_ok-text.ensures.ok ∙ ap (join_by string_bytes (codes ",")) c.deref.ensures.value
    ∙ joined_alike string_bytes normal_name (codes ",") c.in_ok-names.names.items (map string_bytes c.args.extras.now) c.in_ok-names.ensures)
    ∙ sym (some_names string_bytes c.args.extras.now some) in
    subst (λ t. OnOk c.push_next_field-2.result (c.push_next_field-2.new.out.items ≡ c.args.out.now.items ++ 9 ∷ field t)) text c.push_next_field-2.ensures
