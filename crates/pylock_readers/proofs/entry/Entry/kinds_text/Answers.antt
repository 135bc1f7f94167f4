use Rattle.std.proofs.Common.{◌≡◌, ◌∙◌, ap, subst, IfOk, codes, string_bytes}
use Rattle.std.specs.List.{join_by}
use Rattle.pylock_readers.specs.Entry.Kinds.{kinds_text}
use Rattle.pylock_readers.proofs.Joined.{joined_texts}
use Rattle.pylock_readers.proofs.entry.Entry.kinds_text.Goals as goal

pub returns : goal.returns
returns c =
    let text : join_by string_bytes (codes ",") c.deref.result.now ≡ kinds_text c.args.self.now =
    ap (join_by string_bytes (codes ",")) c.deref.ensures.value
    ∙ joined_texts string_bytes (codes ",") c.in_ok-words.words.items
    ∙ ap (join_by (λ kind. kind) (codes ",")) c.in_ok-words.ensures in
    subst (λ t. IfOk c.join.result (λ s. string_bytes s ≡ t)) text c.join.ensures.ok
