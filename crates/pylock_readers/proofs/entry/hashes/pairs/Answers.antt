use Rattle.std.proofs.Common.{◌∙◌, ap, sym, String, Global, string_bytes}
use Rattle.std.proofs.lemmas.List.{map-append}
use Rattle.toml.specs.View.{view, members_view}
use Rattle.pylock_readers.specs.Entry.Fields.{text_of}
use Rattle.pylock_readers.specs.Entry.Sources.{pairs_of}
use Rattle.pylock_readers.specs.Text.{text_pair, text_pairs}
use Rattle.pylock_readers.proofs.PrefixLemmas.{after_prefix, prefix_more}
use Rattle.pylock_readers.proofs.entry.hashes.pairs.Goals as goal

pub loop-algorithm-preserved : goal.loop-algorithm-preserved
loop-algorithm-preserved c =
    let rest = pairs_of (members_view c.next.new.self) in
    let front = text_pairs c.loop-algorithm.pairs.items in
    let pair : String Global × String Global = (c.in-Some.algorithm, c.in_ok-into_text.field-0) in
    ap (λ pairs. after_prefix (text_pairs pairs) rest) c.in_ok-push.ensures.items
    ∙ ap (λ pairs. after_prefix pairs rest) (map-append text_pair c.loop-algorithm.pairs.items _)
    ∙ prefix_more (λ value. (string_bytes c.in-Some.algorithm, value)) front (string_bytes c.in_ok-into_text.field-0)
    (text_of (view c.in-Some.value)) rest c.in_ok-into_text.ensures
    ∙ ap (λ members. after_prefix front (pairs_of (members_view members))) (sym c.in-Some.ensures.steps)
    ∙ c.loop-algorithm.invariant
