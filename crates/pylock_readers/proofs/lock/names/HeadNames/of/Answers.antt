use Rattle.std.proofs.Common.{◌≡◌, ◌∙◌, ◌++◌, ◌∷◌, [], ap, sym, map, string_bytes, string_cmp, String, Global, rules}
use Rattle.std.specs.BTreeSet.{insert_key}
use Rattle.std.proofs.lemmas.List.{map-append}
use Rattle.pylock_readers.specs.Text.{has_text}
use Rattle.pylock_readers.specs.Lock.Head.{distinct_texts}
use Rattle.pylock_readers.proofs.DistinctLemmas.{holds_new, new_text, unseen, was_new}
use Rattle.pylock_readers.proofs.lock.names.HeadNames.of.Goals as goal

pub loop-text-preserved-in_ok-push : goal.loop-text-preserved-in_ok-push
loop-text-preserved-in_ok-push c =
    let keys = c.loop-text.set.keys in
    let once = map string_bytes c.loop-text.names.items in
    let copy = c.in_ok-clone.field-0 in
    let same : string_bytes copy ≡ string_bytes c.in-Some.text = search rules in
    let rest = map string_bytes c.next.new.self.rest.items in
    let fresh = was_new (has_text keys (string_bytes copy)) c.in_ok-insert.field-0 c.in_ok-insert.ensures.added c.if-branch.true in
    let texts = ap (map string_bytes) c.in_ok-push.ensures.items ∙ map-append (λ (s : String Global). string_bytes s) c.loop-text.names.items _ ∙ ap (λ text. once ++ text ∷ []) (sym same) in (
      ap (λ items. map string_bytes items ++ unseen c.insert.new.self.keys (distinct_texts rest)) c.in_ok-push.ensures.items
          ∙ ap (λ items. items ++ unseen c.insert.new.self.keys (distinct_texts rest)) (map-append (λ (s : String Global). string_bytes s) c.loop-text.names.items _)
          ∙ ap (λ keys. (once ++ string_bytes c.in-Some.text ∷ []) ++ unseen keys (distinct_texts rest)) c.in_ok-insert.ensures.keys
          ∙ ap (λ text. (once ++ text ∷ []) ++ unseen (insert_key string_cmp keys copy) (distinct_texts rest)) (sym same)
          ∙ new_text once keys copy rest fresh
          ∙ ap (λ text. once ++ unseen keys (distinct_texts (text ∷ rest))) same
          ∙ ap (λ texts. once ++ unseen keys (distinct_texts (map string_bytes texts))) (sym c.in-Some.ensures.steps.0)
          ∙ c.loop-text.invariant.0,
      rw (c.in_ok-insert.ensures.keys, texts) (holds_new keys copy once c.loop-text.invariant.1),
    )
