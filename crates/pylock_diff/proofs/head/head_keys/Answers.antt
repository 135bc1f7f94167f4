use Rattle.std.proofs.Common.{◌≡◌, ◌∙◌, ◌++◌, ◌∷◌, [], true, false, append_assoc, string_bytes, sym, ap, arith}
use Rattle.std.proofs.lemmas.Bool.{true≢false}
use Rattle.std.proofs.lemmas.Grind.{common_steps}
use Rattle.std.specs.List.Sorted.{IsStrictlySortedBy}
use Rattle.toml.specs.View.{members_view, view}
use Rattle.toml.proofs.Views.{is_before-sorted}
use Rattle.pylock_diff.specs.Compared.{head_of, is_head_key}
use Rattle.pylock_diff.specs.Head.{HeadKey, head_key}
use Rattle.pylock_diff.proofs.KeptLemmas.{head_next, head_skipped}
use Rattle.pylock_diff.proofs.head.head_keys.Goals as goal

pub loop-key-preserved-in_ok-push : goal.loop-key-preserved-in_ok-push
unfolding IsStrictlySortedBy
loop-key-preserved-in_ok-push c =
    let k = c.in-Some.key.now in
    let v = c.in-Some.value.now in
    let rest = c.next.new.self in
    let iter : c.loop-key.key-iterator ≡ (k, v) ∷ rest = grind (arith, common_steps) in
    let sorted = rw iter at c.loop-key.invariant.sorted in
    let so_far = c.loop-key.keys.items in
    let tail = head_of (members_view rest) in
    let row : HeadKey = head_key (string_bytes k) (view v) in
    let is : is_head_key (string_bytes k) ≡ true = ap is_head_key (sym c.as_str.ensures.value) ∙ sym c.if-is_compared.ensures in
    let one : c.push.new.self.items ≡ so_far ++ row ∷ [] =
    c.in_ok-push.ensures.items ∙ ap (λ x. so_far ++ x ∷ []) (c.in_ok-head_key.ensures.key ∙ ap (λ t. head_key t (view v)) c.as_str-then-is_compared.ensures.value) in
    record {
      sorted = sorted.1;
      keys =
          ap (λ xs. xs ++ tail) one ∙ append_assoc so_far (row ∷ []) tail
          ∙ ap (λ more. so_far ++ more) (sym (head_next (string_bytes k) (view v) (members_view rest) is))
          ∙ rw iter at c.loop-key.invariant.keys;
      proper = λ h. c.loop-key.invariant.proper (rw iter (is_before-sorted k rest sorted.0, (λ _. c.in_ok-head_key.ensures.proper), h));
    }

pub loop-key-preserved : goal.loop-key-preserved
unfolding IsStrictlySortedBy
loop-key-preserved c =
    let k = c.in-Some.key.now in
    let v = c.in-Some.value.now in
    let rest = c.next.new.self in
    let iter : c.loop-key.key-iterator ≡ (k, v) ∷ rest = grind (arith, common_steps) in
    let sorted = rw iter at c.loop-key.invariant.sorted in
    let so_far = c.loop-key.keys.items in
    let other : is_head_key (string_bytes k) ≡ false = ap is_head_key (sym c.as_str.ensures.value) ∙ sym c.if-is_compared.ensures in
    record {
      sorted = sorted.1;
      keys =
          ap (λ more. so_far ++ more) (sym (head_skipped (string_bytes k) (view v) (members_view rest) other))
          ∙ rw iter at c.loop-key.invariant.keys;
      proper = λ h. c.loop-key.invariant.proper (rw iter (is_before-sorted k rest sorted.0, (λ is. absurd (true≢false (sym is ∙ other))), h));
    }
