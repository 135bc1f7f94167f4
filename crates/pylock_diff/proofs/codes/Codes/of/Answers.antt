use Rattle.std.proofs.Common.{◌≡◌, ◌∙◌, ℕ, List, ◌++◌, ◌∷◌, [], append_assoc, string_bytes, ap, arith}
use Rattle.std.proofs.lemmas.Grind.{common_steps}
use Rattle.std.specs.List.Sorted.{IsStrictlySortedBy}
use Rattle.toml.specs.View.{members_view, view}
use Rattle.toml.proofs.Views.{is_before-sorted}
use Rattle.pytoml_code.specs.Code.{code}
use Rattle.pylock_diff.specs.Codes.{member_rows}
use Rattle.pylock_diff.proofs.codes.Codes.of.Goals as goal

pub loop-key-preserved : goal.loop-key-preserved
unfolding IsStrictlySortedBy
loop-key-preserved c =
    let k = c.in-Some.key.now in
    let v = c.in-Some.value.now in
    let rest = c.next.new.self in
    let iter : c.loop-key.key-iterator ≡ (k, v) ∷ rest = grind (arith, common_steps) in
    let sorted = rw iter at c.loop-key.invariant.sorted in
    let so_far = c.loop-key.codes in
    let tail = member_rows (members_view rest) in
    let row : List ℕ × List ℕ = (string_bytes k, code (view v)) in
    let one : c.push_value.new.self ≡ so_far ++ (row ∷ []) = c.in_ok-push_value.ensures.codes ∙ ap (λ t. so_far ++ ((t, code (view v)) ∷ [])) c.as_str.ensures.value in
    record {
      sorted = sorted.1;
      rows = ap (λ xs. xs ++ tail) one ∙ append_assoc so_far (row ∷ []) tail ∙ rw iter at c.loop-key.invariant.rows;
      proper = λ h. c.loop-key.invariant.proper (rw iter (is_before-sorted k rest sorted.0, c.in_ok-push_value.ensures.proper, h));
    }
