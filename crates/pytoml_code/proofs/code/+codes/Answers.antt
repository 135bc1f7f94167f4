use Rattle.std.proofs.Common.{◌≡◌, ◌∙◌, ◌++◌, ◌∷◌, false, codes, string_bytes, subst, sym, ap, arith}
use Rattle.std.proofs.lemmas.Grind.{common_steps}
use Rattle.std.specs.List.Sorted.{IsStrictlySortedBy}
use Rattle.std.specs.Str.{IsUtf8}
use Rattle.toml.specs.View.{members_view, view}
use Rattle.toml.proofs.Views.{is_before-sorted}
use Rattle.pytoml_code.specs.Code.{before_member, code, members_code}
use Rattle.pytoml_code.specs.Text.{key_code}
use Rattle.pytoml_code.proofs.WordLemmas.{joined-4, joined-5}
use Rattle.pytoml_code.proofs.code.+codes.Goals as goal

pub push_members-members-preserved : goal.push_members-members-preserved
unfolding IsStrictlySortedBy
push_members-members-preserved t c =
    let k = c.in-Some.key.now in
    let v = c.in-Some.member.now in
    let rest = c.next.new.self in
    let iter : c.members.key-iterator ≡ (k, v) ∷ rest = grind (arith, common_steps) in
    let sorted = rw iter at c.members.invariant.sorted in
    let utf8 : IsUtf8 (string_bytes k) = subst IsUtf8 c.as_str.ensures.value c.as_str.utf8 in
    let out = c.members.out.items in
    let before = 2 ∷ before_member c.members.is_first in
    let key = key_code (string_bytes k) in
    let tail = members_code false (members_view rest) in
    let one : c.push_before_member.new.out.items ≡ ((out ++ before) ++ key) ++ codes " = " = c.in_ok-push_before_member.ensures ∙ ap (λ t. ((out ++ before) ++ key_code t) ++ codes " = ") c.as_str.ensures.value in
    let two : c.push_value.new.out.items ≡ c.push_before_member.new.out.items ++ code (view v) = c.in_ok-push_value.ensures.code in
    let along : c.push_value.new.out.items ++ tail ≡ out ++ ((((before ++ key) ++ codes " = ") ++ code (view v)) ++ tail) =
    ap (λ xs. xs ++ tail) (two ∙ ap (λ xs. xs ++ code (view v)) one) ∙ joined-5 out before key (codes " = ") (code (view v)) tail
    ∙ ap (λ xs. out ++ xs) (sym (joined-4 before key (codes " = ") (code (view v)) tail)) in
    record {
      sorted = sorted.1;
      codes = along ∙ rw iter at c.members.invariant.codes;
      proper = λ h. c.members.invariant.proper (rw iter (is_before-sorted k rest sorted.0, c.in_ok-push_value.ensures.proper, h));
      texts = λ h. c.members.invariant.texts (rw iter (utf8, c.in_ok-push_value.ensures.texts, h));
    }
