use Rattle.std.proofs.Common.{◌≡◌, ◌∙◌, ◌++◌, ◌∷◌, [], arith, codes, false, true, string_bytes, ap, sym}
use Rattle.std.proofs.lemmas.Grind.{common_steps}
use Rattle.toml.specs.View.{members_view, table_view, view}
use Rattle.pytoml_code.specs.Code.{code}
use Rattle.pylock_diff.specs.Codes.{member_rows}
use Rattle.pylock_diff.specs.SourceKeys.{source_told, told_by}
use Rattle.pylock_diff.proofs.InnerLemmas.{one_kept, one_told, stands}
use Rattle.pylock_diff.proofs.inner.push_others.Goals as goal

pub loop-key-preserved-in-Continue-1 : goal.loop-key-preserved-in-Continue-1
loop-key-preserved-in-Continue-1 c =
    let k = c.in-Some.key.now in
    let v = c.in-Some.value.now in
    let rest = c.next.new.self in
    let iter : c.loop-key.key-iterator ≡ (k, v) ∷ rest = grind (arith, common_steps) in
    let told = source_told c.args.kind (table_view c.args.source.now) in
    let there = c.is_some-has_path.ensures ∙ stands c.get.result (codes "path") c.args.source.now.entries c.get.ensures.value in
    let is : told (string_bytes k) ≡ false = (λ i. told_by c.args.kind (sym there i) (sym c.as_str.ensures.value i)) ∙ sym c.is_told.ensures ∙ c.if-not-is_told.true in
    let put : c.push_value.new.self ≡ c.loop-key.codes ++ (string_bytes k, code (view v)) ∷ [] =
    c.in_ok-push_value.ensures.codes ∙ ap (λ t. c.loop-key.codes ++ (t, code (view v)) ∷ []) c.as_str-then-not-is_told.ensures.value in
    one_kept told (string_bytes k) (code (view v)) c.loop-key.codes c.push_value.new.self (member_rows (members_view rest)) _ is put (rw iter at c.loop-key.invariant)

pub loop-key-preserved : goal.loop-key-preserved
loop-key-preserved c =
    let k = c.in-Some.key.now in
    let v = c.in-Some.value.now in
    let rest = c.next.new.self in
    let iter : c.loop-key.key-iterator ≡ (k, v) ∷ rest = grind (arith, common_steps) in
    let told = source_told c.args.kind (table_view c.args.source.now) in
    let there = c.is_some-has_path.ensures ∙ stands c.get.result (codes "path") c.args.source.now.entries c.get.ensures.value in
    let is : told (string_bytes k) ≡ true = (λ i. told_by c.args.kind (sym there i) (sym c.as_str.ensures.value i)) ∙ sym c.is_told.ensures ∙ c.if-not-is_told.false in
    one_told told (string_bytes k) (code (view v)) c.loop-key.codes (member_rows (members_view rest)) _ is (rw iter at c.loop-key.invariant)
