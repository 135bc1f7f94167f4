use Rattle.std.proofs.Common.{◌≡◌, ◌∙◌, ◌+◌, ◌||◌, ℕ, Bool, false, true, not, List, ap, sym, refl, take}
use Rattle.std.specs.List.{list_any}
use Rattle.std.specs.Str.{bytes_eq}
use Rattle.std.proofs.lemmas.List.Folds.{list_any_more}
use Rattle.pylock_advisories.specs.Advisory.{AffectedValue}
use Rattle.pylock_advisories.specs.Index.{found, has}
use Rattle.pylock_advisories.specs.Lent.{lent}
use Rattle.pylock_advisories.proofs.IndexLemmas.{lent_put, new_puts, old_stays, or_swap}
use Rattle.pylock_advisories.proofs.index.put_under_names.Goals as goal
use Rattle.pylock_advisories.proofs.index.put_under_names.Goals.{then-branch+in_ok-put, else-branch}

was_new : (x b : Bool) → x ≡ not b → x ≡ true → b ≡ false
was_new x true e h = absurd cc
was_new x false e h = refl

was_old : (x b : Bool) → x ≡ not b → x ≡ false → b ≡ true
was_old x true e h = refl
was_old x false e h = absurd cc

pub loop-element-preserved : goal.loop-element-preserved
loop-element-preserved c = λ name.
    let key = c.name-name.result.now in
    let xs = c.affected-element-items.result.now in
    let i = c.loop-element.element-index in
    let any = list_any (λ (e : AffectedValue). bytes_eq name e.name) (take i xs) in
    let after = list_any (λ (e : AffectedValue). bytes_eq name e.name) (take (i + 1) xs) in
    let before = c.loop-element.invariant name in
    let more : after ≡ (any || bytes_eq name key) =
    list_any_more (λ (e : AffectedValue). bytes_eq name e.name) xs i c.element-item.result c.loop-element-test.true
    ∙ ap (λ (e : AffectedValue). any || bytes_eq name e.name) (sym c.element-item.is)
    ∙ ap (λ (n : List ℕ). any || bytes_eq name n) (sym c.name-name.ensures) in (
      c.in_ok-add_name.ensures.added name ∙ ap (λ b. bytes_eq name key || b) before.0
          ∙ or_swap (bytes_eq name key) any ∙ sym more,
      elim c.if-branch.branch [
        | then-branch+in_ok-put w ↦
            ap (λ t. lent (found t name)) w.table-is
            ∙ new_puts key name c.args.advisory.now (has c.loop-element.seen) (lent (found c.args.table.now name))
            (lent (found c.loop-element.table name)) (lent (found w.put.new.table name)) any after
            (was_new c.in_ok-add_name.field-0 (has c.loop-element.seen key) c.in_ok-add_name.ensures.new w.if-branch.true)
            before.0 before.1 more
            (lent_put (bytes_eq name key) c.args.advisory (found c.loop-element.table name) (found w.put.new.table name) (w.in_ok-put.ensures name))
        | else-branch w ↦
            ap (λ t. lent (found t name)) w.table-is
            ∙ old_stays key name c.args.advisory.now (has c.loop-element.seen) (lent (found c.args.table.now name))
            (lent (found c.loop-element.table name)) (lent (found c.loop-element.table name)) any after
            (was_old c.in_ok-add_name.field-0 (has c.loop-element.seen key) c.in_ok-add_name.ensures.new w.if-branch.false)
            before.0 before.1 more
      ],
    )
