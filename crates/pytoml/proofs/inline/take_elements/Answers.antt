use Rattle.std.proofs.Common.{◌≡◌, ◌==◌, ◌-◌, true, false, ◌∙◌, rules, arith}
use Rattle.std.proofs.lemmas.Grind.{common_steps}
use Rattle.toml_parser.specs.Lexical.{first, skip_blank}
use Rattle.toml.specs.Data.{push_item}
use Rattle.toml.specs.View.{view}
use Rattle.toml.specs.Parse.{val}
use Rattle.toml.proofs.Turns.{items_end, items_more}
use Rattle.pytoml.proofs.inline.take_elements.Goals as goal

pub returns-then-first-eq93-clause-taken : goal.returns-then-first-eq93-clause-taken
returns-then-first-eq93-clause-taken g c = λ none n h.
    let l = c.items in
    let (taken, holds, m, capacity, loop) = l.invariant.2 none n h in
    let start_is = c.past_blank-start.ensures.rest in
    let closing : (first (skip_blank l.rest.now) == 93) ≡ true = grind (arith, common_steps) in
    (taken, holds, loop ∙ items_end (val c.args.depth) m taken l.rest.now (omega (arith, capacity)) closing ∙ rw (c.skip.ensures.rest, start_is))

pub items-preserved : goal.items-preserved
items-preserved g c =
    let l = c.items in
    let start_is = c.past_blank-start.ensures.rest in
    let other : (first (skip_blank l.rest.now) == 93) ≡ false = grind (arith, common_steps) in
    let shorter = c.in_ok-element.ensures.shorter in
    let within = c.in_ok-rest.ensures.within in
    let before = c.past_blank-start.ensures.within in (
      search rules,
      omega (arith, l.invariant.1, shorter, within, before),
      λ none n h.
          let (taken, holds, m, capacity, loop) = l.invariant.2 none n h in (
            push_item taken (view c.in_ok-element.element),
            c.in_ok-take_table.ensures taken holds,
            m - 1,
            omega (arith, capacity, shorter, within, before),
            loop ∙ items_more (val c.args.depth) m taken l.rest.now _ _ _ (omega (arith, capacity)) other (rw start_is at c.in_ok-element.ensures.value) c.in_ok-rest.ensures.value,
          ),
    )
