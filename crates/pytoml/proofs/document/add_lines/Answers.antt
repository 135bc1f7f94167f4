use Rattle.std.proofs.Common.{◌≡◌, ◌==◌, ◌-◌, suc, length, false, [], Some, ◌∙◌, ap, sym, rules, arith}
use Rattle.std.proofs.lemmas.Grind.{common_steps}
use Rattle.toml_parser.specs.Lexical.{skip_blank}
use Rattle.toml.specs.Tables.{no_nodes}
use Rattle.toml.specs.Parse.{line}
use Rattle.toml.proofs.Turns.{lines_end, lines_more}
use Rattle.pytoml.proofs.document.add_lines.Goals as goal

pub lines-init : goal.lines-init
lines-init g c = (
  search rules,
  c.past_mark-rest.ensures.within,
  (no_nodes, []),
  c.requires,
  suc (length c.args.s.now),
  omega (arith, c.past_mark-rest.ensures.within),
  rw c.past_mark-rest.ensures.rest,
)

pub returns-then-is_empty : goal.returns-then-is_empty
returns-then-is_empty g c =
    let l = c.lines in
    let (utf8, within, doc, stands, m, capacity, loop) = l.invariant in
    let start_is = c.past_blank-start.ensures.rest in
    let none : length (skip_blank l.rest.now) ≡ 0 = grind (arith, common_steps) in
    let ended = loop ∙ lines_end m doc l.rest.now (omega arith) none in
    (doc, stands, ended)

pub lines-preserved : goal.lines-preserved
lines-preserved g c =
    let l = c.lines in
    let (utf8, within, doc, stands, m, capacity, loop) = l.invariant in
    let start_is = c.past_blank-start.ensures.rest in
    let other : (length (skip_blank l.rest.now) == 0) ≡ false = grind (arith, common_steps) in
    let (e, next, read, defined, now) = c.in_ok-rest.ensures.adds doc stands in
    let read_here : line (skip_blank l.rest.now) ≡ Some (e, c.in_ok-rest.rest.now) = ap line (sym start_is) ∙ read in (
      search rules,
      omega (arith, within, c.in_ok-rest.ensures.shorter, c.past_blank-start.ensures.within),
      next,
      now,
      m - 1,
      omega (arith, capacity, c.in_ok-rest.ensures.shorter, c.past_blank-start.ensures.within),
      loop ∙ lines_more m doc next l.rest.now e _ (omega arith) other read_here defined,
    )
