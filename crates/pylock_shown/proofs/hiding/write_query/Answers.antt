use Rattle.std.proofs.Common.{◌≡◌, None, arith, rules, sym}
use Rattle.pywheel_core.specs.Texts.{cut_at}
use Rattle.pylock_shown.proofs.CutLemmas.{cut_shorter}
use Rattle.pylock_shown.proofs.WrittenLemmas.{begun, written_last, written_more}
use Rattle.pylock_shown.specs.Hidden.{hidden_query}
use Rattle.pylock_shown.specs.Inner.Parts.{query_part}
use Rattle.pylock_shown.proofs.hiding.write_query.Goals as goal

pub loop-part-init : goal.loop-part-init
loop-part-init g c = (search rules, begun g.W.Write.write_str_gives hidden_query c.args.f.now c.args.query.now)

pub loop-part-smaller : goal.loop-part-smaller
loop-part-smaller g c =
    let shorter = cut_shorter 38 c.loop-part.left.now c.in-Some.part.now c.in-Some.rest.now (sym c.in-Some.ensures) in
    omega (arith, shorter)

pub loop-part-preserved : goal.loop-part-preserved
loop-part-preserved g c = (
  search rules,
  written_more g.W.Write.write_str_gives 38 query_part c.args.f.now c.loop-part.f c.write_query_part.new.f c.write_str.new.self
      c.loop-part.left.now c.in-Some.part.now c.in-Some.rest.now c.args.query.now (sym c.in-Some.ensures) c.loop-part.invariant.1
      (λ plain. c.write_query_part.ensures plain (search rules)) (λ plain. c.write_str.ensures.writes plain (search rules)),
)

pub returns : goal.returns
returns g c =
    let last : cut_at 38 c.loop-part.left.now ≡ None = search rules in
    written_last g.W.Write.write_str_gives 38 query_part c.args.f.now c.loop-part.f c.write_query_part-2.new.f c.loop-part.left.now c.args.query.now
    c.write_query_part-2.result last c.loop-part.invariant.1 c.write_query_part-2.ensures
