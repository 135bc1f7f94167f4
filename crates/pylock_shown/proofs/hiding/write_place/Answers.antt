use Rattle.std.proofs.Common.{◌≡◌, None, arith, rules, sym}
use Rattle.pywheel_core.specs.Texts.{cut_at}
use Rattle.pylock_shown.proofs.CutLemmas.{cut_shorter}
use Rattle.pylock_shown.proofs.WrittenLemmas.{begun, written_last, written_more}
use Rattle.pylock_shown.specs.Hidden.{hidden_place, without_user}
use Rattle.pylock_shown.proofs.hiding.write_place.Goals as goal

pub loop-piece-init : goal.loop-piece-init
loop-piece-init g c = (search rules, begun g.W.Write.write_str_gives hidden_place c.args.f.now c.args.text.now)

pub loop-piece-smaller : goal.loop-piece-smaller
loop-piece-smaller g c =
    let shorter = cut_shorter 47 c.loop-piece.left.now c.in-Some.piece.now c.in-Some.rest.now (sym c.in-Some.ensures) in
    omega (arith, shorter)

pub loop-piece-preserved : goal.loop-piece-preserved
loop-piece-preserved g c = (
  search rules,
  written_more g.W.Write.write_str_gives 47 without_user c.args.f.now c.loop-piece.f c.write_without_user.new.f c.write_str.new.self
      c.loop-piece.left.now c.in-Some.piece.now c.in-Some.rest.now c.args.text.now (sym c.in-Some.ensures) c.loop-piece.invariant.1
      (λ plain. c.write_without_user.ensures plain (search rules)) (λ plain. c.write_str.ensures.writes plain (search rules)),
)

pub returns : goal.returns
returns g c =
    let last : cut_at 47 c.loop-piece.left.now ≡ None = search rules in
    written_last g.W.Write.write_str_gives 47 without_user c.args.f.now c.loop-piece.f c.write_without_user-2.new.f c.loop-piece.left.now c.args.text.now
    c.write_without_user-2.result last c.loop-piece.invariant.1 c.write_without_user-2.ensures
