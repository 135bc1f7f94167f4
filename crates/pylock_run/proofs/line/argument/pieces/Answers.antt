use Rattle.std.proofs.Common.{arith, ap, sym, refl, ◌==◌}
use Rattle.std.specs.Prelude.{Ok, map}
use Rattle.std.proofs.lemmas.Iterator.Splits.{YieldsList-from_str_split}
use Rattle.std.specs.List.{slice_split}
use Rattle.pylock_run.proofs.PieceLemmas.{one_piece, all_pieces}
use Rattle.pylock_run.proofs.line.argument.pieces.Goals as goal

pub loop-piece-init : goal.loop-piece-init
loop-piece-init c =
    let text = c.args.text.now in
    let yields = YieldsList-from_str_split 32 text (omega arith) c.split-piece-items.ensures.text c.split-piece-items.ensures.has_more c.split-piece-items.ensures.pattern in
    (slice_split (λ b. b == 32) text, rw c.into_iter-piece-iterator.ensures.into_iter_gives yields, rw c.new-texts.ensures.items refl)

pub loop-piece-preserved : goal.loop-piece-preserved
loop-piece-preserved c =
    one_piece c.args.text.now c.loop-piece.piece-iterator c.next.new.self c.in-Some.piece (map (λ t. t.now) c.loop-piece.texts.items) _
    c.in-Some.ensures.steps c.loop-piece.invariant c.in_ok-push_nonempty.ensures

pub returns : goal.returns
returns c = ap Ok (sym (all_pieces c.args.text.now c.loop-piece.piece-iterator c.next.new.self (map (λ t. t.now) c.loop-piece.texts.items)
    c.in-None.ensures.steps c.loop-piece.invariant))
