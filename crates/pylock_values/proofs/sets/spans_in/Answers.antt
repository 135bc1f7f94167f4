use Rattle.std.proofs.Common.{◌≡◌, ◌++◌, ◌+◌, ◌∙◌, ◌∷◌, List, ℕ, ap, arith, append_assoc, length, refl, subst, sym}
use Rattle.std.specs.Str.Iter.{split_steps}
use Rattle.std.specs.Str.Pattern.{FindsChar}
use Rattle.std.proofs.lemmas.Iterator.{YieldsList}
use Rattle.std.proofs.lemmas.Iterator.Splits.{YieldsList-from_str_split}
use Rattle.std.specs.Prelude.{◌==◌}
use Rattle.std.proofs.lemmas.List.{append-nil}
use Rattle.pytext.proofs.IteratorLemmas.{yields_next, yields_none}
use Rattle.pylock_values.specs.Spans.{piece_span, set_pieces, spans_from}
use Rattle.pylock_values.proofs.SpansLemmas.{capacity, split_capacity}
use Rattle.pylock_values.proofs.sets.spans_in.Goals as goal
use Rattle.pylock_values.proofs.sets.spans_in.Goals.{In-Some}

pub loop-piece-init : goal.loop-piece-init
loop-piece-init c =
    let text = c.args.text.now in
    let yields = YieldsList-from_str_split 44 text (omega arith) c.split-piece-items.ensures.text c.split-piece-items.ensures.has_more c.split-piece-items.ensures.pattern in
    (set_pieces text, rw c.into_iter-piece-iterator.ensures.into_iter_gives yields, rw c.in_ok-spans.ensures.items refl, omega (arith, split_capacity (λ b. b == 44) text))

-- what is left where another piece was taken
taken : (c : In-Some) → (rest : List (List ℕ)) × YieldsList (split_steps FindsChar (λ a b. b ≡ a)) (λ y. y.now) c.next.new.self rest
    × (c.loop-piece.spans.items ++ spans_from c.loop-piece.start (c.in-Some.piece.now ∷ rest) ≡ spans_from 0 (set_pieces c.args.text.now))
    × (c.loop-piece.start + capacity (c.in-Some.piece.now ∷ rest) ≡ length c.args.text.now + 1)
taken c =
    let i = c.loop-piece.invariant in
    let n = yields_next (split_steps FindsChar (λ a b. b ≡ a)) (λ y. y.now) c.loop-piece.piece-iterator i.0 i.1 c.in-Some.piece c.next.new.self c.in-Some.ensures.steps in (
      n.0,
      n.2,
      subst (λ left. c.loop-piece.spans.items ++ spans_from c.loop-piece.start left ≡ spans_from 0 (set_pieces c.args.text.now)) n.1 i.2,
      subst (λ left. c.loop-piece.start + capacity left ≡ length c.args.text.now + 1) n.1 i.3,
    )

pub push_span-requires : goal.push_span-requires
push_span-requires c =
    let t = taken (goal.at.push_span-requires c).In-Some in
    let small = c.requires in
    omega (arith, t.3, small)

pub overflow_add-start-in-loop-piece : goal.overflow_add-start-in-loop-piece
overflow_add-start-in-loop-piece c =
    let t = taken (goal.at.overflow_add-start-in-loop-piece c).In-Some in
    let small = c.requires in
    omega (arith, t.3, small)

pub loop-piece-preserved : goal.loop-piece-preserved
unfolding spans_from
loop-piece-preserved c =
    let t = taken (goal.at.loop-piece-preserved c).In-Some in
    let start : c.loop-piece.start + (length c.in-Some.piece.now + 1) ≡ c.loop-piece.start + length c.in-Some.piece.now + 1 = omega arith in (
      t.0,
      t.1,
      ap (λ (s : List ℕ). s ++ spans_from (c.loop-piece.start + (length c.in-Some.piece.now + 1)) t.0) c.in_ok-push_span.ensures
          ∙ append_assoc c.loop-piece.spans.items (piece_span c.loop-piece.start c.in-Some.piece.now) (spans_from (c.loop-piece.start + (length c.in-Some.piece.now + 1)) t.0)
          ∙ ap (λ (n : ℕ). c.loop-piece.spans.items ++ (piece_span c.loop-piece.start c.in-Some.piece.now ++ spans_from n t.0)) start
          ∙ t.2,
      omega (arith, t.3),
    )

pub returns : goal.returns
unfolding spans_from
returns c =
    let i = c.loop-piece.invariant in
    let none = yields_none (split_steps FindsChar (λ a b. b ≡ a)) (λ y. y.now) c.loop-piece.piece-iterator i.0 i.1 c.next.new.self c.in-None.ensures.steps in
    let ended = subst (λ left. c.loop-piece.spans.items ++ spans_from c.loop-piece.start left ≡ spans_from 0 (set_pieces c.args.text.now)) none i.2 in
    sym (append-nil c.loop-piece.spans.items) ∙ ended
