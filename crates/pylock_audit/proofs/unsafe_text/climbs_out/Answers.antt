use Rattle.std.proofs.Common.{◌≡◌, ◌∙◌, ◌+◌, ◌<◌, ◌∷◌, arith, drop, refl, rules, sym, length, tests}
use Rattle.std.proofs.lemmas.List.{length_push}
use Rattle.pylock_audit.specs.Unsafe.{climb_out, path_pieces}
use Rattle.pylock_audit.proofs.ClimbLemmas.{climbs, climbs_first, descends, next_piece, no_piece, stays}
use Rattle.pylock_audit.proofs.unsafe_text.climbs_out.Goals as goal
use Rattle.pylock_audit.proofs.unsafe_text.climbs_out.Goals.{In-Some}

-- the next piece, and those behind it
next : (c : In-Some)
    → (length c.loop-piece.yielded < length c.args.text.now + 1)
    × (climb_out c.loop-piece.depth (drop (length c.loop-piece.yielded) (path_pieces c.args.windows c.args.text.now))
    ≡ climb_out c.loop-piece.depth (c.in-Some.piece.now ∷ drop (length c.loop-piece.yielded + 1) (path_pieces c.args.windows c.args.text.now)))
next c =
    next_piece _ c.args.windows c.args.text.now c.loop-piece.depth _ _ _ _ _ c.loop-piece.yielded c.loop-piece.yielded_by _ c.in-Some.piece c.in-Some.is c.next.ensures.steps
    c.into_iter-piece-iterator.ensures.into_iter_gives (c.split-piece-items.ensures.rest ∙ c.as_bytes.ensures.value) c.split-piece-items.ensures.done c.split-piece-items.ensures.closure (λ x b q k. search (rules, tests))

pub loop-piece-init : goal.loop-piece-init
loop-piece-init c = (omega arith, refl)

pub returns-then-depth-eq0 : goal.returns-then-depth-eq0
returns-then-depth-eq0 c =
    let on = next (goal.at.returns-then-depth-eq0 c).In-Some in
    let out = climbs_first c.loop-piece.depth c.in-Some.piece.now (drop (length c.loop-piece.yielded + 1) (path_pieces c.args.windows c.args.text.now)) (search rules) c.if-depth-eq0.true in
    sym (sym c.loop-piece.invariant.1 ∙ on.1 ∙ out)

pub loop-piece-preserved-then-is_folder_above : goal.loop-piece-preserved-then-is_folder_above
loop-piece-preserved-then-is_folder_above c =
    let on = next (goal.at.loop-piece-preserved-then-is_folder_above c).In-Some in
    let n = length_push c.loop-piece.yielded c.in-Some.piece in
    let up = climbs c.loop-piece.depth c.in-Some.piece.now (drop (length c.loop-piece.yielded + 1) (path_pieces c.args.windows c.args.text.now)) (search rules) c.if-depth-eq0.false in
    (omega (arith, n, c.loop-piece.invariant.0), rw n (sym (on.1 ∙ up) ∙ c.loop-piece.invariant.1))

pub overflow_add-depth : goal.overflow_add-depth
overflow_add-depth c =
    let on = next (goal.at.overflow_add-depth c).In-Some in
    omega (arith, on.0, c.loop-piece.invariant.0)

pub loop-piece-preserved-then-not-is_same_folder : goal.loop-piece-preserved-then-not-is_same_folder
loop-piece-preserved-then-not-is_same_folder c =
    let on = next (goal.at.loop-piece-preserved-then-not-is_same_folder c).In-Some in
    let n = length_push c.loop-piece.yielded c.in-Some.piece in
    let down = descends c.loop-piece.depth c.in-Some.piece.now (drop (length c.loop-piece.yielded + 1) (path_pieces c.args.windows c.args.text.now)) (search rules) (search rules) in
    (omega (arith, n, c.loop-piece.invariant.0), rw n (sym (on.1 ∙ down) ∙ c.loop-piece.invariant.1))

pub loop-piece-preserved : goal.loop-piece-preserved
loop-piece-preserved c =
    let on = next (goal.at.loop-piece-preserved c).In-Some in
    let n = length_push c.loop-piece.yielded c.in-Some.piece in
    let same = stays c.loop-piece.depth c.in-Some.piece.now (drop (length c.loop-piece.yielded + 1) (path_pieces c.args.windows c.args.text.now)) (search rules) (search rules) in
    (omega (arith, n, c.loop-piece.invariant.0), rw n (sym (on.1 ∙ same) ∙ c.loop-piece.invariant.1))

pub returns : goal.returns
returns c =
    sym (no_piece _ c.args.windows c.args.text.now c.loop-piece.depth _ _ _ _ _ c.loop-piece.yielded c.loop-piece.yielded_by _ c.in-None.is c.next.ensures.steps
    c.into_iter-piece-iterator.ensures.into_iter_gives (c.split-piece-items.ensures.rest ∙ c.as_bytes.ensures.value) c.split-piece-items.ensures.done c.split-piece-items.ensures.closure (λ x b q k. search (rules, tests))) ∙ c.loop-piece.invariant.1
