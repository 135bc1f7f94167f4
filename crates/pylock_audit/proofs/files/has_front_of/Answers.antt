use Rattle.std.proofs.Common.{◌≡◌, ◌∙◌, ◌++◌, None, ap, arith, codes, false, refl, rules, string_bytes, sym, true}
use Rattle.std.specs.List.{list_any}
use Rattle.pywheel_core.specs.Texts.{cut_at}
use Rattle.pylock_audit.proofs.FrontLemmas.{next_front, no_front}
use Rattle.pylock_places.proofs.TextLemmas.{cut_shorter}
use Rattle.pylock_audit.specs.Entry.{is_name_of}
use Rattle.pylock_audit.proofs.files.has_front_of.Goals as goal

pub returns-then-branch : goal.returns-then-branch
returns-then-branch c =
    let next = next_front (string_bytes c.loop-piece.front) c.loop-piece.left.now c.in-Some.piece.now c.in-Some.rest.now (sym c.in-Some.ensures) in
    let is : is_name_of c.args.name.now (string_bytes c.loop-piece.front ++ c.in-Some.piece.now) ≡ true = search rules in
    sym (c.loop-piece.invariant.1 ∙ ap (list_any (is_name_of c.args.name.now)) next ∙ rw is refl)

pub loop-piece-smaller : goal.loop-piece-smaller
loop-piece-smaller c =
    let shorter = cut_shorter 45 c.loop-piece.left.now c.in-Some.piece.now c.in-Some.rest.now (sym c.in-Some.ensures) in
    omega (arith, shorter)

pub loop-piece-preserved : goal.loop-piece-preserved
loop-piece-preserved c =
    let front = string_bytes c.loop-piece.front in
    let next = next_front front c.loop-piece.left.now c.in-Some.piece.now c.in-Some.rest.now (sym c.in-Some.ensures) in
    let other : is_name_of c.args.name.now (front ++ c.in-Some.piece.now) ≡ false = search rules in
    let pushed : string_bytes c.push_str-in-Some.new.self ≡ (front ++ c.in-Some.piece.now) ++ codes "-" =
    rw (c.in_ok-push_str-2.ensures.bytes, c.in_ok-push_str.ensures.bytes) refl in (
      search rules,
      c.loop-piece.invariant.1 ∙ ap (list_any (is_name_of c.args.name.now)) next
          ∙ rw (other, pushed) refl,
    )

pub returns : goal.returns
returns c =
    let last : cut_at 45 c.loop-piece.left.now ≡ None = search rules in
    sym (c.loop-piece.invariant.1
    ∙ ap (list_any (is_name_of c.args.name.now)) (no_front (string_bytes c.loop-piece.front) c.loop-piece.left.now last))
