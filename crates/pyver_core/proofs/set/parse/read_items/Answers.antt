use Rattle.std.proofs.Common.{arith, ◌≡◌, ◌∙◌, [], ◌∷◌, List, ℕ, None, Some, ap, refl, sym, subst, true, false}
use Rattle.std.specs.List.{list_all, slice_split}
use Rattle.std.specs.Prelude.{◌==◌}
use Rattle.std.specs.Str.Iter.{split_steps}
use Rattle.std.specs.Str.Pattern.{FindsChar}
use Rattle.std.proofs.lemmas.Iterator.{YieldsList}
use Rattle.std.proofs.lemmas.Iterator.Splits.{YieldsList-from_str_split}
use Rattle.pytext.specs.Bytes.{is_white}
use Rattle.pyver_core.specs.Set.Reading.{operand_of, operator_at, set_of, specifier_of}
use Rattle.pyver_core.specs.Parsed.{parsed_set}
use Rattle.pyver_core.specs.Set.Grammar.{set_numbers}
use Rattle.pyver_core.specs.declared.set.error.SpecifierError.TheVariants.{NumberTooLarge}
use Rattle.pyver_core.specs.Inner.SpecifierDraft.{draft_specifier}
use Rattle.pytext.proofs.IteratorLemmas.{yields_next, yields_none}
use Rattle.pyver_core.proofs.Lemmas.Set.Reading.Operators.{cut_read, uncut}
use Rattle.pyver_core.proofs.Lemmas.Set.Reading.SoFar.{ReadSoFar, read_blank, read_end, read_end_large, read_large, read_refused, read_start, read_within}
use Rattle.pyver_core.proofs.Lemmas.Parsed.Outcomes.{within-false, within-true}
use Rattle.pyver_core.proofs.set.parse.read_items.Goals as goal
use Rattle.pyver_core.proofs.set.parse.read_items.Goals.{In-Some, In-None, After-after_white, In-Some-read, In-Some-read_operand}

abbrev pieces : List ℕ → List (List ℕ)
pieces text = slice_split (λ b. b == 44) text

pub loop-piece-init : goal.loop-piece-init
loop-piece-init c =
    let text = c.args.text.now in
    let yields = YieldsList-from_str_split 44 text (omega arith) c.split-piece-items.ensures.text c.split-piece-items.ensures.has_more c.split-piece-items.ensures.pattern in
    (pieces text, rw c.into_iter-piece-iterator.ensures.into_iter_gives yields, rw c.new-items.ensures.items (read_start (pieces text)))

-- what is left to read where another piece was taken
taken : (c : In-Some) → (rest : List (List ℕ)) × YieldsList (split_steps FindsChar (λ a b. b ≡ a)) (λ y. y.now) c.next.new.self rest
    × ReadSoFar (c.in-Some.piece.now ∷ rest) (pieces c.args.text.now) c.loop-piece.items.items c.loop-piece.is_large
taken c =
    let i = c.loop-piece.invariant in
    let n = yields_next (split_steps FindsChar (λ a b. b ≡ a)) (λ y. y.now) c.loop-piece.piece-iterator i.0 i.1 c.in-Some.piece c.next.new.self c.in-Some.ensures.steps in
    (n.0, n.2, subst (λ left. ReadSoFar left (pieces c.args.text.now) c.loop-piece.items.items c.loop-piece.is_large) n.1 i.2)

pub loop-piece-preserved-then-is_blank : goal.loop-piece-preserved-then-is_blank
loop-piece-preserved-then-is_blank c =
    let at = taken (goal.at.loop-piece-preserved-then-is_blank c).In-Some in
    let blank : list_all is_white c.in-Some.piece.now ≡ true = ap (list_all is_white) (sym c.as_bytes.ensures.value) ∙ sym c.is_blank.ensures ∙ c.if-is_blank.true in
    (at.0, at.1, read_blank blank at.2)

-- the piece isn't white space alone
other : (c : After-after_white) → list_all is_white c.in-Some.piece.now ≡ false
other c = ap (list_all is_white) (sym c.as_bytes.ensures.value) ∙ sym c.is_blank.ensures ∙ c.if-is_blank.false

-- what a piece is read as
read : (c : In-Some-read) → specifier_of c.in-Some.piece.now ≡ operand_of c.in-Some-read.operator c.in-Some-read.operand.now
read c = cut_read c.in-Some.piece.now c.in-Some-read.operator c.in-Some-read.operand.now (ap operator_at (sym c.after_white.ensures) ∙ sym c.in-Some-read.ensures)

drafted : (c : In-Some-read_operand) → operand_of c.in-Some-read.operator c.in-Some-read.operand.now ≡ Some (draft_specifier c.in-Some-read_operand.draft)
drafted c = rw c.in-Some-read_operand.is at (sym c.read_operand.ensures)

pub returns-in_default : goal.returns-in_default
unfolding set_of parsed_set
returns-in_default c =
    let p = goal.at.returns-in_default c in
    let at = taken p.In-Some in
    let none = uncut c.in-Some.piece.now (ap operator_at (sym c.after_white.ensures) ∙ sym c.in_default.ensures) in
    λ _. rw (read_refused (other p.After-after_white) none at.2) refl

pub returns-in_default-read_operand : goal.returns-in_default-read_operand
unfolding set_of parsed_set
returns-in_default-read_operand c =
    let p = goal.at.returns-in_default-read_operand c in
    let at = taken p.In-Some in
    let none : specifier_of c.in-Some.piece.now ≡ None = read p.In-Some-read ∙ rw c.in_default-read_operand.is at (sym c.read_operand.ensures) in
    λ _. rw (read_refused (other p.After-after_white) none at.2) refl

pub loop-piece-preserved-in-Some-2 : goal.loop-piece-preserved-in-Some-2
loop-piece-preserved-in-Some-2 c =
    let p = goal.at.loop-piece-preserved-in-Some-2 c in
    let at = taken p.In-Some in
    let found = rw c.in-Some-2.is at c.in_ok-specifier.ensures in
    (at.0, at.1, rw c.in_ok-push.ensures.items (read_within c.in-Some-2.specifier (other p.After-after_white) (read p.In-Some-read ∙ found.0) found.1 at.2))

pub loop-piece-preserved-then-not-is_within : goal.loop-piece-preserved-then-not-is_within
loop-piece-preserved-then-not-is_within c =
    let p = goal.at.loop-piece-preserved-then-not-is_within c in
    let at = taken p.In-Some in
    let some = read p.In-Some-read ∙ drafted p.In-Some-read_operand in
    let past = rw c.if-not-is_within.true at c.in_ok-is_within.ensures in
    (at.0, at.1, read_large (draft_specifier c.in-Some-read_operand.draft) (other p.After-after_white) some past at.2)

pub loop-piece-preserved : goal.loop-piece-preserved
loop-piece-preserved c =
    let p = goal.at.loop-piece-preserved c in
    let at = taken p.In-Some in
    let some = read p.In-Some-read ∙ drafted p.In-Some-read_operand in
    let within = rw c.if-not-is_within.false at c.in_ok-is_within.ensures in
    (at.0, at.1, rw within.0 (read_within (draft_specifier c.in-Some-read_operand.draft) (other p.After-after_white) some within.1 at.2))

-- all pieces were read
ended : (c : In-None) → ReadSoFar [] (pieces c.args.text.now) c.loop-piece.items.items c.loop-piece.is_large
ended c =
    let i = c.loop-piece.invariant in
    let none = yields_none (split_steps FindsChar (λ a b. b ≡ a)) (λ y. y.now) c.loop-piece.piece-iterator i.0 i.1 c.next.new.self c.in-None.ensures.steps in
    subst (λ left. ReadSoFar left (pieces c.args.text.now) c.loop-piece.items.items c.loop-piece.is_large) none i.2

pub returns-then-is_large : goal.returns-then-is_large
unfolding set_of parsed_set
returns-then-is_large c =
    let all = read_end_large (rw c.if-is_large.true at (ended (goal.at.returns-then-is_large c).In-None)) in
    λ _. rw all.1 (within-true NumberTooLarge (set_numbers all.0) all.0 all.2)

pub returns : goal.returns
unfolding set_of parsed_set
returns c =
    let all = read_end (rw c.if-is_large.false at (ended (goal.at.returns c).In-None)) in
    rw all.0 (within-false NumberTooLarge (set_numbers c.loop-piece.items.items) c.loop-piece.items.items all.1)
