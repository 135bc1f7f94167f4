use Rattle.std.proofs.Common.{arith, ◌≡◌, ◌∙◌, ◌∷◌, Bor, List, ℕ, Some, ap, map, sym, subst}
use Rattle.std.specs.List.{slice_split}
use Rattle.std.specs.Prelude.{◌==◌, string_bytes}
use Rattle.std.specs.Str.Iter.{split_steps}
use Rattle.std.specs.Str.Pattern.{FindsChar}
use Rattle.std.specs.declared.str.Split.{Split}
use Rattle.std.proofs.lemmas.Iterator.{YieldsList}
use Rattle.std.proofs.lemmas.Iterator.Splits.{YieldsList-from_str_split}
use Rattle.std.proofs.lemmas.List.{map_push}
use Rattle.std.proofs.lemmas.Result.{err_from_is_err_and}
use Rattle.pymark_core.specs.Requirement.Reading.{names_in}
use Rattle.pytext.proofs.IteratorLemmas.{yields_next, yields_none}
use Rattle.pymark_core.proofs.Lemmas.Requirement.Names.{onto, onto_end, onto_fault, onto_more, onto_nothing}
use Rattle.pymark_core.proofs.requirement.parts.names_in.Goals as goal

abbrev pieces : List ℕ → List (List ℕ)
pieces text = slice_split (λ b. b == 44) text

-- what the invariant says once another piece was taken
abbrev Taken : List ℕ → Split ℕ → List ℕ → List (List ℕ) → Type 0
Taken text t piece names = (rest : List (List ℕ))
    × YieldsList (split_steps FindsChar (λ a b. b ≡ a)) (λ x. x.now) t rest
    × (onto names (names_in (piece ∷ rest)) ≡ names_in (pieces text))

taken : (text : List ℕ) (s t : Split ℕ) (x : Bor (List ℕ)) (names : List (List ℕ))
    → split_steps FindsChar (λ a b. b ≡ a) s (Some x) t
    → ((left : List (List ℕ)) × YieldsList (split_steps FindsChar (λ a b. b ≡ a)) (λ y. y.now) s left × (onto names (names_in left) ≡ names_in (pieces text)))
    → Taken text t x.now names
taken text s t x names step i =
    let n = yields_next (split_steps FindsChar (λ a b. b ≡ a)) (λ y. y.now) s i.0 i.1 x t step in
    (n.0, n.2, subst (λ left. onto names (names_in left) ≡ names_in (pieces text)) n.1 i.2)

pub loop-piece-init : goal.loop-piece-init
loop-piece-init c =
    let text = c.args.text.now in
    let yields = YieldsList-from_str_split 44 text (omega arith) c.split-piece-items.ensures.text c.split-piece-items.ensures.has_more c.split-piece-items.ensures.pattern in
    (pieces text, rw c.into_iter-piece-iterator.ensures.into_iter_gives yields, rw c.new-names.ensures.items (onto_nothing (names_in (pieces text))))

pub returns-in_err-read_extra : goal.returns-in_err-read_extra
returns-in_err-read_extra c =
    let at = taken c.args.text.now c.loop-piece.piece-iterator c.next.new.self c.in-Some.piece (map string_bytes c.loop-piece.names.items)
    c.in-Some.ensures.steps c.loop-piece.invariant in
    let p = err_from_is_err_and c.from_residual.result c.from_residual.ensures.1 in
    rw (p.1, p.2) (λ other.
    sym at.2 ∙ onto_fault (map string_bytes c.loop-piece.names.items) at.0 _ c.in-Some.piece.now (c.in_err-read_extra.ensures other))

pub loop-piece-preserved : goal.loop-piece-preserved
loop-piece-preserved c =
    let front = map string_bytes c.loop-piece.names.items in
    let at = taken c.args.text.now c.loop-piece.piece-iterator c.next.new.self c.in-Some.piece front c.in-Some.ensures.steps c.loop-piece.invariant in
    let name = string_bytes c.in_ok-read_extra.field-0 in (
      at.0,
      at.1,
      ap (λ ns. onto (map string_bytes ns) (names_in at.0)) c.in_ok-push.ensures.items
          ∙ ap (λ ns. onto ns (names_in at.0)) (map_push string_bytes c.loop-piece.names.items c.in_ok-read_extra.field-0)
          ∙ sym (onto_more front name at.0 c.in-Some.piece.now c.in_ok-read_extra.ensures) ∙ at.2,
    )

pub returns : goal.returns
returns c =
    let i = c.loop-piece.invariant in
    let none = yields_none (split_steps FindsChar (λ a b. b ≡ a)) (λ y. y.now) c.loop-piece.piece-iterator i.0 i.1 c.next.new.self c.in-None.ensures.steps in
    let front = map string_bytes c.loop-piece.names.items in
    sym i.2 ∙ ap (λ left. onto front (names_in left)) none ∙ onto_end front
