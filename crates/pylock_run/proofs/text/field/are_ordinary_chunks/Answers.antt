use Rattle.std.proofs.Common.{◌≡◌, true, sym, ◌∙◌, subst}
use Rattle.std.proofs.lemmas.List.{take_all}
use Rattle.std.specs.List.{list_all}
use Rattle.pylock_run.specs.Inner.Fields.{is_ordinary}
use Rattle.pylock_run.proofs.OrdinaryBytesLemmas.{all_by_chunks, all_by_last}
use Rattle.pylock_run.proofs.text.field.are_ordinary_chunks.Goals as goal

pub returns-then-is_empty : goal.returns-then-is_empty
returns-then-is_empty g c = λ _. all_by_chunks is_ordinary g.row.N c.args.text.now _
    (subst (λ xs. list_all (list_all is_ordinary) xs ≡ true)
    (take_all _ _ c.loop-chunk-test.false ∙ c.as_chunks.ensures.front) c.loop-chunk.invariant)
    c.as_chunks.ensures.back (sym c.is_empty.ensures ∙ c.if-is_empty.true)

pub returns-in-Some : goal.returns-in-Some
returns-in-Some g c = λ yes. all_by_last is_ordinary g.row.N c.args.text.now _
    c.requires.0 c.in-Some.ensures.cases.0
    (subst (λ xs. list_all (list_all is_ordinary) xs ≡ true)
    (take_all _ _ c.loop-chunk-test.false ∙ c.as_chunks.ensures.front) c.loop-chunk.invariant)
    c.as_chunks.ensures.back c.as_chunks.ensures.back_len
    (subst (λ xs. list_all is_ordinary xs ≡ true) c.in-Some.ensures.cases.1.same
    (sym c.are_ordinary-in-Some.ensures ∙ yes))
