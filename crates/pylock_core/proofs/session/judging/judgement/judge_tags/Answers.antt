use Rattle.std.proofs.Common.{◌≡◌, ◌∙◌, List, ℕ, Option, Some, None, IfOk, map, subst, sym, refl, arith}
use Rattle.pylock_core.specs.Inner.Judging.Judgement.{fresh_row}
use Rattle.pylock_core.specs.Inner.Tables.Names.{policy_at}
use Rattle.pylock_core.specs.Session.Judgement.{OfTags, entry_reads}
use Rattle.pylock_core.proofs.Lemmas.Judging.Judgement.{all_stand, readers_here}
use Rattle.pylock_core.proofs.session.judging.judgement.judge_tags.Goals as goal

pub rows_by_tags-requires-clause-stand : goal.rows_by_tags-requires-clause-stand
rows_by_tags-requires-clause-stand c =
    all_stand (entry_reads OfTags) c.args.parts.now.entries.items c.as_slice.result.now
    (readers_here c.args.parts.now OfTags 13 _ c.as_slice.result.now c.requires refl (omega arith) c.as_slice.ensures.value)

pub returns-clause-rows : goal.returns-clause-rows
returns-clause-rows c =
    let p = c.args.parts.now in
    subst (λ (ns : List ℕ). IfOk c.rows_by_tags.result (λ fresh. fresh.items ≡ map (fresh_row p.environment c.args.tags.now (policy_at p.names.policies.items) p.entries.items p.rows.items) ns))
    (readers_here c.args.parts.now OfTags 13 _ c.as_slice.result.now c.requires refl (omega arith) c.as_slice.ensures.value)
    c.rows_by_tags.ensures.fresh

-- nothing is found yet
pub rows_by_tags-requires-clause-ranks : goal.rows_by_tags-requires-clause-ranks
rows_by_tags-requires-clause-ranks c = λ set n rank has found.
    let e : ◌≡◌ {A = Option (Option ℕ)} None (Some rank) = sym (c.in_ok-ranks.ensures n) ∙ found in cc
