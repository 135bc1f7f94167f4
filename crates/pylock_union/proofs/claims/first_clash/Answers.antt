use Rattle.std.proofs.Common.{◌≡◌, ◌∙◌, ◌+◌, None, Some, ap, drop, option_map, rules, subst, sym, take}
use Rattle.std.specs.List.{find}
use Rattle.pylock_union.specs.Inner.{IsTable, all_claims, lent_claim}
use Rattle.pylock_union.specs.Union.{contradicts, first_clash}
use Rattle.pylock_union.proofs.ClaimLemmas.{clash_here, clash_on}
use Rattle.pylock_union.proofs.FirstLemmas.{next_mapped, taken_mapped}
use Rattle.pylock_union.proofs.claims.first_clash.Goals as goal

pub returns-in-Some : goal.returns-in-Some
returns-in-Some c =
    let claims = c.args.claims.now in
    let place = c.loop-claim.claim-index in
    let claim = lent_claim c.claim-item.result in
    let before = all_claims (take place claims) in
    let rest = all_claims (drop (place + 1) claims) in
    let front = next_mapped lent_claim claims place c.claim-item.result c.loop-claim-test.true c.claim-item.is in
    let found : find (contradicts claim) before ≡ Some (lent_claim c.in-Some.earlier) =
    sym (c.in_ok-earlier.ensures.contradicted before c.loop-claim.invariant.1) ∙ ap (option_map lent_claim) c.in-Some.is in
    clash_here before rest claim (lent_claim c.in-Some.earlier) found ∙ ap (first_clash before) (sym front) ∙ c.loop-claim.invariant.0

pub loop-claim-preserved : goal.loop-claim-preserved
loop-claim-preserved c =
    let claims = c.args.claims.now in
    let place = c.loop-claim.claim-index in
    let claim = lent_claim c.claim-item.result in
    let before = all_claims (take place claims) in
    let rest = all_claims (drop (place + 1) claims) in
    let front = next_mapped lent_claim claims place c.claim-item.result c.loop-claim-test.true c.claim-item.is in
    let grown = taken_mapped lent_claim claims place c.claim-item.result c.loop-claim-test.true c.claim-item.is in
    let none : c.in_ok-earlier.field-0 ≡ None = search rules in
    let clear : find (contradicts claim) before ≡ None =
    sym (c.in_ok-earlier.ensures.contradicted before c.loop-claim.invariant.1) ∙ ap (option_map lent_claim) none in (
      ap (λ so_far. first_clash so_far rest) grown ∙ clash_on before rest claim clear ∙ ap (first_clash before) (sym front) ∙ c.loop-claim.invariant.0,
      subst (IsTable c.put_claim.new.table) (sym grown) (c.in_ok-earlier.ensures.put before c.loop-claim.invariant.1 none),
    )
