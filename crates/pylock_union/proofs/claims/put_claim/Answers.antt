use Rattle.std.proofs.Common.{◌≡◌, ◌∙◌, None, Some, ap, option_map, sym}
use Rattle.std.specs.BTreeMap.{get}
use Rattle.std.specs.List.{find}
use Rattle.pylock_compare.specs.Texts.{texts_cmp}
use Rattle.pylock_union.specs.Inner.{first_of, lent_claim}
use Rattle.pylock_union.specs.Union.{claim_key, contradicts}
use Rattle.pylock_union.proofs.ClaimLemmas.{against_found, against_none, table_gains, table_stays}
use Rattle.pylock_union.proofs.claims.put_claim.Goals as goal

pub returns-in-Some-clause-contradicted : goal.returns-in-Some-clause-contradicted
returns-in-Some-clause-contradicted c = λ claims is.
    let claim = lent_claim c.args.claim.now in
    let first = lent_claim c.in-Some.first in
    let there : first_of (claim_key claim) claims ≡ Some first =
    sym (is.firsts (claim_key claim)) ∙ ap (λ k. option_map lent_claim (get texts_cmp c.args.table.now k)) (sym c.in_ok-key.ensures)
    ∙ ap (option_map lent_claim) (sym c.first_claim.ensures ∙ c.in-Some.is) in
    c.contradicted.ensures ∙ sym (against_found claims claim first (is.agree claim) there)

pub returns-in-Some-clause-put : goal.returns-in-Some-clause-put
returns-in-Some-clause-put c = λ claims is none.
    let claim = lent_claim c.args.claim.now in
    let first = lent_claim c.in-Some.first in
    let there : first_of (claim_key claim) claims ≡ Some first =
    sym (is.firsts (claim_key claim)) ∙ ap (λ k. option_map lent_claim (get texts_cmp c.args.table.now k)) (sym c.in_ok-key.ensures)
    ∙ ap (option_map lent_claim) (sym c.first_claim.ensures ∙ c.in-Some.is) in
    let clear : find (contradicts claim) claims ≡ None =
    against_found claims claim first (is.agree claim) there ∙ sym c.contradicted.ensures ∙ ap (option_map lent_claim) none in
    table_stays c.args.table.now claims claim first is there clear

pub returns-clause-put : goal.returns-clause-put
returns-clause-put c = λ claims is none.
    let claim = lent_claim c.args.claim.now in
    let key = c.in_ok-key.key in
    let missing : first_of key claims ≡ None = sym (is.firsts key) ∙ ap (option_map lent_claim) (sym c.first_claim.ensures ∙ c.in-None.is) in
    let missing_at : first_of (claim_key claim) claims ≡ None = ap (λ k. first_of k claims) (sym c.in_ok-key.ensures) ∙ missing in
    table_gains c.args.table.now c.insert.new.self claims c.args.claim.now key is c.in_ok-key.ensures missing
    (against_none claims claim (is.agree claim) missing_at) c.in_ok-insert-in-None.ensures.updates
