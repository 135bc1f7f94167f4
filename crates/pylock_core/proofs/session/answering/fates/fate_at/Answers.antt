use Rattle.std.proofs.Common.{◌≡◌, ◌∙◌, ◌<◌, None, Some, length, option_map, ap, ap₂, sym, arith}
use Rattle.std.specs.Option.{option_copied}
use Rattle.std.proofs.lemmas.List.{get_or-map, get_or_default, length-map}
use Rattle.pylock_core.specs.Inner.Answering.Fates.{fate_among, first_active_row, row_fate}
use Rattle.pylock_core.specs.Inner.Tables.Names.{policy_at}
use Rattle.pylock_core.specs.Inner.Tables.Rows.{row_at}
use Rattle.pylock_core.specs.Inner.Answering.Steps.{numbered}
use Rattle.pylock_core.specs.Session.State.{in_rows}
use Rattle.pylock_core.proofs.Lemmas.Answering.Fates.{session_fate}
use Rattle.pylock_core.proofs.Lemmas.Answering.Steps.{of_row, session_rows}
use Rattle.pylock_core.proofs.Lemmas.Parts.{session_below}
use Rattle.pylock_core.proofs.session.answering.fates.fate_at.Goals as goal

pub returns-in_default : goal.returns-in_default
returns-in_default c =
    let p = c.args.parts.now in
    let n = c.args.number in
    let none : row_at p.rows.items n ≡ None = ap (λ rows. row_at rows n) (sym c.as_slice-rows.ensures.value) ∙ sym c.row_in.ensures ∙ ap option_copied c.in_default.is in
    ap (option_map (λ r. fate_among (in_rows 1 p.rows.items) p.names.policies.items (n, r))) (sym none) ∙ session_fate p c.requires n

pub index-requires : goal.index-requires
index-requires c =
    let p = c.args.parts.now in
    let row = c.in-Some.row.now in
    let some : row_at p.rows.items c.args.number ≡ Some row = ap (λ rows. row_at rows c.args.number) (sym c.as_slice-rows.ensures.value) ∙ sym c.row_in.ensures ∙ ap option_copied c.in-Some.is in
    let below : row.name < length p.names.policies.items = of_row (λ r. r.name < length p.names.policies.items) p.rows.items (session_below p c.requires) c.args.number row some in
    omega (arith, below, p.names.policies.ok)

pub returns : goal.returns
returns c =
    let p = c.args.parts.now in
    let n = c.args.number in
    let row = c.in-Some.row.now in
    let policies = p.names.policies.items in
    let every = in_rows 1 p.rows.items in
    let some : row_at p.rows.items n ≡ Some row = ap (λ rows. row_at rows n) (sym c.as_slice-rows.ensures.value) ∙ sym c.row_in.ensures ∙ ap option_copied c.in-Some.is in
    let below : row.name < length policies = of_row (λ r. r.name < length policies) p.rows.items (session_below p c.requires) n row some in
    let policy : c.index.result.now ≡ policy_at policies row.name = c.index.ensures ∙ get_or_default policies row.name c.index.result.now _ below in
    let first : c.first_active_of-first.result ≡ first_active_row every row.name =
    c.first_active_of-first.ensures
    ∙ ap₂ (λ rows numbers. first_active_row (numbered rows numbers) row.name) c.as_slice-rows.ensures.value c.as_slice.ensures.value
    ∙ ap (λ rows. first_active_row rows row.name) (session_rows p c.requires) in
    ap Some (c.fate.ensures ∙ ap₂ (λ q f. row_fate q f (n, row)) policy first)
    ∙ ap (option_map (λ r. fate_among every policies (n, r))) (sym some) ∙ session_fate p c.requires n
