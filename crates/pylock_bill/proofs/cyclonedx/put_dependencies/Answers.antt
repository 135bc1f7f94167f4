use Rattle.std.proofs.Common.{◌≡◌, ◌∙◌, OnOk, Some, ap, codes, subst}
use Rattle.serde_json.specs.View.{members_view, view as data_of}
use Rattle.pylock_json.specs.Json.{list_of, with_row}
use Rattle.pylock_metadata.specs.View.{dependents_view}
use Rattle.pylock_bill.specs.CycloneDx.{dependencies_data}
use Rattle.pylock_bill.proofs.DependencyLemmas.{some_told}
use Rattle.pylock_bill.proofs.cyclonedx.put_dependencies.Goals as goal

pub returns : goal.returns
returns c =
    let dependents = c.args.dependencies.now in
    let same : Some (data_of c.into_json.result) ≡ dependencies_data (dependents_view dependents) =
    ap Some (c.into_json.ensures ∙ ap list_of c.in_ok-list.ensures) ∙ some_told dependents c.is_empty.result c.if-is_empty.false c.is_empty.ensures in
    subst (λ value. OnOk c.put.result (members_view c.put.new.self ≡ with_row (codes "dependencies", value) (members_view c.args.object.now))) same c.put.ensures.ok
