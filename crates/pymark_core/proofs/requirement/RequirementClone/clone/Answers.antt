use Rattle.std.proofs.Common.{rules, ◌≡◌, ◌∙◌, map, option_map, string_bytes}
use Rattle.pymark_core.proofs.Lemmas.Environment.Names.{seen-clone}
use Rattle.pymark_core.proofs.requirement.RequirementClone.clone.Goals as goal

pub returns : goal.returns
returns c =
    let name : string_bytes c.in_ok-clone.field-0 ≡ string_bytes c.self.inside.name = c.in_ok-clone.ensures.cases in
    let extras : map string_bytes c.in_ok-clone-2.field-0.items ≡ map string_bytes c.self.inside.extras.items = seen-clone _ _ c.in_ok-clone-2.ensures.cases.0 in
    let set : c.in_ok-clone-3.field-0 ≡ c.self.inside.set = c.in_ok-clone-3.ensures.cases in
    let url : option_map string_bytes c.in_ok-clone-4.field-0 ≡ option_map string_bytes c.self.inside.url = search rules in
    let marker : c.in_ok-copy_marker.field-0 ≡ c.self.inside.marker = search rules in
    record { cases = (λ i. record { name = name i; extras = extras i; set = set i; url = url i; marker = marker i }) ∙ c.self.view_is }
