use Rattle.std.proofs.Common.{◌≡◌, ◌∙◌, Ok, ap, sym, true, string_bytes, arith}
use Rattle.pyver_core.specs.Parsed.{parsed_version}
use Rattle.pywheel_core.specs.Wheel.Name.{is_wheel_name}
use Rattle.pywheel_core.proofs.Lemmas.Wheel.Halves.{head_before, head_text}
use Rattle.pywheel_core.proofs.reader.WheelReader.learn_head.Goals as goal

pub invariant_of-self : goal.invariant_of-self
invariant_of-self c =
    let name = c.args.name.now in
    let spelling = c.args.spelling.now in
    let head = c.in_ok-head-in-Ok.head.value in
    let is_name : is_wheel_name name ≡ true =
    let tested = c.if-not-is_wheel_name.false in
    let is = c.is_wheel_name.ensures in
    grind (arith, tested, is) in
    let same : string_bytes head.name ≡ name = ap (λ h. string_bytes h.name) c.in_ok-head-in-Ok.ensures.ok ∙ c.in_ok-name-in-Ok.ensures.ok in
    let spells : parsed_version spelling ≡ Ok head.version = c.in-Ok.ensures.exact ∙ ap (λ h. Ok h.version) (sym c.in_ok-head-in-Ok.ensures.ok) in
    let text : string_bytes c.in_ok-text-in-Ok.text ≡ head_text name spelling = c.in_ok-text-in-Ok.ensures.ok in
    (head_before name spelling (string_bytes c.in_ok-text-in-Ok.text) head c.requires.name c.requires.spelling is_name same spells text, c.self.invariant.1, c.self.invariant.2)
