use Rattle.std.proofs.Common.{◌≡◌, ◌∙◌, Ok, ap, false, sym, true}
use Rattle.std.specs.Rc.{rc_str_bytes}
use Rattle.pywheel_core.specs.Inner.Lent.{set_of}
use Rattle.pywheel_core.specs.Tag.{is_tag}
use Rattle.pywheel_core.proofs.Lemmas.Tag.Lowering.{bad_tag, no_tag, tag_lowered}
use Rattle.pywheel_core.proofs.Lemmas.Tag.Pieces.{three_length}
use Rattle.pywheel_core.proofs.tag.read_tag.Goals as goal

pub returns-in_default : goal.returns-in_default
returns-in_default c = λ _. no_tag c.args.text.now (sym c.in_default.ensures)

pub returns-then-not-is_tag : goal.returns-then-not-is_tag
returns-then-not-is_tag c =
    let bad : is_tag (set_of c.in-Some.parts) ≡ false = cc in
    λ _. bad_tag c.args.text.now (set_of c.in-Some.parts) (sym c.in-Some.ensures) bad

pub spans-requires : goal.spans-requires
spans-requires c = three_length c.args.text.now (set_of c.in-Some.parts) (sym c.in-Some.ensures)

pub new-requires : goal.new-requires
new-requires c =
    let ok : is_tag (set_of c.in-Some.parts) ≡ true = cc in
    let x = (tag_lowered c.args.text.now (rc_str_bytes c.in_ok-lower.lower) (set_of c.in-Some.parts) c.spans.result c.in_ok-lower.ensures (sym c.in-Some.ensures) ok c.spans.ensures).0 in
    record { ascii = x.ascii; python = x.python; abi = x.abi; platform = x.platform }

pub returns : goal.returns
returns c =
    let ok : is_tag (set_of c.in-Some.parts) ≡ true = cc in
    let x = tag_lowered c.args.text.now (rc_str_bytes c.in_ok-lower.lower) (set_of c.in-Some.parts) c.spans.result c.in_ok-lower.ensures (sym c.in-Some.ensures) ok c.spans.ensures in
    x.1 ∙ ap Ok (sym (c.new.ensures ∙ x.0.value))
