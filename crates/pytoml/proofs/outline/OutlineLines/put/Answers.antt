use Rattle.std.proofs.Common.{◌≡◌, ◌&&◌, ◌==◌, false, string_bytes, vec_len, sym, ap, subst, ◌∙◌}
use Rattle.toml.specs.Data.{same_key}
use Rattle.pytoml.specs.Outline.{StandsAt}
use Rattle.pytoml.proofs.Outlines.{at_ours, put_rest, put_within}
use Rattle.pytoml.proofs.outline.OutlineLines.put.Goals as goal

pub returns-in-Within-clause-puts : goal.returns-in-Within-clause-puts
returns-in-Within-clause-puts g c = λ doc stands.
    let o = c.args.self.now in
    let key = g.E.Elements.key in
    let (taken, holds, at) = stands in
    put_within (g.E.Elements.holds o.elements) key (string_bytes c.args.key) c.args.s.now taken o.root c.in-Within.element c.put.new.self doc c.put.result holds
    (subst (λ p. StandsAt key taken o.root p doc) c.in-Within.is at) c.put.ensures.puts

pub put_ours-requires : goal.put_ours-requires
put_ours-requires g c =
    let (none, same) = at_ours (vec_len c.args.self.now.root.levels) c.as_str.result.now g.E.Elements.key (sym c.is_at.ensures ∙ c.if-is_at.true) in
    record { at_root = none; ours = sym c.as_str.ensures.value ∙ same }

pub returns-clause-puts : goal.returns-clause-puts
returns-clause-puts g c = λ doc stands.
    let o = c.args.self.now in
    let key = g.E.Elements.key in
    let k = string_bytes c.args.key in
    let (taken, holds, at) = stands in
    let other : ((vec_len o.root.levels == 0) && same_key k key) ≡ false =
    ap (λ t. (vec_len o.root.levels == 0) && same_key t key) (sym c.as_str.ensures.value) ∙ sym c.is_at.ensures ∙ c.if-is_at.false in
    put_rest (g.E.Elements.holds o.elements) key k c.args.s.now taken o.place o.root c.put-2.new.self doc c.put-2.result holds c.in_default.not-Within other at c.put-2.ensures.puts
