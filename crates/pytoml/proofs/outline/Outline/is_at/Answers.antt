use Rattle.std.proofs.Common.{◌≡◌, ◌==◌, ◌&&◌, true, vec_len, sym, ap, ◌∙◌}
use Rattle.std.specs.Str.{bytes_eq}
use Rattle.std.proofs.lemmas.Map.Text.{is_eq-slice_cmp}
use Rattle.toml.specs.Data.{same_key}
use Rattle.pytoml.proofs.outline.Outline.is_at.Goals as goal

pub returns-then-is_at_root : goal.returns-then-is_at_root
returns-then-is_at_root g c =
    let key = g.E.Elements.key in
    let root : (vec_len c.args.self.now.root.levels == 0) ≡ true = sym c.is_at_root.ensures ∙ c.if-is_at_root.true in
    c.eq.ensures ∙ ap (bytes_eq c.args.key.now) c.key.ensures ∙ sym (is_eq-slice_cmp c.args.key.now key)
    ∙ ap (λ b. b && same_key c.args.key.now key) (sym root)
