use Rattle.std.proofs.Common.{◌∙◌, string_bytes, sym, subst}
use Rattle.pytoml.specs.Draft.{Puts}
use Rattle.pytoml.specs.Outline.{StandsAt, StandsBy}
use Rattle.pytoml.proofs.Inlines.{other_read}
use Rattle.pytoml.proofs.Outlines.{IsPut, put_before}
use Rattle.pytoml.proofs.outline.Outline.put_ours.Goals as goal

pub returns-in-Before-clause-puts : goal.returns-in-Before-clause-puts
returns-in-Before-clause-puts g c =
    subst (λ k. Puts (λ o doc. StandsBy (g.E.Elements.holds o.elements) g.E.Elements.key o.root o.place doc) c.args.self.now c.put_elements.new.self c.put_elements.result k c.args.s.now)
    (sym c.requires.ours) c.put_elements.ensures.puts

pub returns-in-Before-2-clause-puts : goal.returns-in-Before-2-clause-puts
returns-in-Before-2-clause-puts g c = λ doc stands.
    let o = c.args.self.now in
    let key = g.E.Elements.key in
    let k = string_bytes c.args.key in
    let holds = g.E.Elements.holds o.elements in
    let (taken, held, at) = stands in
    let before = subst (λ p. StandsAt key taken o.root p doc) c.in-Before-2.is at in
    let begins = sym c.begins_elements.ensures ∙ c.if-begins_elements.false in
    subst (λ p. IsPut holds key k c.args.s.now c.put.new.self p doc c.put.result) (sym c.in-Before-2.is)
    (put_before holds key k c.args.s.now taken o.root c.put.new.self doc c.put.result held (λ d rest read root same. other_read c.args.s.now rest d begins read) before c.put.ensures.puts)
