use Rattle.std.proofs.Common.{◌∙◌, length, sym, ap, subst}
use Rattle.toml.specs.Data.{array, no_items}
use Rattle.toml.specs.Parse.{items, val}
use Rattle.toml.specs.Tables.{get_node}
use Rattle.pytoml.specs.Outline.{IsBefore, StandsAt}
use Rattle.pytoml.proofs.Inlines.{array_read}
use Rattle.pytoml.proofs.Levels.{at_root}
use Rattle.pytoml.proofs.Outlines.{array_put}
use Rattle.pytoml.proofs.outline.Outline.put_elements.Goals as goal

pub returns-clause-puts : goal.returns-clause-puts
returns-clause-puts g c = λ doc stands.
    let o = c.args.self.now in
    let key = g.E.Elements.key in
    let s = c.args.s.now in
    let (none, holds, at) = stands in
    let before : IsBefore key none o.root doc = subst (λ p. StandsAt key none o.root p doc) c.requires.before at in
    let path = at_root o.root doc c.requires.at_root before.1 in
    let found = c.in_ok-close_without.ensures doc before.1 in
    let absent = ap (λ k. get_node k doc.0) (sym c.key.ensures) ∙ found.1 in
    let (taken, now, read) = c.in_ok-rest.ensures.taken (subst (g.E.Elements.holds o.elements) before.0 holds) (length s) c.skip.ensures.shorter in
    let (value, some) = array_read s c.in_ok-rest.rest.now taken c.requires.begins (ap (items (val 79) (length s) no_items) (sym c.skip.ensures.rest) ∙ read) in
    let (next, defined, inline) = array_put key taken c.close_without.new.self doc path found.0 absent some in
    (array taken, next, value, defined, (taken, now, inline))
