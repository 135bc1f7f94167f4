use Rattle.std.proofs.Common.{◌≡◌, ◌++◌, ap, ◌∙◌}
use Rattle.std.specs.Hash as fed
use Rattle.std.specs.List.{fold}
use Rattle.pywheel_core.specs.TagLaws.{fed_tag}
use Rattle.pywheel_core.proofs.tag.TagHash.hash.Goals as goal

-- the parts, one after the other
pub returns : goal.returns
unfolding fed_tag
returns g c =
    let write = g.H.Hasher.write in
    let t = c.args.self.now in
    let python : c.hash.new.state ≡ fold write c.args.state.now (fed.str t.python) =
    c.hash.ensures ∙ ap (λ s. fold write c.args.state.now (fed.str s)) c.python.ensures in
    let abi : c.hash-2.new.state ≡ fold write c.hash.new.state (fed.str t.abi) =
    c.hash-2.ensures ∙ ap (λ s. fold write c.hash.new.state (fed.str s)) c.abi.ensures in
    let platform : c.hash-3.new.state ≡ fold write c.hash-2.new.state (fed.str t.platform) =
    c.hash-3.ensures ∙ ap (λ s. fold write c.hash-2.new.state (fed.str s)) c.platform.ensures in
    let last = c.hash-3.new.state in
    fed.fed_then write c.args.state.now c.hash.new.state last (fed.str t.python) (fed.str t.abi ++ fed.str t.platform) python
    (fed.fed_then write c.hash.new.state c.hash-2.new.state last (fed.str t.abi) (fed.str t.platform) abi platform)
