use Rattle.std.proofs.Common.{◌≡◌, ◌++◌, ◌∷◌, [], ◌+◌, ◌∙◌, List, ap, sym, take}
use Rattle.std.proofs.lemmas.List.{take_all, take_more}
use Rattle.pyver_core.specs.Version.Parts.{Parts}
use Rattle.newest.proofs.NewestLemmas.{newest-step}
use Rattle.newest.proofs.newest.Goals as goal

pub loop-version-preserved : goal.loop-version-preserved
loop-version-preserved c =
    let versions : List Parts = c.args.versions.now in
    let i = c.loop-version.version-index in
    let x : Parts = c.version-item.result in
    let more : take (i + 1) versions ≡ take i versions ++ x ∷ [] =
    take_more versions i x c.loop-version-test.true ∙ ap (λ (y : Parts). take i versions ++ y ∷ []) (sym c.version-item.is) in
    rw (more, c.newer-newest.ensures) (newest-step c.args.set.now (take i versions) x _ c.loop-version.invariant)

pub returns : goal.returns
returns c = rw (take_all _ _ c.loop-version-test.false) at c.loop-version.invariant
