-- Hashes of which a kind of finding tells.
use Rattle.std.proofs.Common.{◌≡◌, cond, Bool, true, false, List, [], ◌∷◌, ◌||◌, refl, sym, ap, ◌∙◌}
use Rattle.std.proofs.lemmas.Bool.{false≢true}
use Rattle.std.specs.List.{filter, list_any}
use Rattle.std.specs.Prelude.{map}
use Rattle.pylock_core.specs.Session.Picks.{SourceValue}
use Rattle.pylock_audit.specs.Hash.{Hash}
use Rattle.pylock_audit.specs.Source.{is_told, tested_hashes}
use Rattle.pylock_audit.specs.declared.finding.FindingKind.{FindingKind}

neither : (a b : Bool) → (a || b) ≡ false → (a ≡ false) × (b ≡ false)
neither true b none = absurd (false≢true (sym none))
neither false b none = (refl, none)

none_left : {X : Type 0} (test : X → Bool) (xs : List X) → list_any test xs ≡ false → filter test xs ≡ []
none_left test [] none = refl
none_left test (x ∷ xs) none =
    let parts = neither (test x) (list_any test xs) none in
    ap (λ b. cond b (x ∷ filter test xs) (filter test xs)) parts.0 ∙ none_left test xs parts.1

-- a kind that tells of none of the hashes gives nothing
pub none_told : (kind : FindingKind) (source : SourceValue) (hashes : List Hash) → list_any (is_told kind) hashes ≡ false
    → tested_hashes kind source hashes ≡ []
none_told kind source hashes none = ap (map _) (none_left (is_told kind) hashes none)
