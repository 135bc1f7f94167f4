-- Arrays, each element of which is what is wanted of it.
use Rattle.std.proofs.Common.{◌≡◌, ◌∙◌, ◌≤◌, ℕ, zero, suc, List, [], ◌∷◌, arith, drop, length, nat_eq, refl}
use Rattle.std.proofs.Math.Dec.{eqb-suc-suc, eqb-zero-suc}
use Rattle.toml.specs.Data.{no_items}
use Rattle.toml.specs.View.{items_view}
use Rattle.toml.specs.declared.value.Value.{Value}
use Rattle.pylock_metadata.specs.Meets.{all_meet}

-- where no more is wanted, no more may be given
pub ended : (vs : List Value) (place : ℕ) → place ≤ length vs → nat_eq place (length vs) ≡ all_meet no_items (items_view (drop place vs))
ended [] zero within = refl
ended [] (suc place) within = absurd (omega (arith, within))
ended (v ∷ vs) zero within = eqb-zero-suc (length vs)
ended (v ∷ vs) (suc place) within = eqb-suc-suc place (length vs) ∙ ended vs place (omega (arith, within))
