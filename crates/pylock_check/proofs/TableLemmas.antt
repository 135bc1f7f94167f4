-- Lemmas on tables of a TOML document.
use Rattle.std.proofs.Common.{◌≡◌, ◌==◌, List, [], ◌∷◌, String, Global, length, refl, sym, arith}
use Rattle.std.proofs.lemmas.Bool.{ne_eqb}
use Rattle.toml.proofs.Views.{table_get, view-Table}
use Rattle.toml.specs.View.{members_view}
use Rattle.toml.specs.declared.value.Value.{Value}
use Rattle.pylock_check.specs.Requirements.{is_single}

-- a table has one member where its map has one entry
pub single : (es : List (String Global × Value)) → is_single (members_view es) ≡ (length es == 1)
single [] = refl
single (e ∷ []) = refl
single (e ∷ f ∷ es) = sym (ne_eqb (length (e ∷ f ∷ es)) 1 (λ same. omega arith))

pub ruleset tables = (table_get, single, view-Table)
