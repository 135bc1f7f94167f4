-- Rows of the keys of sources, of which some are left out.
use Rattle.std.proofs.Common.{◌≡◌, ◌∙◌, ◌++◌, ℕ, Bool, false, true, Bor, cond, not, is_some, List, [], ◌∷◌, Option, None, Some, option_map, string_bytes, String, Global, refl, sym, ap, append_assoc}
use Rattle.std.specs.BTreeMap.{is_at}
use Rattle.std.specs.Cmp.Lexicographic.{slice_cmp}
use Rattle.std.specs.List.{filter}
use Rattle.std.specs.Map.{lookup}
use Rattle.std.specs.Ordering.{nat_cmp}
use Rattle.toml.proofs.Views.{table_get}
use Rattle.toml.specs.Data.{get_member}
use Rattle.toml.specs.View.{members_view, view}
use Rattle.toml.specs.declared.value.Value.{Value}
use Rattle.pylock_diff.specs.Codes.{Rows}
use Rattle.pylock_diff.specs.SourceKeys.{other_rows, wheels_rows}
use Rattle.pylock_diff.specs.declared.inner.SourceTable.{SourceTable}

-- the rows of which no line tells
left : (List ℕ → Bool) → Rows → Rows
left told rows = filter (λ row. not (told row.0)) rows

-- with a row that is kept
pub one_kept : (told : List ℕ → Bool) (key value : List ℕ) (so_far now rows all : Rows) → told key ≡ false → now ≡ so_far ++ (key, value) ∷ []
    → so_far ++ filter (λ row. not (told row.0)) ((key, value) ∷ rows) ≡ all → now ++ filter (λ row. not (told row.0)) rows ≡ all
unfolding left
one_kept told key value so_far now rows all kept put is =
    ap (λ xs. xs ++ left told rows) put ∙ append_assoc so_far ((key, value) ∷ []) (left told rows)
    ∙ ap (λ b. so_far ++ cond (not b) ((key, value) ∷ left told rows) (left told rows)) (sym kept) ∙ is

-- and with one that isn't
pub one_told : (told : List ℕ → Bool) (key value : List ℕ) (so_far rows all : Rows) → told key ≡ true
    → so_far ++ filter (λ row. not (told row.0)) ((key, value) ∷ rows) ≡ all → so_far ++ filter (λ row. not (told row.0)) rows ≡ all
unfolding left
one_told told key value so_far rows all out is =
    ap (λ b. so_far ++ cond (not b) ((key, value) ∷ left told rows) (left told rows)) (sym out) ∙ is

some_mapped : {X Y : Type 0} (f : X → Y) (found : Option X) → is_some (option_map f found) ≡ is_some found
some_mapped f None = refl
some_mapped f (Some x) = refl

module _ (found : Option (Bor Value)) (key : List ℕ) (entries : List (String Global × Value))
    (is : option_map (λ x. x.now) found ≡ lookup (is_at (λ k. slice_cmp nat_cmp key (string_bytes k))) entries) where
  -- whether a key of a table is there
  pub stands : is_some found ≡ is_some (get_member key (members_view entries))
  stands = sym (some_mapped (λ (x : Bor Value). view x.now) found) ∙ ap is_some (table_get found key entries is)

  -- what is added of a key of a table
  pub source_at : (kind : SourceTable) (old new : Rows) → new ≡ old ++ other_rows kind (option_map (λ v. view v.now) found)
      → new ≡ old ++ other_rows kind (get_member key (members_view entries))
  source_at kind old new put = put ∙ ap (λ field. old ++ other_rows kind field) (table_get found key entries is)

  pub wheels_at : (old new : Rows) → new ≡ old ++ wheels_rows (option_map (λ v. view v.now) found) → new ≡ old ++ wheels_rows (get_member key (members_view entries))
  wheels_at old new put = put ∙ ap (λ field. old ++ wheels_rows field) (table_get found key entries is)
