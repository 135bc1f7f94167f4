-- How many paths are the word for standard input.
use Rattle.std.proofs.Common.{◌≡◌, ◌∙◌, ℕ, Bor, Bool, suc, true, false, cond, List, [], ◌∷◌, None, Some, ap, length, map, nat_lt, refl, sym}
use Rattle.std.specs.List.{filter}
use Rattle.clap.specs.Words.{Text}
use Rattle.pylock_command.specs.Asked.{input_count, is_dash, paths_misuse}
use Rattle.pylock_command.specs.declared.misuse.Misuse.TheVariants.{TwoInputs}

abbrev is_input : Bor Text → Bool
is_input path = is_dash path.now

-- of paths behind references as many are as of the paths
of_lent : (paths : List (Bor Text)) → length (filter is_input paths) ≡ input_count (map (λ path. path.now) paths)
of_lent [] = refl
of_lent (path ∷ paths) = by (is_input path) (of_lent paths)
  where
    others : List Text
    others = map (λ path. path.now) paths

    by : (b : Bool) → length (filter is_input paths) ≡ length (filter is_dash others)
        → length (cond b (path ∷ filter is_input paths) (filter is_input paths))
        ≡ length (cond b (path.now ∷ filter is_dash others) (filter is_dash others))
    by true rest = ap suc rest
    by false rest = rest

module _ (paths : List (Bor Text)) (n : ℕ) (is : n ≡ length (filter is_input paths)) where
  same : n ≡ input_count (map (λ path. path.now) paths)
  same = is ∙ of_lent paths

  pub refused : nat_lt 1 n ≡ true → paths_misuse (map (λ path. path.now) paths) ≡ Some TwoInputs
  refused more = ap (λ b. cond b (Some TwoInputs) None) (ap (nat_lt 1) (sym same) ∙ more)

  pub taken : nat_lt 1 n ≡ false → paths_misuse (map (λ path. path.now) paths) ≡ None
  taken few = ap (λ b. cond b (Some TwoInputs) None) (ap (nat_lt 1) (sym same) ∙ few)
