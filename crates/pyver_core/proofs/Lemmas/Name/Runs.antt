-- The normal form of a name, run by run.
use Rattle.std.proofs.Common.{◌≡◌, ℕ, true, false, List, [], ◌∷◌, ◌++◌, refl}
use Rattle.std.specs.Char.{to_ascii_lowercase}
use Rattle.std.specs.List.{list_all}
use Rattle.pytext.specs.Bytes.{is_separator, starts}
use Rattle.pyver_core.specs.Name.{normal_name}
use Rattle.pytext.proofs.BytesLemmas.{all_cons}

pub normal_name-run : (b : ℕ) (run rest : List ℕ) → list_all is_separator (b ∷ run) ≡ true → starts is_separator rest ≡ false
    → normal_name ((b ∷ run) ++ rest) ≡ 45 ∷ normal_name rest
unfolding normal_name
normal_name-run b [] rest run_is stops = rw ((all_cons is_separator b [] run_is).0, stops) refl
normal_name-run b (c ∷ run) rest run_is stops =
    let first = all_cons is_separator b (c ∷ run) run_is in
    let second = all_cons is_separator c run first.1 in
    let later = normal_name-run c run rest first.1 stops in
    rw (first.0, second.0) (rw second.0 at later)

pub normal_name-other : (b : ℕ) (rest : List ℕ) → is_separator b ≡ false → normal_name (b ∷ rest) ≡ to_ascii_lowercase b ∷ normal_name rest
unfolding normal_name
normal_name-other b rest other = rw other refl

pub normal_name-empty : normal_name [] ≡ []
unfolding normal_name
normal_name-empty = refl
