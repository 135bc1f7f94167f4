-- Texts joined by a separator.
use Rattle.std.proofs.Common.{◌≡◌, ℕ, List, [], ◌∷◌, map, length, false, Some, refl, ap, sym, ◌∙◌}
use Rattle.std.specs.List.{join_by}
use Rattle.std.specs.Prelude.{◌==◌, codes}
use Rattle.std.proofs.lemmas.Bool.{false≢true}
use Rattle.pyver_core.specs.Name.{normal_name}
use Rattle.pylock_readers.proofs.Joined.{joined_texts}
use Rattle.pylock_program.specs.Reply.{names_text}

-- things with the same texts are joined alike
pub joined_alike : {X Y : Type 0} (f : X → List ℕ) (g : Y → List ℕ) (sep : List ℕ) (xs : List X) (ys : List Y)
    → map f xs ≡ map g ys → join_by f sep xs ≡ join_by g sep ys
joined_alike f g sep xs ys same = joined_texts f sep xs ∙ ap (join_by (λ t. t) sep) same ∙ sym (joined_texts g sep ys)

-- names that there are
pub some_names : {X : Type 0} (f : X → List ℕ) (xs : List X) → (length xs == 0) ≡ false → names_text (map f xs) ≡ Some (join_by normal_name (codes ",") (map f xs))
some_names f [] none = absurd (false≢true (sym none))
some_names f (x ∷ xs) some = refl
