-- Two lists that grow element by element.
use Rattle.std.proofs.Common.{◌≡◌, ℕ, ◌+◌, ◌<◌, ◌++◌, List, [], ◌∷◌, get_or, length, subst, sym, take}
use Rattle.std.proofs.lemmas.List.{take_more}
use Rattle.pylock_program.specs.Each.{AreEach}

module _ {A B : Type 0} (Holds : A → B → Type 0) where
  behind : (xs : List A) (bs : List B) (a : A) (b : B) → AreEach Holds xs bs → Holds a b → AreEach Holds (xs ++ a ∷ []) (bs ++ b ∷ [])
  behind [] [] a b are holds = (holds, tt)
  behind [] (y ∷ ys) a b are holds = absurd are
  behind (x ∷ xs) [] a b are holds = absurd are
  behind (x ∷ xs) (y ∷ ys) a b are holds = (are.0, behind xs ys a b are.1 holds)

  pub one_more : (xs : List A) (i : ℕ) (d : A) (bs bs' : List B) (b : B) → i < length xs → AreEach Holds (take i xs) bs
      → bs' ≡ bs ++ b ∷ [] → Holds (get_or xs i d) b → AreEach Holds (take (i + 1) xs) bs'
  one_more xs i d bs bs' b within are more holds =
      subst (AreEach Holds (take (i + 1) xs)) (sym more)
      (subst (λ ys. AreEach Holds ys (bs ++ b ∷ [])) (sym (take_more xs i d within)) (behind (take i xs) bs (get_or xs i d) b are holds))
