-- A text whose pieces between a byte are shown: what it is made of, and what of it doesn't matter.
use Rattle.std.proofs.Common.{◌≡◌, ◌∙◌, ◌<◌, ◌≤◌, ◌==◌, ℕ, zero, suc, false, List, [], ◌∷◌, ◌++◌, length, ap, arith, refl, subst, sym, append_assoc, inl, inr}
use Rattle.std.proofs.lemmas.Bool.{or_parts}
use Rattle.std.proofs.lemmas.List.Folds.{list_any-append}
use Rattle.std.specs.List.{list_any}
use Rattle.pytext.proofs.OptionsLemmas.{option_cases}
use Rattle.pywheel_core.proofs.Lemmas.Texts.Cuts.{Lacks, cut_joined, cut_lacking, cut_says, no_cut_says}
use Rattle.pywheel_core.specs.Texts.{cut_at}
use Rattle.pylock_shown.proofs.CutLemmas.{cut_shorter}
use Rattle.pylock_shown.proofs.PieceLemmas.{each_shown, shown_cut, shown_whole}

-- ---- texts that lack a byte

pub lacks_both : (c : ℕ) (x y : List ℕ) → Lacks c x → Lacks c y → Lacks c (x ++ y)
lacks_both c x y first last = list_any-append (λ b. b == c) x y ∙ rw (first, last) refl

pub lacks_parts : (c : ℕ) (x y : List ℕ) → Lacks c (x ++ y) → Lacks c x × Lacks c y
lacks_parts c x y lacks = or_parts (list_any (λ b. b == c) x) (list_any (λ b. b == c) y) (sym (list_any-append (λ b. b == c) x y) ∙ lacks)

pub lacks_more : (c b : ℕ) (y : List ℕ) → (b == c) ≡ false → Lacks c y → Lacks c (b ∷ y)
lacks_more c b y other lacks = rw (other, lacks) refl

-- ---- from each cut to the next

module _ (c : ℕ) (P : List ℕ → Type 0)
    (last : (p : List ℕ) → Lacks c p → P p)
    (more : (a b : List ℕ) → Lacks c a → P b → P (a ++ (c ∷ b))) where
  by_step : (p : List ℕ) → ((b : List ℕ) → length b < length p → P b) → P p
  by_step p smaller = elim (option_cases (cut_at c p)) [
    | inl none ↦ last p (no_cut_says c p none)
    | inr some ↦
        let a = some.0.0 in let b = some.0.1 in
        let says = cut_says c p a b some.1 in
        let long = cut_shorter c p a b some.1 in
        subst P (sym says.0) (more a b says.1 (smaller b (omega (arith, long))))
  ]

  by_size : (n : ℕ) (p : List ℕ) → length p ≤ n → P p
  by_size zero p small = by_step p (λ b less. absurd (omega (arith, small, less)))
  by_size (suc n) p small = by_step p (λ b less. by_size n b (omega (arith, small, less)))

  pub by_cuts : (p : List ℕ) → P p
  by_cuts p = by_size (length p) p (omega arith)

-- ---- one kind of cut

module _ (c : ℕ) (shown : List ℕ → List ℕ) where
  pub each_first : (x y : List ℕ) → Lacks c x → each_shown c shown (x ++ (c ∷ y)) ≡ shown x ++ (c ∷ each_shown c shown y)
  each_first x y lacks = shown_cut c shown (x ++ (c ∷ y)) x y (cut_joined c x y lacks)

  pub each_one : (x : List ℕ) → Lacks c x → each_shown c shown x ≡ shown x
  each_one x lacks = shown_whole c shown x (cut_lacking c x lacks)

  -- a cut may be made at each such byte
  pub each_at : (p y : List ℕ) → each_shown c shown (p ++ (c ∷ y)) ≡ each_shown c shown p ++ (c ∷ each_shown c shown y)
  each_at p y = by_cuts c (λ p. each_shown c shown (p ++ (c ∷ y)) ≡ each_shown c shown p ++ (c ∷ each_shown c shown y))
      (λ p lacks. each_first p y lacks ∙ ap (λ t. t ++ (c ∷ each_shown c shown y)) (sym (each_one p lacks)))
      (λ a b lacks so.
      ap (each_shown c shown) (append_assoc a (c ∷ b) (c ∷ y))
      ∙ each_first a (b ++ (c ∷ y)) lacks
      ∙ ap (λ t. shown a ++ (c ∷ t)) so
      ∙ sym (append_assoc (shown a) (c ∷ each_shown c shown b) (c ∷ each_shown c shown y))
      ∙ ap (λ t. t ++ (c ∷ each_shown c shown y)) (sym (each_first a b lacks)))
      p

  -- two ends of the last piece
  pub each_tail : (s t : List ℕ) → Lacks c s → Lacks c t → ((q : List ℕ) → shown (q ++ s) ≡ shown (q ++ t))
      → (q : List ℕ) → each_shown c shown (q ++ s) ≡ each_shown c shown (q ++ t)
  each_tail s t no_s no_t same q = by_cuts c (λ q. each_shown c shown (q ++ s) ≡ each_shown c shown (q ++ t))
      (λ q lacks.
      each_one (q ++ s) (lacks_both c q s lacks no_s) ∙ same q
      ∙ sym (each_one (q ++ t) (lacks_both c q t lacks no_t)))
      (λ a b lacks so.
      ap (each_shown c shown) (append_assoc a (c ∷ b) s)
      ∙ each_first a (b ++ s) lacks
      ∙ ap (λ u. shown a ++ (c ∷ u)) so
      ∙ sym (each_first a (b ++ t) lacks)
      ∙ ap (each_shown c shown) (sym (append_assoc a (c ∷ b) t)))
      q

  -- two fronts of the first piece
  pub each_head : (s t : List ℕ) → Lacks c s → Lacks c t → ((u : List ℕ) → shown (s ++ u) ≡ shown (t ++ u))
      → (u : List ℕ) → each_shown c shown (s ++ u) ≡ each_shown c shown (t ++ u)
  each_head s t no_s no_t same u = by_cuts c (λ u. each_shown c shown (s ++ u) ≡ each_shown c shown (t ++ u))
      (λ u lacks.
      each_one (s ++ u) (lacks_both c s u no_s lacks) ∙ same u
      ∙ sym (each_one (t ++ u) (lacks_both c t u no_t lacks)))
      (λ a b lacks so.
      ap (each_shown c shown) (sym (append_assoc s a (c ∷ b)))
      ∙ each_first (s ++ a) b (lacks_both c s a no_s lacks)
      ∙ ap (λ x. x ++ (c ∷ each_shown c shown b)) (same a)
      ∙ sym (each_first (t ++ a) b (lacks_both c t a no_t lacks))
      ∙ ap (each_shown c shown) (append_assoc t a (c ∷ b)))
      u

  -- pieces that lack a byte and stay
  pub each_stays : (d : ℕ) → ((p : List ℕ) → Lacks d p → shown p ≡ p) → (x : List ℕ) → Lacks d x → each_shown c shown x ≡ x
  each_stays d stays x = by_cuts c (λ x. Lacks d x → each_shown c shown x ≡ x)
      (λ x lacks. λ no. each_one x lacks ∙ stays x no)
      (λ a b lacks so. λ no.
      let parts = lacks_parts d a (c ∷ b) no in
      let rest = (lacks_parts d (c ∷ []) b parts.1).1 in
      each_first a b lacks ∙ (λ i. stays a parts.0 i ++ (c ∷ so rest i)))
      x

  -- what is shown lacks a byte too
  pub each_keeps : (d : ℕ) → (c == d) ≡ false → ((p : List ℕ) → Lacks d p → Lacks d (shown p)) → (x : List ℕ) → Lacks d x → Lacks d (each_shown c shown x)
  each_keeps d other keeps x = by_cuts c (λ x. Lacks d x → Lacks d (each_shown c shown x))
      (λ x lacks. λ no. subst (Lacks d) (sym (each_one x lacks)) (keeps x no))
      (λ a b lacks so. λ no.
      let parts = lacks_parts d a (c ∷ b) no in
      let rest = (lacks_parts d (c ∷ []) b parts.1).1 in
      subst (Lacks d) (sym (each_first a b lacks))
      (lacks_both d (shown a) (c ∷ each_shown c shown b) (keeps a parts.0) (lacks_more d c (each_shown c shown b) other (so rest))))
      x

  -- pieces that stay once they are shown
  pub each_again : ((p : List ℕ) → shown (shown p) ≡ shown p) → ((p : List ℕ) → Lacks c p → Lacks c (shown p))
      → (x : List ℕ) → each_shown c shown (each_shown c shown x) ≡ each_shown c shown x
  each_again again keeps x = by_cuts c (λ x. each_shown c shown (each_shown c shown x) ≡ each_shown c shown x)
      (λ x lacks. ap (each_shown c shown) (each_one x lacks) ∙ each_one (shown x) (keeps x lacks) ∙ again x ∙ sym (each_one x lacks))
      (λ a b lacks so.
      ap (each_shown c shown) (each_first a b lacks)
      ∙ each_first (shown a) (each_shown c shown b) (keeps a lacks)
      ∙ (λ i. again a i ++ (c ∷ so i))
      ∙ sym (each_first a b lacks))
      x

-- ---- a cut within the pieces of another

module _ (c d : ℕ) (shown : List ℕ → List ℕ) (other : (d == c) ≡ false) where
  abbrev inner : List ℕ → List ℕ
  inner = each_shown d shown

  abbrev outer : List ℕ → List ℕ
  outer = each_shown c (each_shown d shown)

  pub inner_at : (p y : List ℕ) → outer (p ++ (d ∷ y)) ≡ outer p ++ (d ∷ outer y)
  inner_at p y = by_cuts c (λ p. outer (p ++ (d ∷ y)) ≡ outer p ++ (d ∷ outer y))
      (λ p no_p. by_cuts c (λ y. outer (p ++ (d ∷ y)) ≡ outer p ++ (d ∷ outer y))
      (λ y no_y.
      each_one c inner (p ++ (d ∷ y)) (lacks_both c p (d ∷ y) no_p (lacks_more c d y other no_y))
      ∙ each_at d shown p y
      ∙ (λ i. sym (each_one c inner p no_p) i ++ (d ∷ sym (each_one c inner y no_y) i)))
      (λ u v no_u so.
      ap outer (sym (append_assoc p (d ∷ u) (c ∷ v)))
      ∙ each_first c inner (p ++ (d ∷ u)) v (lacks_both c p (d ∷ u) no_p (lacks_more c d u other no_u))
      ∙ ap (λ t. t ++ (c ∷ outer v)) (each_at d shown p u)
      ∙ append_assoc (inner p) (d ∷ inner u) (c ∷ outer v)
      ∙ (λ i. sym (each_one c inner p no_p) i ++ (d ∷ sym (each_first c inner u v no_u) i)))
      y)
      (λ a b no_a so.
      ap outer (append_assoc a (c ∷ b) (d ∷ y))
      ∙ each_first c inner a (b ++ (d ∷ y)) no_a
      ∙ ap (λ t. inner a ++ (c ∷ t)) so
      ∙ sym (append_assoc (inner a) (c ∷ outer b) (d ∷ outer y))
      ∙ ap (λ t. t ++ (d ∷ outer y)) (sym (each_first c inner a b no_a)))
      p
