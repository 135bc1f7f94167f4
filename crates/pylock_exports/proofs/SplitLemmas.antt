-- Texts that are cut at a character.
use Rattle.std.proofs.Common.{[], ◌≡◌, ◌∙◌, inl, inr, ℕ, Bool, true, false, cond, ◌==◌, ◌||◌, ◌&&◌, codes, List, ◌∷◌, ◌++◌, Option, Some, None, drop, length, take, option_map, refl, sym, ap, append_assoc, subst, ◌+◌, suc, arith}
use Rattle.std.proofs.lemmas.Bool.{eq-eqb, eqb-true}
use Rattle.std.specs.Prelude.{nat_eq, option_and_then}
use Rattle.std.specs.List.{before_first, list_all, list_any, position_or_len, starts_with}
use Rattle.pytext.specs.Options.{either}
use Rattle.pyver_core.proofs.Lemmas.Set.Reading.Sound.{begins_sound}
use Rattle.pywheel_core.specs.Texts.{before_cut, cut_at}
use Rattle.pylock_exports.specs.Line.{IsWebScheme}
use Rattle.pylock_exports.specs.Parts.{behind, host_cut}
use Rattle.pylock_exports.specs.Pip.{Lacks}

-- ---- tests that a text passes or fails

-- neither the first passes a test, nor another one
fails : (p : ℕ → Bool) (x : ℕ) (text : List ℕ) → list_any p (x ∷ text) ≡ false → (p x ≡ false) × (list_any p text ≡ false)
fails p x text none = by (p x) (list_any p text) none
  where
    by : (a b : Bool) → (a || b) ≡ false → (a ≡ false) × (b ≡ false)
    by true b e = cc e
    by false b e = (refl, e)

pub fails_both : (p : ℕ → Bool) (a b : List ℕ) → list_any p a ≡ false → list_any p b ≡ false → list_any p (a ++ b) ≡ false
fails_both p [] b one two = two
fails_both p (x ∷ a) b one two =
    let f = fails p x a one in
    rw (f.0, fails_both p a b f.1 two) refl

-- what is of a class passes no test that none of the class passes
pub apart : (p q : ℕ → Bool) (text : List ℕ) → ((c : ℕ) → p c ≡ true → q c ≡ false) → list_all p text ≡ true → list_any q text ≡ false
apart p q [] none all = refl
apart p q (x ∷ text) none all = by (p x) (list_all p text) refl refl all (apart p q text none)
  where
    by : (a b : Bool) → p x ≡ a → list_all p text ≡ b → (a && b) ≡ true → (list_all p text ≡ true → list_any q text ≡ false) → (q x || list_any q text) ≡ false
    by true true is rest e later = rw (none x is, later rest) refl
    by true false is rest e later = cc e
    by false b is rest e later = cc e

-- a character that isn't of a class
pub no_such : (p : ℕ → Bool) (c : ℕ) → p c ≡ false → (x : ℕ) → p x ≡ true → (x == c) ≡ false
no_such p c none x is = by (x == c) refl
  where
    by : (b : Bool) → (x == c) ≡ b → b ≡ false
    by true same = let e = eqb-true x c same in cc (sym is ∙ ap p e ∙ none)
    by false same = refl

pub lacking : (p : ℕ → Bool) (c : ℕ) (text : List ℕ) → p c ≡ false → list_all p text ≡ true → Lacks c text
lacking p c text none all = apart p (λ x. x == c) text (no_such p c none) all

-- ---- the one place of a character

-- `c` stands behind what lacks it, in both
pub only_cut : (c : ℕ) (a b front back : List ℕ) → Lacks c a → Lacks c front → a ++ (c ∷ b) ≡ front ++ (c ∷ back) → (front ≡ a) × (back ≡ b)
only_cut c [] b [] back one two same = (refl, cc same)
only_cut c [] b (x ∷ front) back one two same =
    let e : c ≡ x = cc same in
    let none = (fails (λ b. b == c) x front two).0 in
    cc (sym (eq-eqb x c (sym e)) ∙ none)
only_cut c (x ∷ a) b [] back one two same =
    let e : x ≡ c = cc same in
    let none = (fails (λ b. b == c) x a one).0 in
    cc (sym (eq-eqb x c e) ∙ none)
only_cut c (x ∷ a) b (y ∷ front) back one two same =
    let head : x ≡ y = cc same in
    let rest : a ++ (c ∷ b) ≡ front ++ (c ∷ back) = cc same in
    let on = only_cut c a b front back (fails (λ b. b == c) x a one).1 (fails (λ b. b == c) y front two).1 rest in
    (cc (head, on.0), on.1)

-- a text that lacks `c` isn't cut there
pub never_cut : (c : ℕ) (a front back : List ℕ) → Lacks c a → a ≡ front ++ (c ∷ back) → ⊥
never_cut c [] [] back one same = cc same
never_cut c [] (x ∷ front) back one same = cc same
never_cut c (x ∷ a) [] back one same =
    let e : x ≡ c = cc same in
    cc (sym (eq-eqb x c e) ∙ (fails (λ b. b == c) x a one).0)
never_cut c (x ∷ a) (y ∷ front) back one same =
    let rest : a ≡ front ++ (c ∷ back) = cc same in
    never_cut c a front back (fails (λ b. b == c) x a one).1 rest

-- `c` stands once
pub one_cut : (c : ℕ) (a b front back : List ℕ) → Lacks c a → Lacks c b → a ++ (c ∷ b) ≡ front ++ (c ∷ back) → (front ≡ a) × (back ≡ b)
one_cut c [] b [] back one two same = (refl, cc same)
one_cut c [] b (x ∷ front) back one two same =
    let rest : b ≡ front ++ (c ∷ back) = cc same in
    absurd (never_cut c b front back two rest)
one_cut c (x ∷ a) b [] back one two same =
    let e : x ≡ c = cc same in
    cc (sym (eq-eqb x c e) ∙ (fails (λ b. b == c) x a one).0)
one_cut c (x ∷ a) b (y ∷ front) back one two same =
    let head : x ≡ y = cc same in
    let rest : a ++ (c ∷ b) ≡ front ++ (c ∷ back) = cc same in
    let on = one_cut c a b front back (fails (λ b. b == c) x a one).1 two rest in
    (cc (head, on.0), on.1)

-- what stands before the first that passes
take_more : (n x : ℕ) (xs : List ℕ) → take (1 + n) (x ∷ xs) ≡ x ∷ take n xs
take_more n x xs =
    let one : 1 + n ≡ suc n = omega arith in
    ap (λ k. take k (x ∷ xs)) one

pub before_found : (p : ℕ → Bool) (a : List ℕ) (c : ℕ) (b : List ℕ) → list_any p a ≡ false → p c ≡ true → before_first p (a ++ (c ∷ b)) ≡ a
before_found p [] c b none is = rw is refl
before_found p (x ∷ a) c b none is =
    let f = fails p x a none in
    rw f.0 (take_more (position_or_len p (a ++ (c ∷ b))) x (a ++ (c ∷ b)) ∙ ap (λ l. x ∷ l) (before_found p a c b f.1 is))

-- ---- the last character

abbrev pub last_or : ℕ → List ℕ → ℕ
last_or d [] = d
last_or d (x ∷ xs) = last_or x xs

pub last_behind : (d : ℕ) (a : List ℕ) (x : ℕ) (b : List ℕ) → last_or d (a ++ (x ∷ b)) ≡ last_or x b
last_behind d [] x b = refl
last_behind d (y ∷ a) x b = last_behind y a x b

-- ---- the parts of a URL

-- the text is cut here
abbrev IsCut : ℕ → List ℕ → List ℕ × List ℕ → Type 0
IsCut c text cut = (text ≡ cut.0 ++ (c ∷ cut.1)) × Lacks c cut.0

pub cut_found : (c : ℕ) (text : List ℕ) (cut : List ℕ × List ℕ) → cut_at c text ≡ Some cut → IsCut c text cut
cut_found c [] cut found = cc found
cut_found c (x ∷ text) cut found = by (x == c) refl found (cut_found c text)
  where
    more : (o : Option (List ℕ × List ℕ)) → cut_at c text ≡ o → (x == c) ≡ false → option_map (before_cut x) o ≡ Some cut
        → ((inner : List ℕ × List ℕ) → cut_at c text ≡ Some inner → IsCut c text inner) → IsCut c (x ∷ text) cut
    more None is other e later = cc e
    more (Some inner) is other e later =
        let same : (x ∷ inner.0, inner.1) ≡ cut = cc e in
        let on = later inner is in
        subst (IsCut c (x ∷ text)) same (ap (λ l. x ∷ l) on.0, rw (other, on.1) refl)

    by : (b : Bool) → (x == c) ≡ b → cond b (Some ([], text)) (option_map (before_cut x) (cut_at c text)) ≡ Some cut
        → ((inner : List ℕ × List ℕ) → cut_at c text ≡ Some inner → IsCut c text inner) → IsCut c (x ∷ text) cut
    by true same e later =
        let is : ([], text) ≡ cut = cc e in
        subst (IsCut c (x ∷ text)) is (ap (λ h. h ∷ text) (eqb-true x c same), refl)
    by false other e later = more (cut_at c text) refl other e later

pub behind_found : (front text rest : List ℕ) → behind front text ≡ Some rest → text ≡ front ++ rest
behind_found front text rest found = by (starts_with nat_eq text front) refl found
  where
    by : (b : Bool) → starts_with nat_eq text front ≡ b → cond b (Some (drop (length front) text)) None ≡ Some rest → text ≡ front ++ rest
    by true begins e =
        let is : drop (length front) text ≡ rest = cc e in
        begins_sound text front begins ∙ ap (λ r. front ++ r) is
    by false begins e = cc e

-- texts joined from the left
pub joined_four : (a b c d : List ℕ) → ((a ++ b) ++ c) ++ d ≡ a ++ (b ++ (c ++ d))
joined_four a b c d = append_assoc (a ++ b) c d ∙ append_assoc a b (c ++ d)

pub joined_five : (a b c d e : List ℕ) → (((a ++ b) ++ c) ++ d) ++ e ≡ a ++ (b ++ (c ++ (d ++ e)))
joined_five a b c d e = joined_four (a ++ b) c d e ∙ append_assoc a b (c ++ (d ++ e))

-- a scheme of the web, and what stands behind it
abbrev pub IsCutAt : (url host path : List ℕ) → Type 0
IsCutAt url host path = (scheme : List ℕ) × IsWebScheme scheme × (url ≡ scheme ++ (codes "://" ++ (host ++ (codes "/" ++ path))))

pub web_found : (url : List ℕ) (cut : List ℕ × List ℕ) → host_cut url ≡ Some cut → IsCutAt url cut.0 cut.1
web_found url cut found = secure (behind (codes "https://") url) refl found
  where
    cut_of : (rest : List ℕ) → cut_at 47 rest ≡ Some cut → rest ≡ cut.0 ++ (codes "/" ++ cut.1)
    cut_of rest is = (cut_found 47 rest cut is).0

    plain : (o : Option (List ℕ)) → behind (codes "http://") url ≡ o → option_and_then (cut_at 47) o ≡ Some cut → IsCutAt url cut.0 cut.1
    plain None is e = cc e
    plain (Some rest) is e = (codes "http", inr refl, behind_found (codes "http://") url rest is ∙ ap (λ r. codes "http://" ++ r) (cut_of rest e))

    secure : (o : Option (List ℕ)) → behind (codes "https://") url ≡ o → option_and_then (cut_at 47) (either o (behind (codes "http://") url)) ≡ Some cut → IsCutAt url cut.0 cut.1
    secure None is e = plain (behind (codes "http://") url) refl e
    secure (Some rest) is e = (codes "https", inl refl, behind_found (codes "https://") url rest is ∙ ap (λ r. codes "https://" ++ r) (cut_of rest e))
