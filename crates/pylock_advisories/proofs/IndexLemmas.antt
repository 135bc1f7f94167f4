-- What stands under a name, and what a set of names has.
use Rattle.std.proofs.Common.{◌≡◌, ◌∙◌, ◌&&◌, ◌||◌, ◌++◌, ℕ, Bor, Bool, true, false, cond, not, List, [], ◌∷◌, Option, Some, None, refl, ap, sym, append-nil}
use Rattle.std.specs.Cmp.Lexicographic.{slice_cmp}
use Rattle.std.specs.List.{cons_option, filter, filter_map, list_any}
use Rattle.std.specs.Ordering.{is_eq, nat_cmp}
use Rattle.std.specs.Str.{bytes_eq}
use Rattle.std.proofs.lemmas.Map.Text.{is_eq-slice_cmp}
use Rattle.std.proofs.lemmas.List.{map-append}
use Rattle.std.proofs.lemmas.Slice.Eq.{bytes_eq-Decides}
use Rattle.pyver_core.specs.Version.Parts.{Parts}
use Rattle.pylock_advisories.specs.Advisory.{AdvisoryValue}
use Rattle.pylock_advisories.specs.Evaluation.{affecting, elements_of, told, version_in, way_out}
use Rattle.pylock_advisories.specs.Index.{names_package}
use Rattle.pylock_advisories.specs.Lent.{lent}

-- a test of equality is the same from either side
pub turned : (xs ys : List ℕ) → bytes_eq xs ys ≡ bytes_eq ys xs
turned xs ys = by (bytes_eq xs ys) refl (bytes_eq ys xs) refl
  where
    by : (a : Bool) → bytes_eq xs ys ≡ a → (b : Bool) → bytes_eq ys xs ≡ b → bytes_eq xs ys ≡ bytes_eq ys xs
    by true e true f = e ∙ sym f
    by true e false f = e ∙ sym ((bytes_eq-Decides ys xs).1 (sym ((bytes_eq-Decides xs ys).0 e)))
    by false e true f = (bytes_eq-Decides xs ys).1 (sym ((bytes_eq-Decides ys xs).0 f)) ∙ sym f
    by false e false f = e ∙ sym f

-- the value under a name, where one of the names so far is this one
abbrev pub one_if : {V : Type 0} → Bool → V → List V
one_if b value = cond b (value ∷ []) []

-- a name that is new puts the value under it, and one that isn't leaves it there
module _ {V : Type 0} (key name : List ℕ) (value : V) (seen : List ℕ → Bool) (start under after : List V) (any any_after : Bool) where
  new_by : (b : Bool) → bytes_eq name key ≡ b → seen key ≡ false → seen name ≡ any
      → under ≡ start ++ one_if any value → any_after ≡ (any || b) → after ≡ under ++ one_if b value
      → after ≡ start ++ one_if any_after value
  new_by true e none same stood more put =
      let is : any ≡ false = sym same ∙ ap seen ((bytes_eq-Decides name key).0 e) ∙ none in
      put ∙ ap (λ xs. xs ++ value ∷ []) (stood ∙ ap (λ b. start ++ one_if b value) is ∙ append-nil start)
      ∙ ap (λ b. start ++ one_if b value) (sym (more ∙ ap (λ b. b || true) is))
  new_by false e none same stood more put =
      put ∙ append-nil under ∙ stood ∙ ap (λ b. start ++ one_if b value) (sym (more ∙ or_false any))
    where
      or_false : (b : Bool) → (b || false) ≡ b
      or_false true = refl
      or_false false = refl

  pub new_puts : seen key ≡ false → seen name ≡ any
      → under ≡ start ++ one_if any value → any_after ≡ (any || bytes_eq name key) → after ≡ under ++ one_if (bytes_eq name key) value
      → after ≡ start ++ one_if any_after value
  new_puts = new_by (bytes_eq name key) refl

  old_by : (b : Bool) → bytes_eq name key ≡ b → seen key ≡ true → seen name ≡ any
      → under ≡ start ++ one_if any value → any_after ≡ (any || b)
      → under ≡ start ++ one_if any_after value
  old_by true e there same stood more =
      let is : any ≡ true = sym same ∙ ap seen ((bytes_eq-Decides name key).0 e) ∙ there in
      stood ∙ ap (λ b. start ++ one_if b value) (is ∙ sym (more ∙ ap (λ b. b || true) is))
  old_by false e there same stood more = stood ∙ ap (λ b. start ++ one_if b value) (sym (more ∙ or_false any))
    where
      or_false : (b : Bool) → (b || false) ≡ b
      or_false true = refl
      or_false false = refl

  pub old_stays : seen key ≡ true → seen name ≡ any
      → under ≡ start ++ one_if any value → any_after ≡ (any || bytes_eq name key)
      → under ≡ start ++ one_if any_after value
  old_stays = old_by (bytes_eq name key) refl

-- what is not among the rest has nothing
filter_none : {X : Type 0} (p : X → Bool) (xs : List X) → list_any p xs ≡ false → filter p xs ≡ []
filter_none p [] h = refl
filter_none p (x ∷ xs) h =
    ap (λ b. cond b (x ∷ filter p xs) (filter p xs)) (first (p x) (list_any p xs) h)
    ∙ filter_none p xs (second (p x) (list_any p xs) h)
  where
    first : (a b : Bool) → (a || b) ≡ false → a ≡ false
    first true b e = e
    first false b e = refl

    second : (a b : Bool) → (a || b) ≡ false → b ≡ false
    second true b e = absurd cc
    second false b e = e

-- nothing is told of an advisory that doesn't name the package
pub untold : (name text : List ℕ) (version : Option Parts) (a : AdvisoryValue) → names_package name a ≡ false
    → told text version (elements_of name a) a ≡ None
untold name text version a h =
    ap (λ elements. told text version elements a) (filter_none (λ e. bytes_eq name e.name) a.affected h)
    ∙ ap (λ b. cond b (Some (a, way_out version [])) None) (and_false (not a.is_withdrawn))
  where
    and_false : (b : Bool) → (b && false) ≡ false
    and_false true = refl
    and_false false = refl

one_left : {X Y : Type 0} (p : X → Bool) (f : X → Option Y) → ((x : X) → p x ≡ false → f x ≡ None) → (x : X) (xs : List X)
    → (b : Bool) → p x ≡ b → filter_map f (filter p xs) ≡ filter_map f xs
    → filter_map f (filter p (x ∷ xs)) ≡ filter_map f (x ∷ xs)
one_left p f none x xs true e rest =
    ap (λ b. filter_map f (cond b (x ∷ filter p xs) (filter p xs))) e
    ∙ ap (λ ys. cons_option (f x) ys) rest
one_left p f none x xs false e rest =
    ap (λ b. filter_map f (cond b (x ∷ filter p xs) (filter p xs))) e
    ∙ rest
    ∙ ap (λ o. cons_option o (filter_map f xs)) (sym (none x e))

-- what nothing is made of may be left out before
pub left_out : {X Y : Type 0} (p : X → Bool) (f : X → Option Y) → ((x : X) → p x ≡ false → f x ≡ None) → (xs : List X)
    → filter_map f (filter p xs) ≡ filter_map f xs
left_out p f none [] = refl
left_out p f none (x ∷ xs) = one_left p f none x xs (p x) refl (left_out p f none xs)

-- a set that a name was added to
pub added : (name other : List ℕ) (before : Bool)
    → cond (is_eq (slice_cmp nat_cmp name other)) true before ≡ (bytes_eq other name || before)
added name other before =
    ap (λ b. cond b true before) (is_eq-slice_cmp name other ∙ turned name other) ∙ by (bytes_eq other name)
  where
    by : (b : Bool) → cond b true before ≡ (b || before)
    by true = refl
    by false = refl

-- what is put, as it is seen
pub lent_put : {X : Type 0} (b : Bool) (value : Bor X) (old new : List (Bor X)) → new ≡ old ++ cond b (value ∷ []) []
    → lent new ≡ lent old ++ one_if b value.now
lent_put b value old new put = ap lent put ∙ map-append (λ x. x.now) old (cond b (value ∷ []) []) ∙ ap (λ xs. lent old ++ xs) (by b)
  where
    by : (b : Bool) → lent (cond b (value ∷ []) []) ≡ one_if b value.now
    by true = refl
    by false = refl

pub or_swap : (a b : Bool) → (a || b) ≡ (b || a)
or_swap true true = refl
or_swap true false = refl
or_swap false true = refl
or_swap false false = refl

-- what is told of the advisories that name the package is all that is told
pub all_told : (name text : List ℕ) (version : Option Parts) (under advisories : List AdvisoryValue)
    → version ≡ version_in text → under ≡ filter (names_package name) advisories
    → filter_map (λ a. told text version (elements_of name a) a) under ≡ affecting name text advisories
all_told name text version under advisories is named =
    ap (λ xs. filter_map (λ a. told text version (elements_of name a) a) xs) named
    ∙ left_out (names_package name) (λ a. told text version (elements_of name a) a) (untold name text version) advisories
    ∙ ap (λ o. filter_map (λ a. told text o (elements_of name a) a) advisories) is
