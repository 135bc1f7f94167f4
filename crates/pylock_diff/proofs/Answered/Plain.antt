-- What is picked of entries in any order.
use Rattle.std.proofs.Common.{◌≡◌, ◌∙◌, ℕ, Bool, true, false, cond, ◌||◌, List, [], ◌∷◌, inl, inr, Option, Some, None, option_map, refl, sym, ap, subst, IsPermutation}
use Rattle.std.specs.Prelude.{⊤}
use Rattle.std.specs.Cmp.Lexicographic.{bytes_decides}
use Rattle.std.specs.Str.{bytes_eq}
use Rattle.std.proofs.lemmas.Bool.{cases_Bool, false≢true}
use Rattle.std.proofs.lemmas.List.Sorted.{IsPermutation-append_comm, IsPermutation-append_left, IsPermutation-cons, IsPermutation-refl, IsPermutation-trans}
use Rattle.pylock_core.specs.Session.State.{is_among}
use Rattle.pylock_diff.proofs.Answered.Moves.{along}

-- what an entry comes to by itself: it is passed over, it makes all a fault, or this is picked
pub data Turn (P : Type 0) : Type 0 where
  Pass : Turn P
  Stop : Turn P
  Take : P → Turn P

-- ---- names

apart : (x y : List ℕ) → bytes_eq x y ≡ false → bytes_eq y x ≡ false
apart x y other = elim (cases_Bool (bytes_eq y x)) [
  | inl is ↦ absurd (false≢true (sym other ∙ (bytes_decides x y).1 (sym ((bytes_decides y x).0 is))))
  | inr is ↦ is
]

turned_names : (x y : List ℕ) → bytes_eq x y ≡ bytes_eq y x
turned_names x y = elim (cases_Bool (bytes_eq x y)) [
  | inl is ↦ is ∙ sym ((bytes_decides y x).1 (sym ((bytes_decides x y).0 is)))
  | inr other ↦ other ∙ sym (apart x y other)
]

module _ {P : Type 0} where
  -- ---- what is picked in another order

  abbrev pub Alike : Option (List P) → Option (List P) → Type 0
  Alike None None = ⊤
  Alike (Some xs) (Some ys) = IsPermutation xs ys
  Alike None (Some ys) = ⊥
  Alike (Some xs) None = ⊥

  alike_chain : (u v w : Option (List P)) → Alike u v → Alike v w → Alike u w
  alike_chain None None None h k = tt
  alike_chain (Some xs) (Some ys) (Some zs) h k = IsPermutation-trans xs ys zs h k
  alike_chain None None (Some zs) h k = absurd k
  alike_chain None (Some ys) w h k = absurd h
  alike_chain (Some xs) None w h k = absurd h
  alike_chain (Some xs) (Some ys) None h k = absurd k

  -- ---- one entry, and two

  -- an entry before what is picked of the others: of those behind it alone, or behind its name
  abbrev pub by_turn : Turn P → Bool → Option (List P) → Option (List P) → Option (List P)
  by_turn Pass shared passed later = passed
  by_turn Stop shared passed later = None
  by_turn (Take p) shared passed later = cond shared None (option_map (λ picked. p ∷ picked) later)

  one_more : (t : Turn P) (shared : Bool) (u v m n : Option (List P)) → Alike u m → Alike v n → Alike (by_turn t shared u v) (by_turn t shared m n)
  one_more Pass shared u v m n h k = h
  one_more Stop shared u v m n h k = tt
  one_more (Take p) true u v m n h k = tt
  one_more (Take p) false u None m None h k = tt
  one_more (Take p) false u (Some xs) m (Some ys) h k = IsPermutation-cons p xs ys k
  one_more (Take p) false u None m (Some ys) h k = absurd k
  one_more (Take p) false u (Some xs) m None h k = absurd k

  flip : (p q : P) (xs : List P) → IsPermutation (p ∷ q ∷ xs) (q ∷ p ∷ xs)
  flip p q xs = IsPermutation-append_left xs (p ∷ q ∷ []) (q ∷ p ∷ []) (IsPermutation-append_comm (p ∷ []) (q ∷ []))

  both : (p q : P) (a b c : Bool) (u v : Option (List P)) → Alike u v
      → Alike (cond a None (option_map (λ l. p ∷ l) (cond (c || b) None (option_map (λ l. q ∷ l) u)))) (cond b None (option_map (λ l. q ∷ l) (cond (c || a) None (option_map (λ l. p ∷ l) v))))
  both p q true true c u v h = tt
  both p q true false true u v h = tt
  both p q true false false u v h = tt
  both p q false true true u v h = tt
  both p q false true false u v h = tt
  both p q false false true u v h = tt
  both p q false false false None None h = tt
  both p q false false false (Some xs) (Some ys) h = IsPermutation-trans _ _ _ (flip p q xs) (IsPermutation-cons q _ _ (IsPermutation-cons p xs ys h))
  both p q false false false None (Some ys) h = absurd h
  both p q false false false (Some xs) None h = absurd h

  -- two entries in turn, with what is picked behind neither name, behind that of the one, of the other and of both
  two : (t s : Turn P) (a b c : Bool) (plain one other all plain' one' other' all' : Option (List P)) → Alike plain plain' → Alike one one' → Alike other other' → Alike all all'
      → Alike (by_turn t a (by_turn s b plain other) (by_turn s (c || b) one all)) (by_turn s b (by_turn t a plain' one') (by_turn t (c || a) other' all'))
  two Pass Pass a b c plain one other all plain' one' other' all' h i j k = h
  two Pass Stop a b c plain one other all plain' one' other' all' h i j k = tt
  two Pass (Take q) a b c plain one other all plain' one' other' all' h i j k = one_more (Take q) b plain other plain' other' h j
  two Stop Pass a b c plain one other all plain' one' other' all' h i j k = tt
  two Stop Stop a b c plain one other all plain' one' other' all' h i j k = tt
  two Stop (Take q) a true c plain one other all plain' one' other' all' h i j k = tt
  two Stop (Take q) a false c plain one other all plain' one' other' all' h i j k = tt
  two (Take p) Pass a b c plain one other all plain' one' other' all' h i j k = one_more (Take p) a plain one plain' one' h i
  two (Take p) Stop true b c plain one other all plain' one' other' all' h i j k = tt
  two (Take p) Stop false b c plain one other all plain' one' other' all' h i j k = tt
  two (Take p) (Take q) a b c plain one other all plain' one' other' all' h i j k = both p q a b c all all' k

-- ---- all entries
module _ {E P : Type 0} (name : E → List ℕ) (turn_of : E → Turn P) where
  -- what is picked of the entries behind those of these names
  abbrev pub made : List E → List (List ℕ) → Option (List P)
  made [] names = Some []
  made (e ∷ es) names = by_turn (turn_of e) (is_among names (name e)) (made es names) (made es (name e ∷ names))

  abbrev SameNames : List (List ℕ) → List (List ℕ) → Type 0
  SameNames names others = (q : List ℕ) → is_among names q ≡ is_among others q

  abbrev AreMoved : List E → List E → Type 0
  AreMoved es fs = (names others : List (List ℕ)) → SameNames names others → Alike (made es names) (made fs others)

  with_name : (n : List ℕ) (names others : List (List ℕ)) → SameNames names others → SameNames (n ∷ names) (n ∷ others)
  with_name n names others same q = ap (λ b. bytes_eq q n || b) (same q)

  skip : (e : E) (es fs : List E) → AreMoved es fs → AreMoved (e ∷ es) (e ∷ fs)
  skip e es fs moved names others same =
      subst (λ b. Alike (made (e ∷ es) names) (by_turn (turn_of e) b (made fs others) (made fs (name e ∷ others)))) (same (name e))
      (one_more (turn_of e) (is_among names (name e)) (made es names) (made es (name e ∷ names)) (made fs others) (made fs (name e ∷ others))
      (moved names others same) (moved (name e ∷ names) (name e ∷ others) (with_name (name e) names others same)))

  unmoved : (es : List E) → AreMoved es es
  unmoved [] names others same = IsPermutation-refl []
  unmoved (e ∷ es) names others same = skip e es es (unmoved es) names others same

  exchange : (e f : E) (es : List E) → AreMoved (e ∷ f ∷ es) (f ∷ e ∷ es)
  exchange e f es names others same =
      let x = name e in
      let y = name f in
      let a = is_among names x in
      let b = is_among names y in
      let c = bytes_eq y x in
      let plain = made es others in
      let one = made es (x ∷ others) in
      let other = made es (y ∷ others) in
      let all = made es (x ∷ y ∷ others) in
      let right : by_turn (turn_of f) b (by_turn (turn_of e) a plain one) (by_turn (turn_of e) (c || a) other all) ≡ made (f ∷ e ∷ es) others =
      λ i. by_turn (turn_of f) (same y i) (by_turn (turn_of e) (same x i) plain one) (by_turn (turn_of e) (turned_names y x i || same x i) other all) in
      subst (Alike (made (e ∷ f ∷ es) names)) right
      (two (turn_of e) (turn_of f) a b c (made es names) (made es (x ∷ names)) (made es (y ∷ names)) (made es (y ∷ x ∷ names)) plain one other all
      (unmoved es names others same) (unmoved es (x ∷ names) (x ∷ others) (with_name x names others same)) (unmoved es (y ∷ names) (y ∷ others) (with_name y names others same))
      (unmoved es (y ∷ x ∷ names) (x ∷ y ∷ others) (λ q. turned (bytes_eq q y) (bytes_eq q x) (is_among names q) ∙ ap (λ d. bytes_eq q x || (bytes_eq q y || d)) (same q))))
    where
      turned : (a b c : Bool) → (a || (b || c)) ≡ (b || (a || c))
      turned true true c = refl
      turned true false c = refl
      turned false true c = refl
      turned false false c = refl

  chain : (es fs gs : List E) → AreMoved es fs → AreMoved fs gs → AreMoved es gs
  chain es fs gs one other names others same =
      alike_chain (made es names) (made fs names) (made gs others) (one names names (λ q. refl)) (other names others same)

  -- entries in another order give the same in another order
  pub made_moved : (es fs : List E) → IsPermutation es fs → Alike (made es []) (made fs [])
  made_moved es fs moved = along AreMoved unmoved skip exchange chain es fs moved [] [] (λ q. refl)
