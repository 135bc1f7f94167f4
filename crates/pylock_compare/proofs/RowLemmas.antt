-- Rows and texts in order, seen by the bytes of texts that are lent.
use Rattle.std.proofs.Common.{Ordering, Less, Equal, Greater, ◌≡◌, ◌∙◌, ℕ, ◌+◌, ◌<◌, ◌≤◌, Bool, true, false, cond, Bor, List, [], ◌∷◌, ◌++◌, length, map, drop, take, get_or, refl, sym, ap, append_assoc}
use Rattle.std.proofs.lemmas.List.{drop_more}
use Rattle.std.proofs.lemmas.List.Folds.{flat_map-map}
use Rattle.std.specs.BTreeSet.{insert_key}
use Rattle.std.specs.Cmp.Lexicographic.{slice_cmp}
use Rattle.std.specs.List.{filter, flat_map}
use Rattle.std.specs.Ordering.{nat_cmp, match_ordering}
use Rattle.std.specs.Str.{bytes_eq}
use Rattle.pylock_compare.specs.Lent.{each_told, found, lent_rows, lent_texts, told_under}
use Rattle.pylock_compare.specs.Rows.{in_order, names_of, put_among, under_each, values_at}
use Rattle.pylock_compare.specs.declared.rows.Sides.{Sides}

moved : {A B C : Type 0} (f : A → B) (g : A → C) (h : C → B) (is : Bool) (x : A) (xs : List A) (ys : List C)
    → f x ≡ h (g x) → map f xs ≡ map h ys → map f (cond is (x ∷ xs) xs) ≡ map h (cond is (g x ∷ ys) ys)
moved f g h true x xs ys one rest = λ i. one i ∷ rest i
moved f g h false x xs ys one rest = rest

-- the values of rows that are lent
pub under : {V : Type 0} (name : List ℕ) (rows : List (Bor (List ℕ) × V))
    → map (λ row. row.1) (filter (λ row. bytes_eq name row.0.now) rows) ≡ values_at name (lent_rows rows)
under name [] = refl
under {V} name (row ∷ rows) =
    moved {A = Bor (List ℕ) × V} {C = List ℕ × V} (λ row. row.1) (λ row. (row.0.now, row.1)) (λ row. row.1) (bytes_eq name row.0.now) row
    (filter (λ row. bytes_eq name row.0.now) rows) (filter (λ row. bytes_eq name row.0) (lent_rows rows)) refl (under name rows)

put_by : (order : Ordering) (k x : Bor (List ℕ)) (ks rest : List (Bor (List ℕ))) (put : List (List ℕ)) → lent_texts rest ≡ put
    → lent_texts (match_ordering order (k ∷ x ∷ ks) (x ∷ ks) (x ∷ rest))
    ≡ match_ordering order (k.now ∷ x.now ∷ lent_texts ks) (x.now ∷ lent_texts ks) (x.now ∷ put)
put_by Less k x ks rest put same = refl
put_by Equal k x ks rest put same = refl
put_by Greater k x ks rest put same = ap (λ more. x.now ∷ more) same

put_seen : (ks : List (Bor (List ℕ))) (k : Bor (List ℕ))
    → lent_texts (insert_key (λ x y. slice_cmp nat_cmp x.now y.now) ks k) ≡ insert_key (slice_cmp nat_cmp) (lent_texts ks) k.now
put_seen [] k = refl
put_seen (x ∷ ks) k = put_by (slice_cmp nat_cmp k.now x.now) k x ks _ _ (put_seen ks k)

-- a set with one text more
pub put_more : (old new texts : List (Bor (List ℕ))) (i : ℕ) (d : Bor (List ℕ)) (all : List (List ℕ))
    → i < length texts → new ≡ insert_key (λ x y. slice_cmp nat_cmp x.now y.now) old (get_or texts i d)
    → put_among (lent_texts old) (lent_texts (drop i texts)) ≡ all
    → put_among (lent_texts new) (lent_texts (drop (i + 1) texts)) ≡ all
put_more old new texts i d all within put so_far =
    ap (λ keys. put_among keys (lent_texts (drop (i + 1) texts))) (ap lent_texts put ∙ put_seen old (get_or texts i d))
    ∙ ap (λ left. put_among (lent_texts old) (lent_texts left)) (sym (drop_more texts i d within))
    ∙ so_far

-- ---- what is told of each name

-- the values of rows that are lent, each seen as it stands in a row
pub values_seen : {V W : Type 0} (view : V → W) (name : List ℕ) (rows : List (Bor (List ℕ) × V))
    → map view (values_at name (lent_rows rows)) ≡ values_at name (map (λ row. (row.0.now, view row.1)) rows)
values_seen view name [] = refl
values_seen {V} {W} view name (row ∷ rows) = by (bytes_eq name row.0.now) _ _ (values_seen view name rows)
  where
    by : (is : Bool) (xs : List (List ℕ × V)) (ys : List (List ℕ × W)) → map view (map (λ r. r.1) xs) ≡ map (λ r. r.1) ys
        → map view (map (λ r. r.1) (cond is ((row.0.now, row.1) ∷ xs) xs)) ≡ map (λ r. r.1) (cond is ((row.0.now, view row.1) ∷ ys) ys)
    by true xs ys same = ap (λ more. view row.1 ∷ more) same
    by false xs ys same = same

pub names_seen : {V W : Type 0} (view : V → W) (rows : List (Bor (List ℕ) × V))
    → names_of (lent_rows rows) ≡ names_of (map (λ row. (row.0.now, view row.1)) rows)
names_seen view [] = refl
names_seen view (row ∷ rows) = ap (λ more. row.0.now ∷ more) (names_seen view rows)

module _ {V W C : Type 0} (view : V → W) (told : List ℕ → List W → List W → List C) (sides : Sides V) (olds news : List (Bor (List ℕ) × V)) where
  -- what is told of a name
  one : List ℕ → List C
  one name = told name (values_at name (map (λ row. (row.0.now, view row.1)) olds)) (values_at name (map (λ row. (row.0.now, view row.1)) news))

  -- of names, what the rows under them tell
  pub each_seen : ((name : List ℕ) → found sides.olds name ≡ values_at name (lent_rows olds)) → ((name : List ℕ) → found sides.news name ≡ values_at name (lent_rows news))
      → (names : List (Bor (List ℕ))) → each_told view told sides names
      ≡ flat_map (λ name. told name (values_at name (map (λ row. (row.0.now, view row.1)) olds)) (values_at name (map (λ row. (row.0.now, view row.1)) news))) (lent_texts names)
  unfolding one
  each_seen from to names =
      (λ i. flat_map (λ name. told name.now ((ap (map view) (from name.now) ∙ values_seen view name.now olds) i) ((ap (map view) (to name.now) ∙ values_seen view name.now news) i)) names)
      ∙ sym (flat_map-map one (λ (name : Bor (List ℕ)). name.now) names)

  -- of all names of the sides, that under each
  pub told_seen : lent_texts sides.names.items ≡ in_order (names_of (lent_rows olds) ++ names_of (lent_rows news))
      → ((name : List ℕ) → found sides.olds name ≡ values_at name (lent_rows olds)) → ((name : List ℕ) → found sides.news name ≡ values_at name (lent_rows news))
      → told_under view told sides ≡ under_each told (map (λ row. (row.0.now, view row.1)) olds) (map (λ row. (row.0.now, view row.1)) news)
  unfolding one
  told_seen names from to =
      each_seen from to sides.names.items
      ∙ ap (flat_map one) (names ∙ (λ i. in_order (names_seen view olds i ++ names_seen view news i)))

-- ---- what is told in turn

pub in_turn : {C : Type 0} (start middle end one other : List C) → middle ≡ start ++ one → end ≡ middle ++ other → end ≡ start ++ (one ++ other)
in_turn start middle end one other first second = second ∙ ap (λ told. told ++ other) first ∙ append_assoc start one other

pub five_in_turn : {C : Type 0} (start m n o p end a b c d e : List C) → m ≡ start ++ a → n ≡ m ++ b → o ≡ n ++ c → p ≡ o ++ d → end ≡ p ++ e
    → end ≡ start ++ (a ++ b ++ c ++ d ++ e)
five_in_turn start m n o p end a b c d e one two three four five =
    in_turn start p end (a ++ b ++ c ++ d) e
    (in_turn start o p (a ++ b ++ c) d (in_turn start n o (a ++ b) c (in_turn start m n a b one two) three) four) five
