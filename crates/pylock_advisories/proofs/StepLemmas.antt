-- Going through events in order, as the schema does, includes the versions that the definition includes.
use Rattle.std.proofs.Common.{◌≡◌, ◌∙◌, ◌&&◌, ◌||◌, Bool, true, false, if◌then◌else◌, not, List, [], ◌∷◌, refl, ap, sym}
use Rattle.std.specs.List.{filter_map, fold, list_all, list_any}
use Rattle.pyver_core.specs.Version.Order.{is_before}
use Rattle.pyver_core.specs.Version.Parts.{Parts}
use Rattle.pylock_advisories.specs.Evaluation.{fixes, has_reached, is_included, is_last}
use Rattle.pylock_advisories.specs.Steps.{Event, from_start, introduced, fixed, last_affected, are_in_order, fixed_at, introduced_at, is_start, is_vulnerable, last_affected_at, may_precede, range_with, step}

and_first : (a b : Bool) → (a && b) ≡ true → a ≡ true
and_first true b e = refl
and_first false b e = absurd cc

and_second : (a b : Bool) → (a && b) ≡ true → b ≡ true
and_second true b e = e
and_second false b e = absurd cc

-- one test for the versions of `fixed`, and another for those of `last_affected`
abbrev by_kind : (Parts → Bool) → (Parts → Bool) → Event → Bool
by_kind p q from_start = false
by_kind p q (introduced e) = false
by_kind p q (fixed f) = p f
by_kind p q (last_affected l) = q l

or_three : (a b c : Bool) → ((a || b) || c) ≡ (a || (b || c))
or_three true b c = refl
or_three false b c = refl

or_over : (a b c : Bool) → (a || (b || c)) ≡ (b || (a || c))
or_over true true c = refl
or_over true false c = refl
or_over false b c = refl

kinds_apart : (p q : Parts → Bool) (es : List Event)
    → (list_any p (filter_map fixed_at es) || list_any q (filter_map last_affected_at es)) ≡ list_any (by_kind p q) es
kinds_apart p q [] = refl
kinds_apart p q (from_start ∷ es) = kinds_apart p q es
kinds_apart p q (introduced e ∷ es) = kinds_apart p q es
kinds_apart p q (fixed f ∷ es) =
    or_three (p f) (list_any p (filter_map fixed_at es)) (list_any q (filter_map last_affected_at es))
    ∙ ap (λ b. p f || b) (kinds_apart p q es)
kinds_apart p q (last_affected l ∷ es) =
    or_over (list_any p (filter_map fixed_at es)) (q l) (list_any q (filter_map last_affected_at es))
    ∙ ap (λ b. q l || b) (kinds_apart p q es)

module _ (v : Parts) where
  -- the event ends what was vulnerable, and makes v vulnerable
  abbrev closes : Event → Bool
  closes = by_kind (λ f. has_reached f v) (λ l. is_before l v)

  abbrev opens : Event → Bool
  opens from_start = true
  opens (introduced e) = has_reached e v
  opens (fixed f) = false
  opens (last_affected l) = false

  -- the second event ends what the first introduced
  abbrev ends : Event → Event → Bool
  ends from_start = closes
  ends (introduced e) = by_kind (fixes e v) (is_last e v)
  ends (fixed f) = closes
  ends (last_affected l) = closes

  -- an event that makes v vulnerable, and none behind it that ends that
  abbrev open_last : List Event → Bool
  open_last [] = false
  open_last (e ∷ es) = (opens e && not (list_any closes es)) || open_last es

  kept : (b : Bool) → b ≡ ((b && true) || false)
  kept true = refl
  kept false = refl

  on_start : (b c l : Bool) → ((true && not c) || l) ≡ ((b && not (false || c)) || ((true && not c) || l))
  on_start true true l = refl
  on_start true false l = refl
  on_start false true l = refl
  on_start false false l = refl

  on_introduced : (h b c l : Bool) → (((if h then true else b) && not c) || l) ≡ ((b && not (false || c)) || ((h && not c) || l))
  on_introduced true true true l = refl
  on_introduced true true false l = refl
  on_introduced true false true l = refl
  on_introduced true false false l = refl
  on_introduced false true true l = refl
  on_introduced false true false l = refl
  on_introduced false false true l = refl
  on_introduced false false false l = refl

  on_end : (h b c l : Bool) → (((if h then false else b) && not c) || l) ≡ ((b && not (h || c)) || ((false && not c) || l))
  on_end true true c l = refl
  on_end true false c l = refl
  on_end false true c l = refl
  on_end false false c l = refl

  -- the state behind all events
  gone_through : (b : Bool) (es : List Event) → fold (step v) b es ≡ ((b && not (list_any closes es)) || open_last es)
  gone_through b [] = kept b
  gone_through b (from_start ∷ es) = gone_through true es ∙ on_start b (list_any closes es) (open_last es)
  gone_through b (introduced e ∷ es) =
      gone_through (step v b (introduced e)) es ∙ on_introduced (has_reached e v) b (list_any closes es) (open_last es)
  gone_through b (fixed f ∷ es) =
      gone_through (step v b (fixed f)) es ∙ on_end (has_reached f v) b (list_any closes es) (open_last es)
  gone_through b (last_affected l ∷ es) =
      gone_through (step v b (last_affected l)) es ∙ on_end (is_before l v) b (list_any closes es) (open_last es)

  -- behind an event, what ends something ends what it introduced
  one_behind : (e : Parts) (f : Event) → may_precede (introduced e) f ≡ true → ends (introduced e) f ≡ closes f
  one_behind e from_start h = refl
  one_behind e (introduced d) h = refl
  one_behind e (fixed f) h = ap (λ b. b && has_reached f v) h
  one_behind e (last_affected l) h = ap (λ b. b && is_before l v) h

  all_behind : (e : Parts) (es : List Event) → list_all (may_precede (introduced e)) es ≡ true
      → list_any (ends (introduced e)) es ≡ list_any closes es
  all_behind e [] h = refl
  all_behind e (f ∷ es) h =
      ap (λ b. b || list_any (ends (introduced e)) es)
      (one_behind e f (and_first (may_precede (introduced e) f) (list_all (may_precede (introduced e)) es) h))
      ∙ ap (λ b. closes f || b) (all_behind e es (and_second (may_precede (introduced e) f) (list_all (may_precede (introduced e)) es) h))

  -- what stands before an event ends nothing that it introduces
  one_before : (x : Event) (e : Parts) → may_precede x (introduced e) ≡ true → ends (introduced e) x ≡ false
  one_before from_start e h = refl
  one_before (introduced d) e h = refl
  one_before (fixed f) e h = ap (λ b. b && has_reached f v) (flipped (is_before e f) h)
    where
      flipped : (b : Bool) → not b ≡ true → b ≡ false
      flipped true k = absurd cc
      flipped false k = refl
  one_before (last_affected l) e h = ap (λ b. not b && is_before l v) h

  before_start : (x : Event) → may_precede x from_start ≡ true → closes x ≡ false
  before_start from_start h = refl
  before_start (introduced d) h = absurd cc
  before_start (fixed f) h = absurd cc
  before_start (last_affected l) h = absurd cc

  -- so a first event ends nothing that those behind it introduce
  abbrev open_of : List Event → Event → Bool
  open_of all e = opens e && not (list_any (ends e) all)

  one_kept : (x y : Event) (all : List Event) → may_precede x y ≡ true → open_of (x ∷ all) y ≡ open_of all y
  one_kept x from_start all h = ap (λ b. not (b || list_any closes all)) (before_start x h)
  one_kept x (introduced e) all h = ap (λ b. has_reached e v && not (b || list_any (ends (introduced e)) all)) (one_before x e h)
  one_kept x (fixed f) all h = refl
  one_kept x (last_affected l) all h = refl

  all_kept : (x : Event) (all ys : List Event) → list_all (may_precede x) ys ≡ true
      → list_any (open_of (x ∷ all)) ys ≡ list_any (open_of all) ys
  all_kept x all [] h = refl
  all_kept x all (y ∷ ys) h =
      ap (λ b. b || list_any (open_of (x ∷ all)) ys) (one_kept x y all (and_first (may_precede x y) (list_all (may_precede x) ys) h))
      ∙ ap (λ b. open_of all y || b) (all_kept x all ys (and_second (may_precede x y) (list_all (may_precede x) ys) h))

  first_open : (x : Event) (es : List Event) → list_all (may_precede x) es ≡ true → (opens x && not (list_any closes es)) ≡ open_of (x ∷ es) x
  first_open from_start es h = refl
  first_open (introduced e) es h = ap (λ b. has_reached e v && not b) (sym (all_behind e es h))
  first_open (fixed f) es h = refl
  first_open (last_affected l) es h = refl

  in_order : (es : List Event) → are_in_order es ≡ true → open_last es ≡ list_any (open_of es) es
  in_order [] h = refl
  in_order (x ∷ es) h =
      let before = and_first (list_all (may_precede x) es) (are_in_order es) h in
      ap (λ b. b || open_last es) (first_open x es before)
      ∙ ap (λ b. open_of (x ∷ es) x || b)
      (in_order es (and_second (list_all (may_precede x) es) (are_in_order es) h) ∙ sym (all_kept x es es before))

  -- the events that make v vulnerable, by their kinds
  start_first : (s a b : Bool) → (s || ((a && s) || b)) ≡ (((true || a) && s) || b)
  start_first true a b = refl
  start_first false true b = refl
  start_first false false b = refl

  by_kinds : (all es : List Event)
      → list_any (open_of all) es
      ≡ ((list_any is_start es && not (list_any closes all))
      || list_any (λ e. has_reached e v && not (list_any (ends (introduced e)) all)) (filter_map introduced_at es))
  by_kinds all [] = refl
  by_kinds all (from_start ∷ es) =
      ap (λ b. not (list_any closes all) || b) (by_kinds all es)
      ∙ start_first (not (list_any closes all)) (list_any is_start es) _
  by_kinds all (introduced e ∷ es) =
      ap (λ b. open_of all (introduced e) || b) (by_kinds all es)
      ∙ or_over (open_of all (introduced e)) (list_any is_start es && not (list_any closes all)) _
  by_kinds all (fixed f ∷ es) = by_kinds all es
  by_kinds all (last_affected l ∷ es) = by_kinds all es

any_same : {X : Type 0} (p q : X → Bool) → ((x : X) → p x ≡ q x) → (xs : List X) → list_any p xs ≡ list_any q xs
any_same p q same [] = refl
any_same p q same (x ∷ xs) = ap (λ b. b || list_any p xs) (same x) ∙ ap (λ b. q x || b) (any_same p q same xs)

abbrev open_by : Parts → List Event → Parts → Bool
open_by v all e =
    has_reached e v && not (list_any (fixes e v) (filter_map fixed_at all) || list_any (is_last e v) (filter_map last_affected_at all))

abbrev open_all : Parts → List Event → Parts → Bool
open_all v all e = has_reached e v && not (list_any (ends v (introduced e)) all)

-- the definition includes the versions that are vulnerable behind all events
pub steps_agree : (v : Parts) (es : List Event) → are_in_order es ≡ true → is_included v (range_with es) ≡ is_vulnerable v es
unfolding is_included
steps_agree v es h =
    ap (λ b. (list_any is_start es && not b) || list_any (open_by v es) (filter_map introduced_at es))
    (kinds_apart (λ f. has_reached f v) (λ l. is_before l v) es)
    ∙ ap (λ b. (list_any is_start es && not (list_any (closes v) es)) || b)
    (any_same (open_by v es) (open_all v es) (λ e. ap (λ b. has_reached e v && not b) (kinds_apart (fixes e v) (is_last e v) es)) (filter_map introduced_at es))
    ∙ sym (by_kinds v es es) ∙ sym (in_order v es h) ∙ sym (gone_through v false es)
