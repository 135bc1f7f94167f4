-- What determines the tags of a list.
use Rattle.std.proofs.Common.{◌≡◌, ℕ, suc, ◌+◌, ◌<◌, Bool, true, false, ◌||◌, List, [], ◌∷◌, ◌++◌, length, Result, Ok, Err, refl, sym, subst, ap, ◌∙◌, ◌⊎◌, inl, inr, arith}
use Rattle.std.proofs.lemmas.List.{append-nil, append_assoc}
use Rattle.std.proofs.lemmas.List.Folds.{list_any-append}
use Rattle.std.proofs.lemmas.Map.Steps.{list_any_congr}
use Rattle.std.specs.List.{IsDistinct, list_any, position_or_len}
use Rattle.std.proofs.lemmas.Bool.{cases_Bool}
use Rattle.pywheel_core.specs.Tag.{AreFirsts, AreTags, IsNoTag, TagValue, at_position, first_position, is_among, tag_eq, tag_of, tags_after, tags_of, with_tag}
use Rattle.pywheel_core.specs.TagLaws.{tag_equiv}
use Rattle.pywheel_core.specs.declared.error.TagError.{TagError}
use Rattle.pywheel_core.specs.declared.error.TagError.TheVariants as tag
use Rattle.pywheel_core.specs.declared.error.TagListError.TheVariants as list
use Rattle.pywheel_core.proofs.Lemmas.Tag.Listing.{with_tag_distinct}
use Rattle.pywheel_core.proofs.NeverMemory.{tag_never_memory}
use Rattle.pytext.proofs.ResultsLemmas.{bind_ok}

-- ---- the place of what is there, and of what isn't

found_before : {X : Type 0} (p : X → Bool) (xs : List X) → list_any p xs ≡ true → position_or_len p xs < length xs
found_before p [] e = absurd cc
found_before p (x ∷ xs) e = elim (cases_Bool (p x)) [
  | inl holds ↦ rw holds (omega arith)
  | inr fails ↦ let rest : list_any p xs ≡ true = rw fails at e in let l = found_before p xs rest in rw fails (omega (arith, l))
]

-- one more behind the others: what is among them stays at its place, and what isn't comes behind
kept_place : {X : Type 0} (p : X → Bool) (xs : List X) (y : X) → list_any p xs ≡ true → position_or_len p (xs ++ y ∷ []) ≡ position_or_len p xs
kept_place p [] y e = absurd cc
kept_place p (x ∷ xs) y e = elim (cases_Bool (p x)) [
  | inl holds ↦ rw holds refl
  | inr fails ↦ let rest : list_any p xs ≡ true = rw fails at e in rw fails (ap (λ n. 1 + n) (kept_place p xs y rest))
]

last_place : {X : Type 0} (p : X → Bool) (xs : List X) (y : X) → list_any p xs ≡ false → p y ≡ true → position_or_len p (xs ++ y ∷ []) ≡ length xs
last_place p [] y e holds = rw holds refl
last_place p (x ∷ xs) y e holds = elim (cases_Bool (p x)) [
  | inl is ↦ let bad = rw is at e in absurd cc
  | inr fails ↦ let rest : list_any p xs ≡ false = rw fails at e in let more = last_place p xs y rest holds in rw fails (omega (arith, more))
]

-- ---- one tag more

own_last : (tags : List TagValue) (t a : TagValue) → is_among a (tags ++ t ∷ []) ≡ true → is_among a tags ≡ false → tag_eq a t ≡ true
own_last tags t a among new =
    let x : (list_any (tag_eq a) tags || (tag_eq a t || false)) ≡ true = sym (list_any-append (tag_eq a) tags (t ∷ [])) ∙ among in
    elim (cases_Bool (tag_eq a t)) [
      | inl holds ↦ holds
      | inr fails ↦ let bad = rw (new, fails) at x in absurd cc
    ]

same_with : (given tags : List TagValue) (t : TagValue) → ((u : TagValue) → is_among u tags ≡ is_among u given) → (u : TagValue) → is_among u (with_tag tags t) ≡ is_among u (given ++ t ∷ [])
same_with given tags t same u =
    let whole = list_any-append (tag_eq u) given (t ∷ []) in
    elim (cases_Bool (list_any (tag_eq t) tags)) [
      | inl old ↦ elim (cases_Bool (tag_eq u t)) [
        | inl is ↦
            let there : is_among u tags ≡ true = list_any_congr tag_equiv u t tags is ∙ old in
            let given_too : is_among u given ≡ true = sym (same u) ∙ there in
            rw (old, whole, there, given_too) refl
        | inr fails ↦ rw (old, whole, fails, same u) (elim (cases_Bool (is_among u given)) [ inl e ↦ rw e refl | inr e ↦ rw e refl ])
      ]
      | inr new ↦ rw new (list_any-append (tag_eq u) tags (t ∷ []) ∙ (λ i. same u i || (tag_eq u t || false)) ∙ sym whole)
    ]

ordered_push : (given tags : List TagValue) (t : TagValue) → AreFirsts given tags → (a b : TagValue) → is_among a (tags ++ t ∷ []) ≡ true → is_among b (tags ++ t ∷ []) ≡ true
    → first_position a (tags ++ t ∷ []) < first_position b (tags ++ t ∷ []) → first_position a (given ++ t ∷ []) < first_position b (given ++ t ∷ [])
ordered_push given tags t f a b has_a has_b less = elim (cases_Bool (is_among a tags)) [
  | inl old ↦
      let given_a : is_among a given ≡ true = sym (f.same a) ∙ old in
      let x = kept_place (tag_eq a) given t given_a in
      let y = kept_place (tag_eq a) tags t old in
      elim (cases_Bool (is_among b tags)) [
        | inl too ↦
            let z = kept_place (tag_eq b) given t (sym (f.same b) ∙ too) in
            let w = kept_place (tag_eq b) tags t too in
            let before : first_position a tags < first_position b tags = omega (arith, y, w, less) in
            let after = f.ordered a b old too before in
            omega (arith, x, z, after)
        | inr new ↦
            let z = last_place (tag_eq b) given t (sym (f.same b) ∙ new) (own_last tags t b has_b new) in
            let within = found_before (tag_eq a) given given_a in
            omega (arith, x, z, within)
      ]
  | inr last ↦
      let y = last_place (tag_eq a) tags t last (own_last tags t a has_a last) in
      elim (cases_Bool (is_among b tags)) [
        | inl old ↦
            let w = kept_place (tag_eq b) tags t old in
            let within = found_before (tag_eq b) tags old in
            absurd (omega (arith, y, w, within, less))
        | inr new ↦ let w = last_place (tag_eq b) tags t new (own_last tags t b has_b new) in absurd (omega (arith, y, w, less))
      ]
]

ordered_same : (given tags : List TagValue) (t : TagValue) → AreFirsts given tags → (a b : TagValue) → is_among a tags ≡ true → is_among b tags ≡ true
    → first_position a tags < first_position b tags → first_position a (given ++ t ∷ []) < first_position b (given ++ t ∷ [])
ordered_same given tags t f a b has_a has_b less =
    let x = kept_place (tag_eq a) given t (sym (f.same a) ∙ has_a) in
    let z = kept_place (tag_eq b) given t (sym (f.same b) ∙ has_b) in
    let after = f.ordered a b has_a has_b less in
    omega (arith, x, z, after)

firsts_with : (given tags : List TagValue) (t : TagValue) → AreFirsts given tags → AreFirsts (given ++ t ∷ []) (with_tag tags t)
firsts_with given tags t f = elim (cases_Bool (list_any (tag_eq t) tags)) [
  | inl old ↦ record {
    distinct = with_tag_distinct tags t f.distinct;
    same = same_with given tags t f.same;
    ordered = rw old (ordered_same given tags t f);
  }
  | inr new ↦ record {
    distinct = with_tag_distinct tags t f.distinct;
    same = same_with given tags t f.same;
    ordered = rw new (ordered_push given tags t f);
  }
]

-- ---- all texts

result_sight : {A E : Type 0} (r : Result A E) → ((x : A) × (r ≡ Ok x)) ⊎ ((e : E) × (r ≡ Err e))
result_sight (Ok x) = inl (x, refl)
result_sight (Err e) = inr (e, refl)

placed_ok : (place : ℕ) (r : Result TagValue TagError) (t : TagValue) → at_position place r ≡ Ok t → r ≡ Ok t
placed_ok place (Ok u) t h = cc
placed_ok place (Err e) t h = absurd cc

after_firsts : (before tags : List TagValue) (place : ℕ) (texts : List (List ℕ)) (found : List TagValue) → AreFirsts before tags → tags_after tags place texts ≡ Ok found
    → (given : List TagValue) × AreTags texts given × AreFirsts (before ++ given) found
after_firsts before tags place [] found f h =
    let e : tags ≡ found = cc in
    ([], refl, subst (AreFirsts (before ++ [])) e (subst (λ l. AreFirsts l tags) (sym (append-nil before)) f))
after_firsts before tags place (text ∷ texts) found f h =
    let x = bind_ok (at_position place (tag_of text)) (λ t. tags_after (with_tag tags t) (suc place) texts) found h in
    let is = placed_ok place (tag_of text) x.0 x.1 in
    let rest = after_firsts (before ++ x.0 ∷ []) (with_tag tags x.0) (suc place) texts found (firsts_with before tags x.0 f) x.2 in
    let each = rest.1 in
    (x.0 ∷ rest.0, (λ i. is i ∷ each i), subst (λ l. AreFirsts l found) (append_assoc before (x.0 ∷ []) rest.0) rest.2)

pub firsts : (texts : List (List ℕ)) (tags : List TagValue) → tags_of texts ≡ Ok tags → (given : List TagValue) × AreTags texts given × AreFirsts given tags
unfolding tags_of IsDistinct
firsts texts tags h = after_firsts [] [] 1 texts tags (record { distinct = tt; same = λ t. refl; ordered = λ a b has_a. absurd cc }) h

-- ---- the refusal

is_shape : (text : List ℕ) (e : TagError) → tag_of text ≡ Err e → e ≡ tag.Shape
is_shape text tag.Shape h = refl
is_shape text tag.Memory h = absurd (tag_never_memory text h)

after_refused : (tags : List TagValue) (n : ℕ) (texts : List (List ℕ)) (found : ℕ) → tags_after tags (suc n) texts ≡ Err (list.Tag found) → (m : ℕ) × (found ≡ n + m) × IsNoTag texts m
after_refused tags n [] found h = absurd cc
after_refused tags n (text ∷ texts) found h = elim (result_sight (tag_of text)) [
  | inl is ↦
      let e = is.1 in
      let next : tags_after (with_tag tags is.0) (suc (suc n)) texts ≡ Err (list.Tag found) = rw e at h in
      let rest = after_refused (with_tag tags is.0) (suc n) texts found next in
      let bad = rest.2 in
      let each = bad.tags.1 in
      let at = rest.1 in (
        suc rest.0,
        omega (arith, at),
        record {
          before = text ∷ bad.before;
          text = bad.text;
          after = bad.after;
          whole = ap (λ l. text ∷ l) bad.whole;
          counted = ap suc bad.counted;
          tags = (is.0 ∷ bad.tags.0, (λ i. e i ∷ each i));
          none = bad.none;
        },
      )
  | inr not ↦
      let e = not.1 in
      let last = rw e at h in
      let at : found ≡ suc n = cc in (
        1,
        omega (arith, at),
        record {
          before = [];
          text = text;
          after = texts;
          whole = refl;
          counted = refl;
          tags = ([], refl);
          none = e ∙ ap Err (is_shape text not.0 e);
        },
      )
]

pub refused : (texts : List (List ℕ)) (place : ℕ) → tags_of texts ≡ Err (list.Tag place) → IsNoTag texts place
unfolding tags_of
refused texts place h =
    let x = after_refused [] 0 texts place h in
    let e = x.1 in
    let at : x.0 ≡ place = omega (arith, e) in
    subst (IsNoTag texts) at x.2
