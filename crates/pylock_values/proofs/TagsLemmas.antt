-- Pieces taken one by one, and the fields of tags.
use Rattle.std.proofs.Common.{◌≡◌, ◌++◌, [], ◌∷◌, ℕ, List, Bor, ◌==◌, ◌<◌, length, MatchOption, Option, Some, None, map, option_map, drop, refl, sym, ap, subst, ◌∙◌, append_assoc}
use Rattle.std.specs.List.{after_first, before_first, flat_map, position_or_len}
use Rattle.std.specs.Str.Iter.{split_steps}
use Rattle.std.specs.Str.Pattern.{FindsChar}
use Rattle.std.specs.declared.str.Split.{Split}
use Rattle.std.proofs.lemmas.Iterator.{YieldsList}
use Rattle.std.proofs.lemmas.List.{append-nil}
use Rattle.std.proofs.lemmas.List.Concat.{flat_map-append}
use Rattle.std.proofs.lemmas.List.Folds.{flat_map-map}
use Rattle.pytext.proofs.IteratorLemmas.{yields_next, yields_none}
use Rattle.pywheel_core.proofs.Lemmas.Texts.Cuts.{cut-first, cut-none}
use Rattle.pywheel_core.specs.Texts.{cut_at}
use Rattle.pywheel_core.specs.Tag.{TagParts, TagValue, pieces, tags_in, triples}
use Rattle.pylock_run.specs.Text.Field.{field}
use Rattle.pylock_values.specs.Record.{next_field, record_of}
use Rattle.pylock_values.proofs.RecordLemmas.{record_is}
use Rattle.pylock_values.specs.Tags.{abi_fields, python_fields, tag_field, tag_part}

-- ---- pieces one by one

-- What is pushed of each piece stands behind what was there; these pieces are left.
abbrev pub PushedSoFar : (List ℕ → List ℕ) → List (List ℕ) → Split ℕ → List ℕ → List ℕ → Type 0
PushedSoFar text all s old now = (left : List (List ℕ))
    × YieldsList (split_steps FindsChar (λ a b. b ≡ a)) (λ x. x.now) s left
    × (now ++ flat_map text left ≡ old ++ flat_map text all)

pub pushed_piece : (text : List ℕ → List ℕ) (all : List (List ℕ)) (s t : Split ℕ) (x : Bor (List ℕ)) (old now next : List ℕ)
    → split_steps FindsChar (λ a b. b ≡ a) s (Some x) t → PushedSoFar text all s old now
    → next ≡ now ++ text x.now → PushedSoFar text all t old next
pushed_piece text all s t x old now next step i pushed =
    let n = yields_next (split_steps FindsChar (λ a b. b ≡ a)) (λ y. y.now) s i.0 i.1 x t step in (
      n.0,
      n.2,
      ap (λ (l : List ℕ). l ++ flat_map text n.0) pushed ∙ append_assoc now (text x.now) (flat_map text n.0)
          ∙ subst (λ (left : List (List ℕ)). now ++ flat_map text left ≡ old ++ flat_map text all) n.1 i.2,
    )

pub pushed_all : (text : List ℕ → List ℕ) (all : List (List ℕ)) (s t : Split ℕ) (old now : List ℕ)
    → split_steps FindsChar (λ a b. b ≡ a) s None t → PushedSoFar text all s old now → now ≡ old ++ flat_map text all
pushed_all text all s t old now step i =
    let none = yields_none (split_steps FindsChar (λ a b. b ≡ a)) (λ y. y.now) s i.0 i.1 t step in
    sym (append-nil now) ∙ subst (λ (left : List (List ℕ)). now ++ flat_map text left ≡ old ++ flat_map text all) none i.2

-- ---- the fields of all tags

platforms_are : (python abi : List ℕ) (platforms : List (List ℕ))
    → flat_map tag_field (map (λ platform. record { python = python; abi = abi; platform = platform }) platforms) ≡ abi_fields python platforms abi
platforms_are python abi platforms = flat_map-map tag_field (λ platform. record { python = python; abi = abi; platform = platform }) platforms

abis_are : (python : List ℕ) (abis platforms : List (List ℕ))
    → flat_map tag_field (flat_map (λ abi. map (λ platform. record { python = python; abi = abi; platform = platform }) platforms) abis)
    ≡ python_fields abis platforms python
abis_are python [] platforms = refl
abis_are python (abi ∷ abis) platforms =
    flat_map-append tag_field (map (λ platform. record { python = python; abi = abi; platform = platform }) platforms)
    (flat_map (λ other. map (λ platform. record { python = python; abi = other; platform = platform }) platforms) abis)
    ∙ ap (λ (t : List ℕ). t ++ flat_map tag_field (flat_map (λ other. map (λ platform. record { python = python; abi = other; platform = platform }) platforms) abis)) (platforms_are python abi platforms)
    ∙ ap (λ (t : List ℕ). abi_fields python platforms abi ++ t) (abis_are python abis platforms)

tags_are : (pythons abis platforms : List (List ℕ)) → flat_map tag_field (triples pythons abis platforms) ≡ flat_map (python_fields abis platforms) pythons
tags_are [] abis platforms = refl
tags_are (python ∷ pythons) abis platforms =
    flat_map-append tag_field (flat_map (λ abi. map (λ platform. record { python = python; abi = abi; platform = platform }) platforms) abis) (triples pythons abis platforms)
    ∙ ap (λ (t : List ℕ). t ++ flat_map tag_field (triples pythons abis platforms)) (abis_are python abis platforms)
    ∙ ap (λ (t : List ℕ). python_fields abis platforms python ++ t) (tags_are pythons abis platforms)

pub tags_record_is : (parts : TagParts)
    → drop 1 (flat_map (python_fields (pieces parts.1) (pieces parts.2)) (pieces parts.0)) ≡ record_of (map tag_part (tags_in parts))
tags_record_is parts =
    ap (drop 1) (sym (tags_are (pieces parts.0) (pieces parts.1) (pieces parts.2)) ∙ sym (flat_map-map next_field tag_part (tags_in parts)))
    ∙ record_is (map tag_part (tags_in parts))

-- the fields of a list of tags, as those of parts
pub parts_of_tags : (tags : List TagValue) → flat_map next_field (map tag_part tags) ≡ flat_map tag_field tags
parts_of_tags tags = flat_map-map next_field tag_part tags

-- ---- cuts

-- what `split_once` answers
pub cut_found : (s : List ℕ) (r : Option (Bor (List ℕ) × Bor (List ℕ)))
    → MatchOption r (position_or_len (λ b. b == 45) s ≡ length s)
    (λ x. (position_or_len (λ b. b == 45) s < length s) × (x.0.now ≡ before_first (λ b. b == 45) s) × (x.1.now ≡ after_first (λ b. b == 45) s))
    → option_map (λ x. (x.0.now, x.1.now)) r ≡ cut_at 45 s
cut_found s None h = sym (cut-none 45 s h)
cut_found s (Some x) h = (λ i. Some (h.1 i, h.2 i)) ∙ sym (cut-first 45 s h.0)

-- ---- a record that ends in tags

pub pushed_record : (first second : Option (List ℕ)) (more : List (Option (List ℕ))) (tags : List TagValue) (a b c d : List ℕ)
    → a ≡ field first → b ≡ a ++ next_field second → c ≡ b ++ flat_map next_field more → d ≡ c ++ flat_map tag_field tags
    → d ≡ record_of (first ∷ (second ∷ (more ++ map tag_part tags)))
pushed_record first second more tags a b c d is_a is_b is_c is_d =
    let front = field first in
    let next = next_field second in
    let middle = flat_map next_field more in
    let last = flat_map tag_field tags in
    is_d
    ∙ ap (λ (t : List ℕ). t ++ last) (is_c ∙ ap (λ (t : List ℕ). t ++ middle) (is_b ∙ ap (λ (t : List ℕ). t ++ next) is_a))
    ∙ append_assoc (front ++ next) middle last
    ∙ append_assoc front next (middle ++ last)
    ∙ ap (λ (t : List ℕ). front ++ (next ++ t))
    (ap (λ (t : List ℕ). middle ++ t) (sym (parts_of_tags tags)) ∙ sym (flat_map-append next_field more (map tag_part tags)))
