-- What is read of a specifier set is written so.
use Rattle.std.proofs.Common.{◌≡◌, ◌⊎◌, ℕ, ◌≤◌, Bool, true, false, List, [], ◌∷◌, ◌++◌, length, take, drop, Option, Some, None, refl, sym, ap, subst, ◌∙◌, arith, inl, inr}
use Rattle.std.specs.Prelude.{◌==◌, ◌&&◌, codes, nat_eq, nat_le, nat_lt, option_map}
use Rattle.std.specs.Cmp.{unsigned_Decides}
use Rattle.std.specs.List.{list_all, prefix_len, starts_with}
use Rattle.std.proofs.lemmas.Bool.{and_parts, cases_Bool, eqb-true}
use Rattle.std.proofs.lemmas.Bool.Decides.{nat_tests}
use Rattle.std.proofs.lemmas.List.{nil_from_length, take-append-drop}
use Rattle.std.proofs.lemmas.List.Folds.{length-prefix_len}
use Rattle.std.proofs.lemmas.Option.{cond_some}
use Rattle.std.proofs.lemmas.Slice.Eq.{starts_is}
use Rattle.pytext.specs.Bytes.{is_white}
use Rattle.pyver_core.specs.Version.Grammar.{Spells}
use Rattle.pyver_core.specs.Version.Parts.{Parts}
use Rattle.pyver_core.specs.Set.Prefix.{Prefix}
use Rattle.pytext.specs.Options.{either}
use Rattle.pytext.specs.White.{after_white}
use Rattle.pyver_core.specs.Version.Reading.{base_at, version_of}
use Rattle.pyver_core.specs.Set.Grammar.{ArePieces, IsOperand, IsSpecifier, SetText, SpellsArbitrary, SpellsPrefix, blank_piece, is_arbitrary_byte, no_pieces, specifier_piece}
use Rattle.pyver_core.specs.Set.Reading.{arbitrary_text_of, after_operator, compatible_version_of, is_star, operand_of, operator_among, operator_at, operators, prefix_of, public_version_of, set_of, specifier_of, specifiers_of}
use Rattle.pyver_core.specs.Set.Normal.{operator_of, operator_text}
use Rattle.pyver_core.specs.declared.set.specifier.Operator.{Operator}
use Rattle.pyver_core.specs.declared.set.specifier.Operator.TheVariants as operator
use Rattle.pyver_core.specs.declared.set.specifier.Specifier.{Specifier}
use Rattle.pyver_core.specs.declared.set.specifier.Specifier.TheVariants.{Equal, EqualPrefix, NotEqual, NotEqualPrefix, AtMost, AtLeast, Before, After, Compatible, Arbitrary}
use Rattle.pytext.proofs.BytesLemmas.{list_all_prefix}
use Rattle.pytext.proofs.WhiteLemmas.{after_white_splits}
use Rattle.pytext.proofs.OptionsLemmas.{bind_some, either_some, map_some, option_cases}
use Rattle.pyver_core.proofs.Lemmas.Version.Reading.Sound.Parts.{base_sound, version_sound}

-- ---- operators

pub begins_sound : (text word : List ℕ) → starts_with nat_eq text word ≡ true → text ≡ word ++ drop (length word) text
begins_sound text word e = (starts_is unsigned_Decides text word (starts_with nat_eq text word) refl).0 e

operator_sound : (o : Operator) (text rest : List ℕ) → after_operator o text ≡ Some rest → text ≡ operator_text o ++ rest
operator_sound o text rest e =
    let c = cond_some (starts_with nat_eq text (operator_text o)) (drop (length (operator_text o)) text) rest e in
    begins_sound text (operator_text o) c.0 ∙ ap (λ (t : List ℕ). operator_text o ++ t) c.1

no_operator : (o : Operator) (text : List ℕ) → after_operator o text ≡ None → starts_with nat_eq text (operator_text o) ≡ false
no_operator o text e = elim (cases_Bool (starts_with nat_eq text (operator_text o))) [
  | inl begins ↦ absurd (let n : Some (drop (length (operator_text o)) text) ≡ None = rw begins at e in cc)
  | inr other ↦ other
]

-- the operators of a list are no longer than a number
abbrev are_no_longer : ℕ → List Operator → Bool
are_no_longer n os = list_all (λ o. nat_le (length (operator_text o)) n) os

-- none is longer than one before it
abbrev get_shorter : List Operator → Bool
get_shorter [] = true
get_shorter (o ∷ os) = are_no_longer (length (operator_text o)) os && get_shorter os

abbrev IsIn : Operator → List Operator → Type 0
IsIn o [] = ⊥
IsIn o (p ∷ ps) = (o ≡ p) ⊎ IsIn o ps

is_no_longer : (n : ℕ) (os : List Operator) (o : Operator) → are_no_longer n os ≡ true → IsIn o os → length (operator_text o) ≤ n
is_no_longer n [] o h i = absurd i
is_no_longer n (p ∷ ps) o h (inl same) =
    let fits : nat_le (length (operator_text p)) n ≡ true = (and_parts _ (are_no_longer n ps) h).0 in
    rw same (grind (arith, nat_tests, fits))
is_no_longer n (p ∷ ps) o h (inr rest) = is_no_longer n ps o (and_parts _ (are_no_longer n ps) h).1 rest

-- what is found is a cut of the text, and no longer operator of the list stands there
abbrev IsFound : List Operator → List ℕ → Operator × List ℕ → Type 0
IsFound os text cut = (text ≡ operator_text cut.0 ++ cut.1)
    × ((other : Operator) → IsIn other os → starts_with nat_eq text (operator_text other) ≡ true → length (operator_text other) ≤ length (operator_text cut.0))

among_sound : (os : List Operator) (text : List ℕ) (cut : Operator × List ℕ) → get_shorter os ≡ true → operator_among os text ≡ Some cut → IsFound os text cut
among_sound [] text cut fall e = absurd cc
among_sound (o ∷ os) text cut fall e = elim (option_cases (after_operator o text)) [
  | inl none ↦
      let later : operator_among os text ≡ Some cut = rw none at e in
      let found = among_sound os text cut (and_parts (are_no_longer (length (operator_text o)) os) (get_shorter os) fall).1 later in
      (found.0, λ other i begins. longest other i begins (no_operator o text none) found.1)
  | inr some ↦
      let here : ◌≡◌ {A = Option (Operator × List ℕ)} (Some (o, some.0)) (Some cut) = rw some.1 at e in
      let same : (o, some.0) ≡ cut = cc in
      subst (IsFound (o ∷ os) text) same (operator_sound o text some.0 some.1, λ other i begins. first other i)
]
  where
    longest : (other : Operator) → IsIn other (o ∷ os) → starts_with nat_eq text (operator_text other) ≡ true
        → starts_with nat_eq text (operator_text o) ≡ false
        → ((p : Operator) → IsIn p os → starts_with nat_eq text (operator_text p) ≡ true → length (operator_text p) ≤ length (operator_text cut.0))
        → length (operator_text other) ≤ length (operator_text cut.0)
    longest other (inl same) begins lacking h =
        absurd (let n : true ≡ false = sym begins ∙ ap (λ (p : Operator). starts_with nat_eq text (operator_text p)) same ∙ lacking in cc)
    longest other (inr rest) begins lacking h = h other rest begins

    first : (other : Operator) → IsIn other (o ∷ os) → length (operator_text other) ≤ length (operator_text o)
    first other (inl same) = subst (λ (q : Operator). length (operator_text q) ≤ length (operator_text o)) (sym same) (omega arith)
    first other (inr rest) = is_no_longer (length (operator_text o)) os other (and_parts (are_no_longer (length (operator_text o)) os) (get_shorter os) fall).0 rest

each_operator : (o : Operator) → IsIn o operators
each_operator operator.Arbitrary = inl refl
each_operator operator.Compatible = inr (inl refl)
each_operator operator.Equal = inr (inr (inl refl))
each_operator operator.NotEqual = inr (inr (inr (inl refl)))
each_operator operator.AtMost = inr (inr (inr (inr (inl refl))))
each_operator operator.AtLeast = inr (inr (inr (inr (inr (inl refl)))))
each_operator operator.Before = inr (inr (inr (inr (inr (inr (inl refl))))))
each_operator operator.After = inr (inr (inr (inr (inr (inr (inr (inl refl)))))))

cut_sound : (text : List ℕ) (cut : Operator × List ℕ) → operator_at text ≡ Some cut → IsFound operators text cut
unfolding operator_at
cut_sound text cut e = among_sound operators text cut refl e

-- ---- operands

star_sound : (text : List ℕ) → is_star text ≡ true → (text ≡ codes ".*" ++ drop 2 text) × (list_all is_white (drop 2 text) ≡ true)
star_sound text e =
    let b = and_parts (starts_with nat_eq text (codes ".*")) (list_all is_white (drop 2 text)) e in
    (begins_sound text (codes ".*") b.0, b.1)

pub prefix_of_sound : (text : List ℕ) (p : Prefix) → prefix_of text ≡ Some p → SpellsPrefix text p
unfolding prefix_of
prefix_of_sound text p e =
    let w = after_white_splits text in
    let a = bind_some (base_at (after_white text)) _ p e in
    let c = cond_some (is_star a.0.1) _ p a.2 in
    let star = star_sound a.0.1 c.0 in
    let b = base_sound (after_white text) a.0 a.1 in
    let after = drop 2 a.0.1 in
    let whole : text ≡ w.0 ++ (b.0 ++ (b.1 ++ (b.2 ++ (codes ".*" ++ after)))) =
    w.1 ∙ ap (λ (t : List ℕ). w.0 ++ t) (b.3 ∙ ap (λ (t : List ℕ). b.0 ++ (b.1 ++ (b.2 ++ t))) star.0) in
    let made : SpellsPrefix text (record { epoch = a.0.0.0; release = a.0.0.1 }) = record {
      before = w.0;
      prefix = b.0;
      epoch = b.1;
      release = b.2;
      after = after;
      whole = whole;
      is_before = w.2;
      is_prefix = b.4;
      is_epoch = b.5;
      is_release = b.6;
      is_after = star.1;
    } in
    subst (SpellsPrefix text) c.1 made

public_sound : (text : List ℕ) (v : Parts) → public_version_of text ≡ Some v → Spells text v × (v.local ≡ [])
unfolding public_version_of
public_sound text v e =
    let a = bind_some (version_of text) _ v e in
    let c = cond_some (length a.0.local == 0) a.0 v a.2 in
    let made : Spells text a.0 × (a.0.local ≡ []) = (version_sound text a.0 a.1, nil_from_length a.0.local (eqb-true (length a.0.local) 0 c.0)) in
    subst (λ (p : Parts). Spells text p × (p.local ≡ [])) c.1 made

compatible_sound : (text : List ℕ) (v : Parts) → compatible_version_of text ≡ Some v → Spells text v × (v.local ≡ []) × (2 ≤ length v.release)
unfolding compatible_version_of
compatible_sound text v e =
    let a = bind_some (public_version_of text) _ v e in
    let c = cond_some (nat_le 2 (length a.0.release)) a.0 v a.2 in
    let p = public_sound text a.0 a.1 in
    let made : Spells text a.0 × (a.0.local ≡ []) × (2 ≤ length a.0.release) = (p.0, p.1, grind (arith, nat_tests, c.0)) in
    subst (λ (p : Parts). Spells text p × (p.local ≡ []) × (2 ≤ length p.release)) c.1 made

arbitrary_sound : (text label : List ℕ) → arbitrary_text_of text ≡ Some label → SpellsArbitrary text label
unfolding arbitrary_text_of
arbitrary_sound text label e =
    let w = after_white_splits text in
    let t = after_white text in
    let n = prefix_len is_arbitrary_byte t in
    let c = cond_some (nat_lt 0 n && list_all is_white (drop n t)) (take n t) label e in
    let b = and_parts (nat_lt 0 n) (list_all is_white (drop n t)) c.0 in
    let some : 1 ≤ n = grind (arith, nat_tests, b.0) in
    let made : SpellsArbitrary text (take n t) = record {
      before = w.0;
      after = drop n t;
      whole = w.1 ∙ ap (λ (r : List ℕ). w.0 ++ r) (sym (take-append-drop n t));
      is_before = w.2;
      not_empty = omega (arith, length-prefix_len is_arbitrary_byte t, some);
      allowed = list_all_prefix is_arbitrary_byte t;
      is_after = b.1;
    } in
    subst (SpellsArbitrary text) c.1 made

-- what the operand of an operator is
abbrev pub IsRead : Operator → List ℕ → Specifier → Type 0
IsRead o text s = (operator_of s ≡ o) × IsOperand text s

read_public_version : (make : Parts → Specifier) (o : Operator) (text : List ℕ) (s : Specifier)
    → ((v : Parts) → Spells text v × (v.local ≡ []) → IsRead o text (make v)) → option_map make (public_version_of text) ≡ Some s → IsRead o text s
read_public_version make o text s h e =
    let m = map_some (public_version_of text) make s e in
    subst (IsRead o text) m.2 (h m.0 (public_sound text m.0 m.1))

read_either : (make_prefix : Prefix → Specifier) (make : Parts → Specifier) (o : Operator) (text : List ℕ) (s : Specifier)
    → ((p : Prefix) → SpellsPrefix text p → IsRead o text (make_prefix p)) → ((v : Parts) → Spells text v → IsRead o text (make v))
    → either (option_map make_prefix (prefix_of text)) (option_map make (version_of text)) ≡ Some s → IsRead o text s
read_either make_prefix make o text s h k e = elim (either_some (option_map make_prefix (prefix_of text)) (option_map make (version_of text)) s e) [
  | inl a ↦ let m = map_some (prefix_of text) make_prefix s a in subst (IsRead o text) m.2 (h m.0 (prefix_of_sound text m.0 m.1))
  | inr b ↦ let m = map_some (version_of text) make s b in subst (IsRead o text) m.2 (k m.0 (version_sound text m.0 m.1))
]

pub operand_sound : (o : Operator) (text : List ℕ) (s : Specifier) → operand_of o text ≡ Some s → IsRead o text s
unfolding operand_of
operand_sound operator.Equal text s e = read_either EqualPrefix Equal operator.Equal text s (λ p h. (refl, h)) (λ v h. (refl, h)) e
operand_sound operator.NotEqual text s e = read_either NotEqualPrefix NotEqual operator.NotEqual text s (λ p h. (refl, h)) (λ v h. (refl, h)) e
operand_sound operator.AtMost text s e = read_public_version AtMost operator.AtMost text s (λ v h. (refl, h)) e
operand_sound operator.AtLeast text s e = read_public_version AtLeast operator.AtLeast text s (λ v h. (refl, h)) e
operand_sound operator.Before text s e = read_public_version Before operator.Before text s (λ v h. (refl, h)) e
operand_sound operator.After text s e = read_public_version After operator.After text s (λ v h. (refl, h)) e
operand_sound operator.Compatible text s e =
    let m = map_some (compatible_version_of text) Compatible s e in
    subst (IsRead operator.Compatible text) m.2 (refl, compatible_sound text m.0 m.1)
operand_sound operator.Arbitrary text s e =
    let m = map_some (arbitrary_text_of text) Arbitrary s e in
    subst (IsRead operator.Arbitrary text) m.2 (refl, arbitrary_sound text m.0 m.1)

-- ---- specifiers and sets

pub specifier_sound : (piece : List ℕ) (s : Specifier) → specifier_of piece ≡ Some s → IsSpecifier piece s
unfolding specifier_of
specifier_sound piece s e =
    let w = after_white_splits piece in
    let a = bind_some (operator_at (after_white piece)) _ s e in
    let cut = a.0 in
    let f = cut_sound (after_white piece) cut a.1 in
    let r = operand_sound cut.0 cut.1 s a.2 in
    let same : operator_text (operator_of s) ≡ operator_text cut.0 = ap operator_text r.0 in
    let behind : operator_text (operator_of s) ++ cut.1 ≡ after_white piece = ap (λ (t : List ℕ). t ++ cut.1) same ∙ sym f.0 in
    record {
      before = w.0;
      operand = cut.1;
      whole = w.1 ∙ ap (λ (t : List ℕ). w.0 ++ t) (sym behind);
      is_before = w.2;
      is_operand = r.1;
      longest = λ other begins.
          rw same (f.1 other (each_operator other) (ap (λ (t : List ℕ). starts_with nat_eq t (operator_text other)) (sym behind) ∙ begins));
    }

pieces_sound : (pieces : List (List ℕ)) (specifiers : List Specifier) → specifiers_of pieces ≡ Some specifiers → ArePieces pieces specifiers
unfolding specifiers_of
pieces_sound [] specifiers e = let same : [] ≡ specifiers = cc in subst (ArePieces []) same no_pieces
pieces_sound (piece ∷ rest) specifiers e = elim (cases_Bool (list_all is_white piece)) [
  | inl blank ↦
      let later : specifiers_of rest ≡ Some specifiers = rw blank at e in
      blank_piece piece rest specifiers blank (pieces_sound rest specifiers later)
  | inr other ↦
      let read = bind_some (specifier_of piece) (λ s. option_map (λ others. s ∷ others) (specifiers_of rest)) specifiers (rw other at e) in
      let m = map_some (specifiers_of rest) (λ (others : List Specifier). read.0 ∷ others) specifiers read.2 in
      subst (ArePieces (piece ∷ rest)) m.2 (specifier_piece piece rest read.0 m.0 (specifier_sound piece read.0 read.1) (pieces_sound rest m.0 m.1))
]

-- the specifiers that are read are those of the text
pub set_sound : (text : List ℕ) (specifiers : List Specifier) → set_of text ≡ Some specifiers → SetText text specifiers
unfolding set_of
set_sound text specifiers e = pieces_sound _ specifiers e
