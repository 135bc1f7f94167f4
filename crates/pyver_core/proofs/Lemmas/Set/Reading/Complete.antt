-- The specifier set that a text writes is what is read of it.
use Rattle.std.proofs.Common.{◌≡◌, ℕ, ◌<◌, ◌≤◌, Bool, true, false, List, [], ◌++◌, length, take, drop, Some, None, refl, sym, ap, ◌∙◌, arith, inl, inr}
use Rattle.std.specs.Prelude.{◌==◌, ◌&&◌, codes, nat_eq, nat_le, nat_lt}
use Rattle.std.specs.Char.{is_ascii_digit}
use Rattle.std.specs.List.{list_all, prefix_len, starts_with}
use Rattle.std.proofs.lemmas.Bool.Decides.{nat_tests}
use Rattle.std.proofs.lemmas.List.Folds.{list_all-append}
use Rattle.std.proofs.lemmas.Option.{same_Some}
use Rattle.pytext.specs.Bytes.{is_white, starts}
use Rattle.pyver_core.specs.Version.Grammar.{Spells}
use Rattle.pyver_core.specs.Version.Parts.{Parts}
use Rattle.pyver_core.specs.Set.Prefix.{Prefix}
use Rattle.pytext.specs.White.{after_white}
use Rattle.pyver_core.specs.Version.Reading.{added_segment_at, base_at, dashed_number_at, dashed_or_tagged_post_at, dotted_number_at, local_at, parts_at, after_post_word, pre_word_at, tagged_dev_at, tagged_post_at, tagged_pre_at, version_of}
use Rattle.pyver_core.specs.Set.Grammar.{ArePieces, IsOperand, IsSpecifier, SetText, SpellsArbitrary, SpellsPrefix, blank_piece, is_arbitrary_byte, no_pieces, specifier_piece}
use Rattle.pyver_core.specs.Set.Reading.{arbitrary_text_of, compatible_version_of, operand_of, operator_at, prefix_of, public_version_of, set_of, specifier_of, specifiers_of}
use Rattle.pyver_core.specs.Set.Normal.{operator_of, operator_text}
use Rattle.pyver_core.specs.declared.set.specifier.Operator.{Operator}
use Rattle.pyver_core.specs.declared.set.specifier.Operator.TheVariants as operator
use Rattle.pyver_core.specs.declared.set.specifier.Specifier.{Specifier}
use Rattle.pyver_core.specs.declared.set.specifier.Specifier.TheVariants.{Equal, EqualPrefix, NotEqual, NotEqualPrefix, AtMost, AtLeast, Before, After, Compatible, Arbitrary}
use Rattle.pytext.proofs.BytesLemmas.{drop_exact, prefix_len_exact, starts_all, take_exact}
use Rattle.pytext.proofs.WhiteLemmas.{after_white_exact}
use Rattle.pyver_core.proofs.Lemmas.Version.Reading.Complete.Whole.{base_complete, body_digit, prefix_not_white, starts_other, version_complete}
use Rattle.pyver_core.proofs.Lemmas.Version.Reading.FirstBytes.{all_white_begins, begins_not, whites}
use Rattle.pyver_core.proofs.Lemmas.Set.Reading.Sound.{prefix_of_sound}
use Rattle.pytext.proofs.OptionsLemmas.{option_cases}
use Rattle.std.proofs.lemmas.Bool.{and_right, cases_Bool}

-- ---- operators

-- no longer operator stands there than the longest
abbrev IsLongest : Operator → List ℕ → Type 0
IsLongest o rest = (other : Operator) → starts_with nat_eq (operator_text o ++ rest) (operator_text other) ≡ true
    → length (operator_text other) ≤ length (operator_text o)

lacks_longer : (o other : Operator) (rest : List ℕ) → IsLongest o rest → length (operator_text o) < length (operator_text other)
    → starts_with nat_eq (operator_text o ++ rest) (operator_text other) ≡ false
lacks_longer o other rest longest longer = elim (cases_Bool (starts_with nat_eq (operator_text o ++ rest) (operator_text other))) [
  | inl begins ↦ let short = longest other begins in absurd (omega arith)
  | inr lacking ↦ lacking
]

operator_complete : (o : Operator) (rest : List ℕ) → IsLongest o rest → operator_at (operator_text o ++ rest) ≡ Some (o, rest)
unfolding operator_at
operator_complete operator.Equal rest longest = rw (lacks_longer operator.Equal operator.Arbitrary rest longest (omega arith)) refl
operator_complete operator.Before rest longest = rw (lacks_longer operator.Before operator.AtMost rest longest (omega arith)) refl
operator_complete operator.After rest longest = rw (lacks_longer operator.After operator.AtLeast rest longest (omega arith)) refl
operator_complete o rest longest = refl

operator_not_white : (o : Operator) (rest : List ℕ) → (starts is_white (operator_text o ++ rest) ≡ false) × (list_all is_white (operator_text o ++ rest) ≡ false)
operator_not_white operator.Arbitrary rest = (refl, refl)
operator_not_white o rest = (refl, refl)

-- ---- operands

-- the epoch and the release of a prefix are read, and `.*` is left
prefix_base : (text : List ℕ) (p : Prefix) (s : SpellsPrefix text p) → base_at (after_white text) ≡ Some ((p.epoch, p.release), codes ".*" ++ s.after)
unfolding dotted_number_at
prefix_base text p s =
    let next = codes ".*" ++ s.after in
    let body = s.epoch ++ (s.release ++ next) in
    let digit : starts is_ascii_digit body ≡ true = body_digit s.epoch s.release next p.epoch p.release s.is_epoch s.is_release in
    let white : after_white text ≡ s.prefix ++ body = ap after_white s.whole
    ∙ after_white_exact s.before (s.prefix ++ body) s.is_before (prefix_not_white s.prefix body s.is_prefix digit) in
    ap base_at white ∙ base_complete s.prefix s.epoch s.release next p.epoch p.release s.is_prefix s.is_epoch s.is_release refl refl refl

prefix_of_complete : (text : List ℕ) (p : Prefix) → SpellsPrefix text p → prefix_of text ≡ Some p
unfolding prefix_of
prefix_of_complete text p s = rw (prefix_base text p s, s.is_after) refl

-- no part of a version stands at `.*`
star_is_left : (base : ℕ × List ℕ) (after : List ℕ) → (parts_at base (codes ".*" ++ after)).1 ≡ codes ".*" ++ after
unfolding parts_at tagged_pre_at pre_word_at dashed_or_tagged_post_at dashed_number_at tagged_post_at after_post_word tagged_dev_at local_at added_segment_at
star_is_left base after = refl

-- a text that spells a version is no prefix
no_prefix : (text : List ℕ) (v : Parts) → Spells text v → prefix_of text ≡ None
unfolding version_of
no_prefix text v s = elim (option_cases (prefix_of text)) [
  | inl none ↦ none
  | inr some ↦
      let p = prefix_of_sound text some.0 some.1 in
      let base : ℕ × List ℕ = (some.0.epoch, some.0.release) in
      let left : list_all is_white (parts_at base (codes ".*" ++ p.after)).1 ≡ false = ap (list_all is_white) (star_is_left base p.after) in
      let none : version_of text ≡ None = rw (prefix_base text some.0 p, left) refl in
      absurd (let both : None ≡ Some v = sym none ∙ version_complete text v s in cc)
]

public_complete : (text : List ℕ) (v : Parts) → Spells text v → v.local ≡ [] → public_version_of text ≡ Some v
unfolding public_version_of
public_complete text v s none =
    let empty : (length v.local == 0) ≡ true = ap (λ (l : List _). length l == 0) none in
    rw (version_complete text v s, empty) refl

compatible_complete : (text : List ℕ) (v : Parts) → Spells text v → v.local ≡ [] → 2 ≤ length v.release → compatible_version_of text ≡ Some v
unfolding compatible_version_of
compatible_complete text v s none two =
    let enough : nat_le 2 (length v.release) ≡ true = grind (arith, nat_tests) in rw (public_complete text v s none, enough) refl

arbitrary_not_white : (b : ℕ) → is_arbitrary_byte b ≡ true → is_white b ≡ false
arbitrary_not_white b e = grind (arith, nat_tests)

arbitrary_complete : (text label : List ℕ) → SpellsArbitrary text label → arbitrary_text_of text ≡ Some label
unfolding arbitrary_text_of
arbitrary_complete text label s =
    let stops : starts is_arbitrary_byte s.after ≡ false = begins_not is_arbitrary_byte whites refl s.after (all_white_begins s.after s.is_after) in
    let begins : starts is_arbitrary_byte (label ++ s.after) ≡ true = starts_all is_arbitrary_byte label s.after s.not_empty s.allowed in
    let white : after_white text ≡ label ++ s.after =
    ap after_white s.whole ∙ after_white_exact s.before (label ++ s.after) s.is_before (starts_other is_arbitrary_byte is_white arbitrary_not_white (label ++ s.after) begins) in
    let len : prefix_len is_arbitrary_byte (label ++ s.after) ≡ length label = prefix_len_exact is_arbitrary_byte label s.after s.allowed stops in
    let dropped : drop (length label) (label ++ s.after) ≡ s.after =
    ap (λ (n : ℕ). drop n (label ++ s.after)) (sym len) ∙ drop_exact is_arbitrary_byte label s.after s.allowed stops in
    let taken : take (length label) (label ++ s.after) ≡ label =
    ap (λ (n : ℕ). take n (label ++ s.after)) (sym len) ∙ take_exact is_arbitrary_byte label s.after s.allowed stops in
    let some : nat_lt 0 (length label) ≡ true = grind (arith, nat_tests, s.not_empty) in
    rw (white, len, dropped, taken, some, s.is_after) refl

pub operand_complete : (s : Specifier) (text : List ℕ) → IsOperand text s → operand_of (operator_of s) text ≡ Some s
unfolding operand_of
operand_complete (Equal v) text h = rw (no_prefix text v h, version_complete text v h) refl
operand_complete (EqualPrefix p) text h = rw (prefix_of_complete text p h) refl
operand_complete (NotEqual v) text h = rw (no_prefix text v h, version_complete text v h) refl
operand_complete (NotEqualPrefix p) text h = rw (prefix_of_complete text p h) refl
operand_complete (AtMost v) text h = rw (public_complete text v h.0 h.1) refl
operand_complete (AtLeast v) text h = rw (public_complete text v h.0 h.1) refl
operand_complete (Before v) text h = rw (public_complete text v h.0 h.1) refl
operand_complete (After v) text h = rw (public_complete text v h.0 h.1) refl
operand_complete (Compatible v) text h = rw (compatible_complete text v h.0 h.1 h.2) refl
operand_complete (Arbitrary label) text h = rw (arbitrary_complete text label h) refl

-- ---- specifiers and sets

pub specifier_complete : (piece : List ℕ) (s : Specifier) → IsSpecifier piece s → specifier_of piece ≡ Some s
unfolding specifier_of
specifier_complete piece s is =
    let o = operator_of s in
    let white : after_white piece ≡ operator_text o ++ is.operand = ap after_white is.whole
    ∙ after_white_exact is.before (operator_text o ++ is.operand) is.is_before (operator_not_white o is.operand).0 in
    rw (white, operator_complete o is.operand is.longest, operand_complete s is.operand is.is_operand) refl

not_blank : (piece : List ℕ) (s : Specifier) → IsSpecifier piece s → list_all is_white piece ≡ false
not_blank piece s is =
    let rest = operator_text (operator_of s) ++ is.operand in
    ap (list_all is_white) is.whole ∙ list_all-append is_white is.before rest
    ∙ and_right (list_all is_white is.before) (list_all is_white rest)
    (operator_not_white (operator_of s) is.operand).1

pieces_complete : (pieces : List (List ℕ)) (specifiers : List Specifier) → ArePieces pieces specifiers → specifiers_of pieces ≡ Some specifiers
unfolding specifiers_of
pieces_complete _ _ no_pieces = refl
pieces_complete _ _ (blank_piece piece rest specifiers blank more) = rw blank (pieces_complete rest specifiers more)
pieces_complete _ _ (specifier_piece piece rest s specifiers is more) =
    rw (not_blank piece s is, specifier_complete piece s is, pieces_complete rest specifiers more) refl

-- the specifiers that a text has are read
pub set_complete : (text : List ℕ) (specifiers : List Specifier) → SetText text specifiers → set_of text ≡ Some specifiers
unfolding set_of
set_complete text specifiers s = pieces_complete _ specifiers s

-- a text has at most one list of specifiers
pub one_set : (text : List ℕ) (s t : List Specifier) → SetText text s → SetText text t → s ≡ t
one_set text s t a b = same_Some s t (sym (set_complete text s a) ∙ set_complete text t b)
