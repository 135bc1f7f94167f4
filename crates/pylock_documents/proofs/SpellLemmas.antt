-- What a reader of JSON makes of a piece of a string in which control characters are escaped.
use Rattle.std.proofs.Common.{◌≡◌, ◌<◌, ◌≤◌, ◌+◌, ◌/◌, ◌%◌, ◌-◌, ◌==◌, ℕ, zero, suc, Bool, true, false, cond, List, [], ◌∷◌, ◌++◌, length, get_or, flat_map, Option, None, Some, IsUtf8, inl, inr, refl, sym, ap, ◌∙◌, subst, arith, append_assoc, append-nil, nat_lt}
use Rattle.std.proofs.lemmas.Bool.{and_parts, cases_lt, le-ltb, ltb-true, ne_eqb}
use Rattle.std.proofs.lemmas.Bool.Decides.{nat_tests}
use Rattle.std.proofs.lemmas.Grind.{flat_map-append}
use Rattle.std.proofs.lemmas.Str.{IsUtf8-from_ascii, chars-append, digit_value-digit_char, encodes-chars}
use Rattle.std.specs.Char.{digit_char, digit_value, encode_utf8}
use Rattle.std.specs.Char.Escape.{encode_utf16, hex_digit_at}
use Rattle.std.specs.List.{list_all}
use Rattle.std.specs.Str.{IsAscii, chars}
use lib.Utf8.{scalar, scalar_cases}
use Rattle.json.specs.Lex.{Lexeme, Mode, in_string, lex, lex_byte, operator, other, space}
use Rattle.json.specs.Text.{code_unit, content, is_high_surrogate, is_low_surrogate, plain, prepend, surrogate_pair}
use Rattle.json.specs.Word.{is_operator, is_space}
use Rattle.pylock_shown.specs.Inner.Printable.{is_printable}
use Rattle.pylock_shown.proofs.PrintableLemmas.{printable_has_none}
use Rattle.pylock_documents.proofs.SafeLemmas.{spelled}
use Rattle.pylock_documents.specs.Safe.{escaped_unit, safe_character, safe_json}

-- ---- the text of parts

pub safe_append : (a b : List ℕ) → IsUtf8 a → safe_json (a ++ b) ≡ safe_json a ++ safe_json b
safe_append a b u = ap (flat_map safe_character) (chars-append a b u) ∙ flat_map-append safe_character (chars a) (chars b)

ascii : (text : List ℕ) → list_all is_printable text ≡ true → IsAscii text
ascii [] printable i = omega arith
ascii (b ∷ bs) printable zero =
    let (here, more) = and_parts (is_printable b) (list_all is_printable bs) printable in
    let low : b < 127 = ltb-true b 127 (and_parts (nat_lt 31 b) (nat_lt b 127) here).1 in
    omega arith
ascii (b ∷ bs) printable (suc i) =
    ascii bs (and_parts (is_printable b) (list_all is_printable bs) printable).1 i

pub plain_utf8 : (text : List ℕ) → list_all is_printable text ≡ true → IsUtf8 text
plain_utf8 text printable = IsUtf8-from_ascii text (ascii text printable)

-- printable ASCII stays
pub safe_plain : (text : List ℕ) → list_all is_printable text ≡ true → safe_json text ≡ text
safe_plain text printable = spelled (chars text) (printable_has_none text printable) ∙ encodes-chars text (plain_utf8 text printable)

pub plain_first : (text rest : List ℕ) → list_all is_printable text ≡ true → safe_json (text ++ rest) ≡ text ++ safe_json rest
plain_first text rest printable = safe_append text rest (plain_utf8 text printable) ∙ ap (λ t. t ++ safe_json rest) (safe_plain text printable)

-- ---- a piece stands for these bytes, whatever follows

prepend-nil : (r : Option (List ℕ)) → prepend [] r ≡ r
prepend-nil None = refl
prepend-nil (Some s) = refl

prepend-prepend : (a b : List ℕ) (r : Option (List ℕ)) → prepend a (prepend b r) ≡ prepend (a ++ b) r
prepend-prepend a b None = refl
prepend-prepend a b (Some s) = ap Some (sym (append_assoc a b s))

pub record Spells (piece bytes : List ℕ) : Type 0 where
  pub read : (r : List ℕ) → content plain (piece ++ r) ≡ prepend bytes (content plain r)
  pub lexed : (r : List ℕ) → lex in_string (piece ++ r) ≡ lex in_string r

pub nothing : Spells [] []
nothing = record { read = λ r. sym (prepend-nil (content plain r)); lexed = λ r. refl }

pub both : (p q a b : List ℕ) → Spells p a → Spells q b → Spells (p ++ q) (a ++ b)
both p q a b first last =
    record {
      read = λ r. ap (content plain) (append_assoc p q r) ∙ first.read (q ++ r) ∙ ap (prepend a) (last.read r) ∙ prepend-prepend a b (content plain r);
      lexed = λ r. ap (lex in_string) (append_assoc p q r) ∙ first.lexed (q ++ r) ∙ last.lexed r;
    }

stays_inside : (o s : Bool) (x : ℕ) (r : List ℕ) (k : Mode → List Lexeme) → lex_byte in_string (cond o operator (cond s space other)) x r k ≡ k in_string
stays_inside true s x r k = refl
stays_inside false true x r k = refl
stays_inside false false x r k = refl

pub byte : (x : ℕ) → (x ≡ 34 → ⊥) → (x ≡ 92 → ⊥) → 32 ≤ x → Spells (x ∷ []) (x ∷ [])
unfolding content lex
byte x q b l =
    record {
      read = λ r. rw (ne_eqb x 34 q, ne_eqb x 92 b, le-ltb x 32 l) refl;
      lexed = λ r. rw (ne_eqb x 34 q, ne_eqb x 92 b) (stays_inside (is_operator x) (is_space x) x r (λ m. lex m r));
    }

pub high_bytes : (xs : List ℕ) → ((k : ℕ) → k < length xs → 127 ≤ get_or xs k 0) → Spells xs xs
high_bytes [] h = nothing
high_bytes (x ∷ xs) h =
    let high : 127 ≤ x = h 0 (omega arith) in
    both (x ∷ []) xs (x ∷ []) xs (byte x (λ e. omega arith) (λ e. omega arith) (omega arith)) (high_bytes xs (λ k below. h (suc k) (omega arith)))

-- ---- a code unit

digit_below : (n : ℕ) → nat_lt (n % 16) 16 ≡ true
digit_below n = grind (arith, nat_tests)

digit_is : (n : ℕ) → digit_value (digit_char (n % 16)) ≡ n % 16
digit_is n = digit_value-digit_char (n % 16) (omega arith)

unit_is : (u : ℕ) → u < 65536 → code_unit (hex_digit_at 4096 u) (hex_digit_at 256 u) (hex_digit_at 16 u) (hex_digit_at 1 u) ≡ Some u
unfolding code_unit
unit_is u small =
    rw (digit_is (u / 4096), digit_is (u / 256), digit_is (u / 16), digit_is (u / 1), digit_below (u / 4096), digit_below (u / 256), digit_below (u / 16), digit_below (u / 1))
    (ap Some (omega (arith, small)))

digit_inside : (n : ℕ) (r : List ℕ) → lex in_string (digit_char (n % 16) ∷ r) ≡ lex in_string r
unfolding lex
digit_inside n r =
    let d = digit_char (n % 16) in
    let quote : (d == 34) ≡ false = grind (arith, nat_tests) in
    let back : (d == 92) ≡ false = grind (arith, nat_tests) in
    rw (quote, back) (stays_inside (is_operator d) (is_space d) d r (λ m. lex m r))

unit_inside : (u : ℕ) (r : List ℕ) → lex in_string (escaped_unit u ++ r) ≡ lex in_string r
unfolding lex
unit_inside u r =
    let a = hex_digit_at 4096 u in let b = hex_digit_at 256 u in let c = hex_digit_at 16 u in let d = hex_digit_at 1 u in
    digit_inside (u / 4096) (b ∷ c ∷ d ∷ r) ∙ digit_inside (u / 256) (c ∷ d ∷ r) ∙ digit_inside (u / 16) (d ∷ r) ∙ digit_inside (u / 1) r

-- one that is no surrogate
pub unit : (u : ℕ) → u < 65536 → is_high_surrogate u ≡ false → is_low_surrogate u ≡ false → Spells (escaped_unit u) (encode_utf8 u)
unfolding content
unit u small high low =
    record {
      read = λ r. rw (unit_is u small, high, low) refl;
      lexed = unit_inside u;
    }

-- a pair of them
pair : (h l : ℕ) → h < 65536 → l < 65536 → is_high_surrogate h ≡ true → is_low_surrogate l ≡ true
    → Spells (escaped_unit h ++ escaped_unit l) (encode_utf8 (surrogate_pair h l))
unfolding content
pair h l first last high low =
    record {
      read = λ r. rw (unit_is h first, high, unit_is l last, low) refl;
      lexed = λ r. unit_inside h (escaped_unit l ++ r) ∙ unit_inside l r;
    }

-- a character by its code units
pub units : (c : ℕ) → scalar c ≡ true → Spells (flat_map escaped_unit (encode_utf16 c)) (encode_utf8 c)
units c ok = elim (cases_lt c 65536) [
  | inl small ↦
      let one : nat_lt c 65536 ≡ true = grind (arith, nat_tests) in
      let apart = scalar_cases c ok in
      let high : is_high_surrogate c ≡ false = elim apart [ inl l ↦ grind (arith, nat_tests) | inr l ↦ let (least, most) = l in grind (arith, nat_tests) ] in
      let low : is_low_surrogate c ≡ false = elim apart [ inl l ↦ grind (arith, nat_tests) | inr l ↦ let (least, most) = l in grind (arith, nat_tests) ] in
      rw one (subst (λ t. Spells t (encode_utf8 c)) (append-nil (escaped_unit c)) (unit c small high low))
  | inr large ↦
      let two : nat_lt c 65536 ≡ false = grind (arith, nat_tests) in
      let most : c < 1114112 = elim (scalar_cases c ok) [ inl l ↦ omega arith | inr l ↦ l.1 ] in
      let h = 55296 + (c - 65536) / 1024 in
      let l = 56320 + (c - 65536) % 1024 in
      let high : is_high_surrogate h ≡ true = grind (arith, nat_tests) in
      let low : is_low_surrogate l ≡ true = grind (arith, nat_tests) in
      let is : surrogate_pair h l ≡ c = omega arith in
      rw two (subst (λ t. Spells (escaped_unit h ++ t) (encode_utf8 c)) (append-nil (escaped_unit l))
      (subst (λ d. Spells (escaped_unit h ++ escaped_unit l) (encode_utf8 d)) is (pair h l (omega arith) (omega arith) high low)))
]
