-- What a terminal is given steers it nowhere.
use Rattle.std.proofs.Common.{◌≡◌, ◌∙◌, ◌<◌, ◌≤◌, ◌+◌, ◌/◌, ◌%◌, ◌++◌, ◌∷◌, ◌||◌, ◌&&◌, ◌==◌, Bool, ℕ, zero, suc, true, false, cond, not, List, [], ap, append-nil, sym, arith, flat_map, nat_lt, refl}
use Rattle.std.proofs.lemmas.Bool.{and_parts}
use Rattle.std.proofs.lemmas.Bool.Decides.{nat_tests}
use Rattle.std.proofs.lemmas.Str.{chars-nil, chars-append, chars-IsAscii, chars_past_char, IsUtf8-encode, IsUtf8-from_ascii, scalars-chars}
use Rattle.std.proofs.lemmas.List.Folds.{list_any-append}
use lib.Utf8.{scalar}
use Rattle.std.specs.Char.{encode_utf8, IsScalar}
use Rattle.std.specs.Fmt.{digits, digits_onto, digit_glyph}
use Rattle.std.specs.List.{list_any, AllByRecursion}
use Rattle.std.specs.Str.{IsAscii, IsUtf8, all_scalars, chars}
use Rattle.ucd_category.proofs.Computing.{ucd_category}
use Rattle.ucd_category.proofs.GeneralCategoryLemmas.{general_category_stepped}
use Rattle.ucd_category.specs.GeneralCategory.{general_category}
use Rattle.ucd_table.proofs.Facts.{Stepped-below}
use Rattle.pylock_shown.specs.Visible.{control_text, is_control, steers}
use Rattle.pylock_run.specs.Stream.Terminal.{steers_terminal, terminal_character, terminal_text}

-- computed over the table
either_not : (b : ℕ) → b < 127 → (not (nat_lt 31 b) || not (is_control b)) ≡ true
unfolding ucd_category
either_not b below =
    Stepped-below general_category general_category_stepped (λ x v. not (nat_lt 31 x) || not (steers v)) 127 refl b below

-- a printable character of ASCII steers nothing
printable_is_none : (b : ℕ) → 32 ≤ b → b ≤ 126 → steers_terminal b ≡ false
printable_is_none b above below =
    let test = either_not b (omega (arith, below)) in
    let high : nat_lt 31 b ≡ true = grind (arith, nat_tests) in
    ap (λ t. t && not (b == 9 || b == 10)) (none (is_control b) (rw high at test))
  where
    none : (t : Bool) → (false || not t) ≡ true → t ≡ false
    none true is = absurd cc
    none false is = refl

abbrev pub Printable : List ℕ → Type 0
Printable text = AllByRecursion (λ b. (32 ≤ b) × (b ≤ 126)) text

either : (t : Bool) (x y : List ℕ) → Printable x → Printable y → Printable (cond t x y)
either true x y first second = first
either false x y first second = second

glyph_of : (d : ℕ) (t : Bool) → d < 16 → (32 ≤ cond t (48 + d) (87 + d)) × (cond t (48 + d) (87 + d) ≤ 126)
glyph_of d true below = (omega arith, omega (arith, below))
glyph_of d false below = (omega arith, omega (arith, below))

glyph : (n : ℕ) → (32 ≤ digit_glyph false (n % 16)) × (digit_glyph false (n % 16) ≤ 126)
glyph n = glyph_of (n % 16) (nat_lt (n % 16) 10) (omega arith)

digits_printable : (k n : ℕ) (acc : List ℕ) → Printable acc → Printable (digits_onto k 16 false n acc)
digits_printable zero n acc printable = printable
digits_printable (suc k) n acc printable =
    let next : Printable (digit_glyph false (n % 16) ∷ acc) = (glyph n, printable) in
    either (n / 16 == 0) (digit_glyph false (n % 16) ∷ acc) (digits_onto k 16 false (n / 16) (digit_glyph false (n % 16) ∷ acc))
    next (digits_printable k (n / 16) (digit_glyph false (n % 16) ∷ acc) next)

both : (xs ys : List ℕ) → Printable xs → Printable ys → Printable (xs ++ ys)
both [] ys first second = second
both (x ∷ xs) ys first second = (first.0, both xs ys first.1 second)

number_printable : (c : ℕ) → Printable (control_text c)
unfolding digits
number_printable c =
    let end : Printable (125 ∷ []) = ((omega arith, omega arith), tt) in
    let inside : Printable (digits 16 false c ++ 125 ∷ []) = both (digits 16 false c) (125 ∷ []) (digits_printable 64 c [] tt) end in
    let brace : Printable (123 ∷ (digits 16 false c ++ 125 ∷ [])) = ((omega arith, omega arith), inside) in
    let letter : Printable (117 ∷ 123 ∷ (digits 16 false c ++ 125 ∷ [])) = ((omega arith, omega arith), brace) in
    ((omega arith, omega arith), letter)

ascii : (text : List ℕ) → Printable text → IsAscii text
ascii [] printable i = omega arith
ascii (b ∷ bs) printable zero = omega (arith, printable.0.1)
ascii (b ∷ bs) printable (suc i) = ascii bs printable.1 i

none_of : (text : List ℕ) → Printable text → list_any steers_terminal text ≡ false
none_of [] printable = refl
none_of (b ∷ bs) printable = rw (printable_is_none b printable.0.0 printable.0.1, none_of bs printable.1) refl

-- what is given for one character is a text without such a character
pub record Harmless (text : List ℕ) : Type 0 where
  pub utf8 : IsUtf8 text
  pub none : list_any steers_terminal (chars text) ≡ false

of_printable : (text : List ℕ) → Printable text → Harmless text
of_printable text printable = record {
  utf8 = IsUtf8-from_ascii text (ascii text printable);
  none = ap (list_any steers_terminal) (chars-IsAscii text (ascii text printable)) ∙ none_of text printable;
}

of_other : (c : ℕ) → IsScalar c → steers_terminal c ≡ false → Harmless (encode_utf8 c)
of_other c scalar other = record {
  utf8 = IsUtf8-encode c scalar;
  none = ap (list_any steers_terminal) (chars_past_char (encode_utf8 c) [] c (IsUtf8-encode c scalar) (sym (append-nil (encode_utf8 c))))
      ∙ ap (λ cs. list_any steers_terminal (c ∷ cs)) chars-nil ∙ ap (λ t. t || false) other;
}

chosen : (c : ℕ) (t : Bool) → IsScalar c → steers_terminal c ≡ t → Harmless (cond t (control_text c) (encode_utf8 c))
chosen c true scalar is = of_printable (control_text c) (number_printable c)
chosen c false scalar is = of_other c scalar is

of_character : (c : ℕ) → IsScalar c → Harmless (terminal_character c)
of_character c scalar = chosen c (steers_terminal c) scalar refl

neither : (s t : Bool) → s ≡ false → t ≡ false → (s || t) ≡ false
neither s t first second = rw (first, second) refl

of_characters : (cs : List ℕ) → all_scalars cs ≡ true → list_any steers_terminal (chars (flat_map terminal_character cs)) ≡ false
of_characters [] scalars = ap (list_any steers_terminal) chars-nil
of_characters (c ∷ cs) scalars =
    let (here, more) = and_parts (scalar c) (all_scalars cs) scalars in
    let one = of_character c here in
    ap (list_any steers_terminal) (chars-append (terminal_character c) (flat_map terminal_character cs) one.utf8)
    ∙ list_any-append steers_terminal (chars (terminal_character c)) (chars (flat_map terminal_character cs))
    ∙ neither _ _ one.none (of_characters cs more)

pub terminal_text_steers_nothing : (text : List ℕ) → IsUtf8 text → list_any steers_terminal (chars (terminal_text text)) ≡ false
terminal_text_steers_nothing text utf8 = of_characters (chars text) (scalars-chars text utf8)
