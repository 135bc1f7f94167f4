-- What is shown of a text is UTF-8, and so are its lines.
use Rattle.std.proofs.Common.{◌≡◌, ◌<◌, ◌^◌, ℕ, zero, suc, true, List, [], ◌∷◌, ◌++◌, replicate, arith, refl, inl, inr}
use Rattle.std.proofs.Math.Utf8.{scalar, scalar_fits, scalars}
use Rattle.std.proofs.lemmas.Bool.{and_parts, cases_Bool}
use Rattle.std.proofs.lemmas.Bool.Decides.{nat_tests}
use Rattle.std.proofs.lemmas.Fmt.{digits_is_IsNumeral}
use Rattle.std.proofs.lemmas.Str.{IsUtf8-append, IsUtf8-encode, IsUtf8-from_ascii, IsUtf8-nil, scalars-chars}
use Rattle.std.proofs.lemmas.Str.Ascii.{IsAscii-cons, IsAscii-nil}
use Rattle.std.specs.Char.{digit_value}
use Rattle.std.specs.Fmt.{digits}
use Rattle.std.specs.List.{flat_map, list_all}
use Rattle.std.specs.Prelude.{codes, false, nat_lt}
use Rattle.std.specs.Str.{IsAscii, IsUtf8, chars}
use Rattle.std.specs.Str.Parse.{AllDigits}
use Rattle.pylock_pointed.specs.Lines.{lines}
use Rattle.pylock_shown.specs.Visible.{control_text, is_control, visible, visible_character}

digit_low : (c : ℕ) → digit_value c < 16 → c < 128
digit_low c digit = grind (arith, nat_tests)

digits_ascii : (ds : List ℕ) → AllDigits 16 ds → IsAscii ds
digits_ascii [] all = IsAscii-nil
digits_ascii (d ∷ ds) all = IsAscii-cons d ds (digit_low d all.0) (digits_ascii ds all.1)

low_ascii : (bs : List ℕ) → list_all (λ b. nat_lt b 128) bs ≡ true → IsAscii bs
low_ascii [] low = IsAscii-nil
low_ascii (b ∷ bs) low =
    let (here, more) = and_parts (nat_lt b 128) (list_all (λ b. nat_lt b 128) bs) low in
    let small : b < 128 = grind (arith, nat_tests) in
    IsAscii-cons b bs small (low_ascii bs more)

low_utf8 : (bs : List ℕ) → list_all (λ b. nat_lt b 128) bs ≡ true → IsUtf8 bs
low_utf8 bs low = IsUtf8-from_ascii bs (low_ascii bs low)

control_utf8 : (c : ℕ) → c < 16 ^ 64 → IsUtf8 (control_text c)
control_utf8 c fits =
    let number = IsUtf8-from_ascii (digits 16 false c) (digits_ascii (digits 16 false c) (digits_is_IsNumeral 16 false (omega arith) (omega arith) c fits).0.1) in
    IsUtf8-append (codes "\\u{") (digits 16 false c ++ codes "}") (low_utf8 (codes "\\u{") refl) (IsUtf8-append (digits 16 false c) (codes "}") number (low_utf8 (codes "}") refl))

character_utf8 : (c : ℕ) → scalar c ≡ true → IsUtf8 (visible_character c)
character_utf8 c ok = elim (cases_Bool (is_control c)) [
  | inl control ↦ rw control (let small = scalar_fits c ok in control_utf8 c (omega arith))
  | inr other ↦ rw other (IsUtf8-encode c ok)
]

characters_utf8 : (cs : List ℕ) → scalars cs ≡ true → IsUtf8 (flat_map visible_character cs)
characters_utf8 [] ok = IsUtf8-nil
characters_utf8 (c ∷ cs) ok =
    let (here, more) = and_parts (scalar c) (scalars cs) ok in
    IsUtf8-append (visible_character c) (flat_map visible_character cs) (character_utf8 c here) (characters_utf8 cs more)

pub visible_utf8 : (text : List ℕ) → IsUtf8 text → IsUtf8 (visible text)
visible_utf8 text utf8 = characters_utf8 (chars text) (scalars-chars text utf8)

-- ---- the lines

repeated_ascii : (count byte : ℕ) → byte < 128 → IsAscii (replicate count byte)
repeated_ascii zero byte low = IsAscii-nil
repeated_ascii (suc count) byte low = IsAscii-cons byte (replicate count byte) low (repeated_ascii count byte low)

repeated_utf8 : (count byte : ℕ) → byte < 128 → IsUtf8 (replicate count byte)
repeated_utf8 count byte low = IsUtf8-from_ascii (replicate count byte) (repeated_ascii count byte low)

pub lines_utf8 : (text : List ℕ) (before within : ℕ) → IsUtf8 text → IsUtf8 (lines (visible text) before within)
lines_utf8 text before within utf8 =
    IsUtf8-append _ _ (low_utf8 (codes "    ") refl)
    (IsUtf8-append _ _ (visible_utf8 text utf8)
    (IsUtf8-append _ _ (low_utf8 (codes "\n    ") refl)
    (IsUtf8-append _ _ (repeated_utf8 before 32 (omega arith))
    (IsUtf8-append _ _ (repeated_utf8 within 126 (omega arith)) (low_utf8 (codes "^") refl)))))
