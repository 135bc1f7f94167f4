-- What is hidden of the code of a value is the code of the hidden value.
use Rattle.std.proofs.Common.{◌≡◌, ◌∙◌, ◌++◌, ℕ, ◌+◌, ◌*◌, ◌-◌, ◌/◌, ◌%◌, ◌==◌, ◌<◌, ◌≤◌, ◌^◌, Bool, true, false, cond, codes, List, [], ◌∷◌, length, replicate, Option, Some, None, option_map, ℤ, pos, negsuc, Float, T, FitsSigned, suc, zero, rules, refl, sym, subst, ap, inl, inr, arith, append_assoc, append-nil}
use Rattle.std.proofs.lemmas.Bool.{cases_Bool, false≢true}
use Rattle.std.proofs.lemmas.Bool.Decides.{Decides-eqb, nat_tests}
use Rattle.std.proofs.lemmas.Fmt.{digits_is_IsNumeral}
use Rattle.std.proofs.lemmas.Str.{utf8_lossy-IsUtf8}
use Rattle.std.specs.Str.{IsUtf8}
use Rattle.std.specs.Str.Parse.{AllDigits}
use lib.Ieee.Bits.{to_bits-lt}
use lib.Signed.{mag}
use Rattle.std.specs.Float.{binary64}
use Rattle.std.specs.Float.Ieee.{fits, is_nan, to_bits}
use Rattle.std.specs.Fmt.{decimal, digits, signed_decimal}
use Rattle.std.specs.Int.{w64}
use Rattle.std.specs.List.{flat_map, list_all}
use Rattle.std.specs.Option.{option_map_or}
use Rattle.toml.specs.Data.{Data, string, integer, float, boolean, datetime, array, table, Items, no_items, item, Members, no_members, member}
use Rattle.toml_datetime.specs.declared.datetime.Date.{Date}
use Rattle.toml_datetime.specs.declared.datetime.Time.{Time}
use Rattle.toml_datetime.specs.declared.datetime.Offset.{Offset}
use Rattle.toml_datetime.specs.declared.datetime.Offset.TheVariants.{Z, Custom}
use Rattle.toml_datetime.specs.declared.datetime.Datetime.{Datetime}
use Rattle.toml_datetime.specs.Valid.{magnitude}
use Rattle.toml_parser.specs.Lexical.{is_bare}
use Rattle.pytext.proofs.OptionsLemmas.{option_cases}
use Rattle.pywheel_core.proofs.Lemmas.Texts.Cuts.{cut_says, no_cut_says}
use Rattle.pywheel_core.specs.Texts.{cut_at}
use Rattle.pylock_shown.proofs.MarkLemmas.{before_query, without_query}
use Rattle.pylock_shown.proofs.PlaceLaws.{plain_stays}
use Rattle.pylock_shown.proofs.SlashLemmas.{front_stays, slash_first}
use Rattle.pylock_shown.specs.Hidden.{hidden, hidden_behind_mark, hidden_front, hidden_place, is_slash}
use Rattle.pylock_shown.specs.Parted as parted
use Rattle.pytoml_code.specs.Code.{code, items_code, members_code}
use Rattle.pytoml_code.specs.HiddenValue.{HasTexts, HaveTexts, MembersHaveTexts, hidden_items, hidden_members, hidden_value}
use Rattle.pytoml_code.specs.Proper.{AreProper, HasProper, IfThere, IsDate, IsDatetime, IsOffset, IsProper, IsSmall, IsTime}
use Rattle.pytoml_code.specs.Scalar.{between, date_code, datetime_code, float_word, nanosecond_code, offset_code, padded, part, second_code, sign_of, time_code}
use Rattle.pytoml_code.specs.Shown.{byte_value, digit_value, hidden_code, hidden_string, read_escape, read_number, read_text, shown, plain, with_byte}
use Rattle.pytoml_code.specs.Text.{ended, escaped, hex_digit, is_bare_key, is_control, is_quoting, key_code, quoted}
use Rattle.pytoml_code.proofs.WordLemmas.{Lacks}

-- ---- bytes of a text

digit_back : (n : ℕ) → n < 16 → digit_value (hex_digit n) ≡ n
digit_back n small = grind (arith, nat_tests)

value_back : (b : ℕ) → is_control b ≡ true → byte_value (hex_digit (b / 16)) (hex_digit (b % 16)) ≡ b
value_back b is =
    let small : b < 128 = grind (arith, nat_tests) in
    let high : digit_value (hex_digit (b / 16)) ≡ b / 16 = digit_back (b / 16) (omega arith) in
    let low : digit_value (hex_digit (b % 16)) ≡ b % 16 = digit_back (b % 16) (omega arith) in
    (λ i. (high i * 16 + low i) % 256) ∙ omega arith

read_marked : (b : ℕ) (s : List ℕ) → is_quoting b ≡ true → read_text (92 ∷ b ∷ s) ≡ with_byte b (read_text s)
read_marked b s is =
    let other : (b == 117) ≡ false = grind (arith, nat_tests) in
    ap (λ t. cond t (read_number s) (with_byte b (read_text s))) other

read_plain : (b : ℕ) (s : List ℕ) → is_quoting b ≡ false → read_text (b ∷ s) ≡ with_byte b (read_text s)
read_plain b s lacks =
    let mark : (b == 34) ≡ false = grind (arith, nat_tests) in
    let slash : (b == 92) ≡ false = grind (arith, nat_tests) in
    λ i. cond (mark i) ([], hidden_code s) (cond (slash i) (read_escape s) (with_byte b (read_text s)))

byte_read : (b : ℕ) (s : List ℕ) → read_text (escaped b ++ s) ≡ with_byte b (read_text s)
byte_read b s = elim (cases_Bool (is_quoting b)) [
  | inl is ↦ (λ i. read_text (cond (is i) (92 ∷ b ∷ []) (cond (is_control b) (92 ∷ 117 ∷ 48 ∷ 48 ∷ hex_digit (b / 16) ∷ hex_digit (b % 16) ∷ []) (b ∷ [])) ++ s)) ∙ read_marked b s is
  | inr other ↦ elim (cases_Bool (is_control b)) [
    | inl is ↦ (λ i. read_text (cond (other i) (92 ∷ b ∷ []) (cond (is i) (92 ∷ 117 ∷ 48 ∷ 48 ∷ hex_digit (b / 16) ∷ hex_digit (b % 16) ∷ []) (b ∷ [])) ++ s)) ∙ ap (λ n. with_byte n (read_text s)) (value_back b is)
    | inr lacks ↦ (λ i. read_text (cond (other i) (92 ∷ b ∷ []) (cond (lacks i) (92 ∷ 117 ∷ 48 ∷ 48 ∷ hex_digit (b / 16) ∷ hex_digit (b % 16) ∷ []) (b ∷ [])) ++ s)) ∙ read_plain b s other
  ]
]

text_read : (text s : List ℕ) → read_text (flat_map escaped text ++ 34 ∷ s) ≡ (text, hidden_code s)
text_read [] s = refl
text_read (b ∷ text) s =
    ap read_text (append_assoc (escaped b) (flat_map escaped text) (34 ∷ s))
    ∙ byte_read b (flat_map escaped text ++ 34 ∷ s) ∙ ap (with_byte b) (text_read text s)

quoted_hidden : (text s : List ℕ) → IsUtf8 text → hidden_code (quoted text ++ s) ≡ quoted (hidden text) ++ hidden_code s
quoted_hidden text s utf8 =
    ap (λ read. hidden_string read.0 ++ read.1) (ap read_text (append_assoc (flat_map escaped text) (34 ∷ []) s) ∙ text_read text s)
    ∙ ap (λ t. quoted (hidden t) ++ hidden_code s) (utf8_lossy-IsUtf8 text utf8)

-- ---- words, which have no quotation mark

word_hidden : (w s : List ℕ) → Lacks 34 w → hidden_code (w ++ s) ≡ w ++ hidden_code s
word_hidden [] s n = refl
word_hidden (b ∷ w) s n =
    let other : (b == 34) ≡ false = let differs = n.0 in grind (arith, nat_tests) in
    ap (λ t. cond t (hidden_string (read_text (w ++ s)).0 ++ (read_text (w ++ s)).1) (b ∷ hidden_code (w ++ s))) other
    ∙ ap (λ t. b ∷ t) (word_hidden w s n.1)

lacks_both : (m : ℕ) (v w : List ℕ) → Lacks m v → Lacks m w → Lacks m (v ++ w)
lacks_both m [] w p q = q
lacks_both m (b ∷ v) w p q = (p.0, lacks_both m v w p.1 q)

lacks_ended : (w : List ℕ) → Lacks 34 w → Lacks 34 (ended w)
lacks_ended w n = lacks_both 34 w (0 ∷ []) n (λ e. omega arith, tt)

lacks_digits : (radix : ℕ) (bs : List ℕ) → radix ≤ 16 → AllDigits radix bs → Lacks 34 bs
lacks_digits radix [] low all = tt
lacks_digits radix (b ∷ bs) low all =
    (λ e. let big : 36 < radix = rw e at all.0 in omega arith, lacks_digits radix bs low all.1)

lacks_digits_of : (base : ℕ) → 2 ≤ base → base ≤ 16 → (n : ℕ) → n < base ^ 64 → Lacks 34 (digits base false n)
lacks_digits_of base low high n small = lacks_digits base (digits base false n) high (digits_is_IsNumeral base false low high n small).0.1

lacks_decimal : (n : ℕ) → IsSmall n → Lacks 34 (decimal n)
lacks_decimal n small = lacks_digits_of 10 (omega arith) (omega arith) n (omega arith)

lacks_bare : (bs : List ℕ) → list_all is_bare bs ≡ true → Lacks 34 bs
lacks_bare [] all = tt
lacks_bare (b ∷ bs) all = elim (cases_Bool (is_bare b)) [
  | inl is ↦ (λ e. let none : is_bare 34 ≡ true = rw e at is in absurd (false≢true none), lacks_bare bs (rw is at all))
  | inr other ↦ absurd (false≢true (rw other at all))
]

-- ---- keys

-- a slash is no byte of a bare key
slash_bare : (b : ℕ) → is_slash b ≡ true → is_bare b ≡ false
slash_bare b is = elim (cases_Bool (b == 47)) [
  | inl one ↦ let e : b ≡ 47 = grind (arith, nat_tests) in rw e refl
  | inr other ↦ let e : b ≡ 92 = grind (arith, nat_tests) in rw e refl
]

false_front : (b : ℕ) (more : List ℕ) → is_bare b ≡ false → list_all is_bare (b ∷ more) ≡ false
false_front b more lacks = rw lacks refl

false_rest : (b : ℕ) (more : List ℕ) → list_all is_bare more ≡ false → list_all is_bare (b ∷ more) ≡ false
false_rest b more lacks = elim (cases_Bool (is_bare b)) [
  | inl is ↦ rw is lacks
  | inr other ↦ rw other refl
]

not_bare : (text : List ℕ) → list_all is_bare text ≡ false → is_bare_key text ≡ false
not_bare [] none = refl
not_bare (b ∷ text) none = none

-- what isn't of a bare key stays before a query
front_not_bare : (text : List ℕ) → list_all is_bare text ≡ false → list_all is_bare (hidden_front text) ≡ false
front_not_bare [] none = none
front_not_bare (b ∷ rest) none = elim (cases_Bool (is_slash b)) [
  | inl slash ↦
      subst (λ t. list_all is_bare t ≡ false) (sym (slash_first b rest slash)) (false_front b (hidden_place rest) (slash_bare b slash))
  | inr other ↦
      subst (λ t. list_all is_bare t ≡ false) (sym (front_stays b rest other)) (elim (cases_Bool (is_bare b)) [
        | inl is ↦ false_rest b (hidden_front rest) (front_not_bare rest (rw is at none))
        | inr lacks ↦ false_front b (hidden_front rest) lacks
      ])
]

front_key : (key : List ℕ) → is_bare_key key ≡ false → is_bare_key (hidden_front key) ≡ false
front_key [] lacks = refl
front_key (b ∷ key) lacks = not_bare (hidden_front (b ∷ key)) (front_not_bare (b ∷ key) lacks)

mark_not_bare : (x y : List ℕ) → list_all is_bare (x ++ (63 ∷ y)) ≡ false
mark_not_bare [] y = refl
mark_not_bare (b ∷ x) y = false_rest b (x ++ (63 ∷ y)) (mark_not_bare x y)

key_not_bare : (key : List ℕ) → is_bare_key key ≡ false → is_bare_key (hidden key) ≡ false
key_not_bare key lacks = elim (option_cases (cut_at 63 key)) [
  | inl none ↦
      subst (λ t. is_bare_key t ≡ false) (sym (without_query hidden_front key (no_cut_says 63 key none))) (front_key key lacks)
  | inr some ↦
      let a = some.0.0 in let b = some.0.1 in
      let says = cut_says 63 key a b some.1 in
      let front = hidden_front a in let query = hidden_behind_mark b in
      let is = ap hidden says.0 ∙ before_query hidden_front a b says.1 ∙ append_assoc front (codes "?") query in
      subst (λ t. is_bare_key t ≡ false) (sym is) (not_bare (front ++ (63 ∷ query)) (mark_not_bare front query))
]

-- a bare key has neither `@` nor `?`, so it is shown as it is
bare_other : (b c : ℕ) → is_bare b ≡ true → is_bare c ≡ false → (b == c) ≡ false
bare_other b c is lacks = elim (cases_Bool (b == c)) [
  | inl same ↦ absurd (false≢true (sym lacks ∙ ap is_bare (sym ((Decides-eqb b c).0 same)) ∙ is))
  | inr differs ↦ differs
]

bare_lacks : (key : List ℕ) → list_all is_bare key ≡ true → parted.Lacks (codes "@?") key
bare_lacks [] all = refl
bare_lacks (b ∷ key) all = elim (cases_Bool (is_bare b)) [
  | inl is ↦ rw (bare_other b 64 is refl, bare_other b 63 is refl) (bare_lacks key (rw is at all))
  | inr other ↦ absurd (false≢true (rw other at all))
]

all_bare : (key : List ℕ) → is_bare_key key ≡ true → list_all is_bare key ≡ true
all_bare [] bare = refl
all_bare (b ∷ key) bare = bare

bare_hidden : (key : List ℕ) → is_bare_key key ≡ true → hidden key ≡ key
bare_hidden key bare = plain_stays key (bare_lacks key (all_bare key bare))

key_hidden : (key s : List ℕ) → IsUtf8 key → hidden_code (key_code key ++ s) ≡ key_code (hidden key) ++ hidden_code s
key_hidden key s utf8 = elim (cases_Bool (is_bare_key key)) [
  | inl is ↦ (λ i. hidden_code (cond (is i) (ended key) (quoted key) ++ s))
      ∙ word_hidden (ended key) s (lacks_ended key (lacks_bare key (all_bare key is)))
      ∙ (λ i. cond (sym is i) (ended key) (quoted key) ++ hidden_code s)
      ∙ (λ i. key_code (sym (bare_hidden key is) i) ++ hidden_code s)
  | inr other ↦ (λ i. hidden_code (cond (other i) (ended key) (quoted key) ++ s)) ∙ quoted_hidden key s utf8
      ∙ (λ i. cond (sym (key_not_bare key other) i) (ended (hidden key)) (quoted (hidden key)) ++ hidden_code s)
]

-- ---- numbers, dates and times

lacks_signed : (z : ℤ) → mag z < 2 ^ 63 + 1 → Lacks 34 (signed_decimal z)
lacks_signed (pos n) small = lacks_decimal n (omega arith)
lacks_signed (negsuc n) small = (λ e. omega arith, lacks_decimal (suc n) (omega arith))

lacks_integer : (z : ℤ) → FitsSigned w64 z → Lacks 34 (signed_decimal z)
lacks_integer z fit = let small : mag z < 2 ^ 63 = search rules in lacks_signed z (omega arith)

lacks_float : (x : Float) → T (fits binary64 x) → Lacks 34 (float_word x)
lacks_float x fit = elim (cases_Bool (is_nan x)) [
  | inl is ↦ rw is (λ e. omega arith, (λ e. omega arith, (λ e. omega arith, tt)))
  | inr other ↦ rw other (λ e. omega arith, (λ e. omega arith, lacks_digits_of 16 (omega arith) (omega arith) (to_bits binary64 x) (let small = to_bits-lt binary64 x fit in omega arith)))
]

lacks_zeros : (n : ℕ) (more : List ℕ) → Lacks 34 more → Lacks 34 (replicate n 48 ++ more)
lacks_zeros zero more n = n
lacks_zeros (suc k) more n = (λ e. omega arith, lacks_zeros k more n)

lacks_padded : (width n : ℕ) → IsSmall n → Lacks 34 (padded width n)
lacks_padded width n small = lacks_zeros (width - length (decimal n)) (1 ∷ ended (decimal n)) (λ e. omega arith, lacks_ended (decimal n) (lacks_decimal n small))

lacks_part : {A : Type 0} (written : A → List ℕ) (P : A → Type 0) → ((x : A) → P x → Lacks 34 (written x)) → (x : Option A) → IfThere P x → Lacks 34 (part written x)
lacks_part written P each None h = (λ e. omega arith, tt)
lacks_part written P each (Some x) h = (λ e. omega arith, each x h)

dash : Lacks 34 (45 ∷ [])
dash = (λ e. omega arith, tt)

colon : Lacks 34 (58 ∷ [])
colon = (λ e. omega arith, tt)

lacks_date : (x : Date) → IsDate x → Lacks 34 (date_code x)
lacks_date x p =
    let year = lacks_both 34 (padded 4 x.year) (45 ∷ []) (lacks_padded 4 x.year p.year) dash in
    let month = lacks_both 34 (padded 4 x.year ++ 45 ∷ []) (padded 2 x.month) year (lacks_padded 2 x.month p.month) in
    let both = lacks_both 34 ((padded 4 x.year ++ 45 ∷ []) ++ padded 2 x.month) (45 ∷ []) month dash in
    lacks_both 34 (((padded 4 x.year ++ 45 ∷ []) ++ padded 2 x.month) ++ 45 ∷ []) (padded 2 x.day) both (lacks_padded 2 x.day p.day)

lacks_second : (n : ℕ) → IsSmall n → Lacks 34 (second_code n)
lacks_second n small = (λ e. omega arith, lacks_padded 2 n small)

lacks_nanosecond : (n : ℕ) → IsSmall n → Lacks 34 (nanosecond_code n)
lacks_nanosecond n small = (λ e. omega arith, lacks_padded 9 n small)

lacks_time : (front : List ℕ) → Lacks 34 front → (x : Time) → IsTime x → Lacks 34 (time_code front x)
lacks_time front n x p =
    let hour = lacks_both 34 front (padded 2 x.hour) n (lacks_padded 2 x.hour p.hour) in
    let both = lacks_both 34 (front ++ padded 2 x.hour) (58 ∷ []) hour colon in
    let minute = lacks_both 34 ((front ++ padded 2 x.hour) ++ 58 ∷ []) (padded 2 x.minute) both (lacks_padded 2 x.minute p.minute) in
    let second = lacks_both 34 (((front ++ padded 2 x.hour) ++ 58 ∷ []) ++ padded 2 x.minute) (part second_code x.second) minute (lacks_part second_code IsSmall lacks_second x.second p.second) in
    lacks_both 34 ((((front ++ padded 2 x.hour) ++ 58 ∷ []) ++ padded 2 x.minute) ++ part second_code x.second) (part nanosecond_code x.nanosecond) second
    (lacks_part nanosecond_code IsSmall lacks_nanosecond x.nanosecond p.nanosecond)

lacks_between : (date : Option Date) → Lacks 34 (between date)
lacks_between None = tt
lacks_between (Some date) = (λ e. omega arith, tt)

lacks_sign : (z : ℤ) → Lacks 34 (sign_of z)
lacks_sign (pos n) = (λ e. omega arith, tt)
lacks_sign (negsuc n) = (λ e. omega arith, tt)

lacks_offset : (x : Offset) → IsOffset x → Lacks 34 (offset_code x)
lacks_offset Z p = (λ e. omega arith, (λ e. omega arith, tt))
lacks_offset (Custom z) p =
    let hours = padded 2 (magnitude z / 60) in
    let minutes = padded 2 (magnitude z % 60) in
    let front = lacks_both 34 (sign_of z) hours (lacks_sign z) (lacks_padded 2 (magnitude z / 60) (omega arith)) in
    let both = lacks_both 34 (sign_of z ++ hours) (58 ∷ []) front colon in
    (λ e. omega arith, lacks_both 34 ((sign_of z ++ hours) ++ 58 ∷ []) minutes both (lacks_padded 2 (magnitude z % 60) (omega arith)))

lacks_datetime : (x : Datetime) → IsDatetime x → Lacks 34 (datetime_code x)
lacks_datetime x p =
    let date = lacks_part date_code IsDate lacks_date x.date p.date in
    let time = lacks_part (time_code (between x.date)) IsTime (lacks_time (between x.date) (lacks_between x.date)) x.time p.time in
    let both = lacks_both 34 (part date_code x.date) (part (time_code (between x.date)) x.time) date time in
    lacks_both 34 (part date_code x.date ++ part (time_code (between x.date)) x.time) (part offset_code x.offset) both
    (lacks_part offset_code IsOffset lacks_offset x.offset p.offset)

-- ---- values

two_hidden : (a b c d s : List ℕ) → ((t : List ℕ) → hidden_code (a ++ t) ≡ c ++ hidden_code t) → ((t : List ℕ) → hidden_code (b ++ t) ≡ d ++ hidden_code t)
    → hidden_code ((a ++ b) ++ s) ≡ (c ++ d) ++ hidden_code s
two_hidden a b c d s one more =
    ap hidden_code (append_assoc a b s) ∙ one (b ++ s) ∙ ap (λ t. c ++ t) (more s) ∙ sym (append_assoc c d (hidden_code s))

-- a member, without what stands before its key
member_by : (key c m : List ℕ) (d n s : List ℕ) → IsUtf8 key → ((t : List ℕ) → hidden_code (c ++ t) ≡ d ++ hidden_code t) → ((t : List ℕ) → hidden_code (m ++ t) ≡ n ++ hidden_code t)
    → hidden_code ((((key_code key ++ codes " = ") ++ c) ++ m) ++ s) ≡ (((key_code (hidden key) ++ codes " = ") ++ d) ++ n) ++ hidden_code s
member_by key c m d n s utf8 one more =
    let front = key_code key ++ codes " = " in
    let shown_front = key_code (hidden key) ++ codes " = " in
    two_hidden (front ++ c) m (shown_front ++ d) n s
    (λ t. two_hidden front c shown_front d t (λ u. two_hidden (key_code key) (codes " = ") (key_code (hidden key)) (codes " = ") u (λ v. key_hidden key v utf8) (λ v. refl)) one)
    more

mutual
  pub code_hidden : (d : Data) (s : List ℕ) → IsProper d → HasTexts d → hidden_code (code d ++ s) ≡ code (hidden_value d) ++ hidden_code s
  code_hidden (string text) s p h = quoted_hidden text s h
  code_hidden (integer z) s p h = ap (λ t. 2 ∷ t) (word_hidden (ended (signed_decimal z)) s (lacks_ended (signed_decimal z) (lacks_integer z p)))
  code_hidden (float x) s p h = ap (λ t. 3 ∷ t) (word_hidden (ended (float_word x)) s (lacks_ended (float_word x) (lacks_float x p)))
  code_hidden (boolean true) s p h = refl
  code_hidden (boolean false) s p h = refl
  code_hidden (datetime moment) s p h = ap (λ t. 6 ∷ t) (word_hidden (datetime_code moment) s (lacks_datetime moment p))
  code_hidden (array items) s p h = ap (λ t. 91 ∷ t) (items_hidden true items s p h)
  code_hidden (table members) s p h = ap (λ t. 123 ∷ t) (members_hidden true members s p h)

  items_hidden : (is_first : Bool) (ds : Items) (s : List ℕ) → AreProper ds → HaveTexts ds → hidden_code (items_code is_first ds ++ s) ≡ items_code is_first (hidden_items ds) ++ hidden_code s
  items_hidden is_first no_items s p h = refl
  items_hidden true (item d ds) s p h =
      ap (λ t. 2 ∷ t) (two_hidden (code d) (items_code false ds) (code (hidden_value d)) (items_code false (hidden_items ds)) s (λ t. code_hidden d t p.0 h.0) (λ t. items_hidden false ds t p.1 h.1))
  items_hidden false (item d ds) s p h =
      ap (λ t. 2 ∷ 44 ∷ 32 ∷ t) (two_hidden (code d) (items_code false ds) (code (hidden_value d)) (items_code false (hidden_items ds)) s (λ t. code_hidden d t p.0 h.0) (λ t. items_hidden false ds t p.1 h.1))

  members_hidden : (is_first : Bool) (ds : Members) (s : List ℕ) → HasProper ds → MembersHaveTexts ds → hidden_code (members_code is_first ds ++ s) ≡ members_code is_first (hidden_members ds) ++ hidden_code s
  members_hidden true no_members s p h = refl
  members_hidden false no_members s p h = refl
  members_hidden true (member key d ds) s p h =
      ap (λ t. 2 ∷ 32 ∷ t) (member_by key (code d) (members_code false ds) (code (hidden_value d)) (members_code false (hidden_members ds)) s h.0 (λ t. code_hidden d t p.1 h.1) (λ t. members_hidden false ds t p.2 h.2))
  members_hidden false (member key d ds) s p h =
      ap (λ t. 2 ∷ 44 ∷ 32 ∷ t) (member_by key (code d) (members_code false ds) (code (hidden_value d)) (members_code false (hidden_members ds)) s h.0 (λ t. code_hidden d t p.1 h.1) (λ t. members_hidden false ds t p.2 h.2))

pub hidden_whole : (d : Data) → IsProper d → HasTexts d → hidden_code (code d) ≡ code (hidden_value d)
hidden_whole d p h = ap hidden_code (sym (append-nil (code d))) ∙ code_hidden d [] p h ∙ append-nil (code (hidden_value d))

pub shown_whole : (d : Data) → IsProper d → HasTexts d → shown (code d) ≡ plain (code (hidden_value d))
shown_whole d p h = ap plain (hidden_whole d p h)
