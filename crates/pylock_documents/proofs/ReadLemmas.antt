-- JSON in which control characters are escaped is read as the JSON that it was.
use Rattle.std.proofs.Common.{◌≡◌, ◌<◌, ◌≤◌, ◌/◌, ◌%◌, ◌^◌, ◌&&◌, ◌+◌, ℕ, zero, suc, Bool, true, false, cond, List, [], ◌∷◌, ◌++◌, length, get_or, flat_map, Option, Some, option_and_then, IsUtf8, inl, inr, refl, sym, ap, ap₂, ◌∙◌, subst, arith, append_assoc, append-nil, nat_lt}
use Rattle.std.proofs.lemmas.Bool.{and_parts, cases_Bool, cases_eq, cases_lt, ne_eqb}
use Rattle.std.proofs.lemmas.Bool.Decides.{nat_tests}
use Rattle.std.proofs.lemmas.Fmt.{decimal_by_steps}
use Rattle.std.proofs.lemmas.Grind.{flat_map-append}
use Rattle.std.proofs.lemmas.List.Folds.{list_all-append}
use Rattle.std.proofs.lemmas.Str.{IsUtf8-append, IsUtf8-encode, IsUtf8-nil, chars-encodes, encode_ascii, inside_one}
use Rattle.std.specs.List.{list_all}
use Rattle.std.specs.Prelude.{codes, decimal}
use lib.Utf8.{encode, encodes, scalar, scalars}
use Rattle.json.proofs.Printed.Decimals.{IsNumber-decimal}
use Rattle.json.proofs.Printed.Numbers.{in_word-ended, lex-number}
use Rattle.json.proofs.Printed.Strings.{content-escape, escape_byte_plain, lex-escape}
use Rattle.json.proofs.Printed.Utf8.{IsUtf8-key, IsUtf8-quoted}
use Rattle.json.specs.Lex.{Lexeme, between, colon, comma, fresh, lex, punctuate, string_token, token}
use Rattle.json.specs.Print.{IsNumber, begins, ends, escape, escape_byte, print_from, quoted, separator, token_text}
use Rattle.json.specs.Text.{content, is_high_surrogate, is_low_surrogate, short_escape}
use Rattle.json.specs.Token.{Token, bad, begin_array, begin_object, boolean, end_array, end_object, key, null, number, string}
use Rattle.json.specs.Tree as tree
use Rattle.json.specs.Json as json
use Rattle.json.specs.Word.{ends_word, word}
use Rattle.serde_json.proofs.Texts.{print-outline}
use Rattle.serde_json.specs.Data as value
use Rattle.serde_json.specs.Data.{Data, Items, Members}
use Rattle.serde_json.specs.Read.{max_depth, of_json, read}
use Rattle.serde_json.specs.Written.{compact_text, items_outline, members_outline, outline}
use Rattle.pylock_shown.specs.Inner.Printable.{is_printable}
use Rattle.pylock_shown.specs.Visible.{is_control}
use Rattle.pylock_documents.proofs.SpellLemmas.{Spells, byte, both, high_bytes, nothing, plain_first, plain_utf8, safe_append, safe_plain, unit, units}
use Rattle.pylock_documents.specs.Safe.{IsWritten, ItemsWritten, MembersWritten, escaped_unit, safe_character, safe_json}

-- ---- one character

-- the escapes of the bytes below n are printable
abbrev pub printable_below : ℕ → Bool
printable_below zero = true
printable_below (suc n) = list_all is_printable (escape_byte n) && printable_below n

pub printable_escape : (n : ℕ) → printable_below n ≡ true → (x : ℕ) → x < n → list_all is_printable (escape_byte x) ≡ true
printable_escape zero e x h = absurd (omega arith)
printable_escape (suc n) e x h =
    let p = and_parts (list_all is_printable (escape_byte n)) (printable_below n) e in
    elim (cases_eq x n) [ inl same ↦ rw same p.0 | inr different ↦ printable_escape n p.1 x (omega arith) ]

pub all_printable : printable_below 127 ≡ true
unfolding escape_byte
all_printable = refl

abbrev Byte : ℕ → Type 0
Byte x = Spells (escape_byte x) (x ∷ [])

quote : Byte 34
unfolding escape_byte content lex short_escape
quote = record { read = λ r. refl; lexed = λ r. refl }

backslash : Byte 92
unfolding escape_byte content lex short_escape
backslash = record { read = λ r. refl; lexed = λ r. refl }

backspace : Byte 8
unfolding escape_byte content lex short_escape
backspace = record { read = λ r. refl; lexed = λ r. refl }

tab : Byte 9
unfolding escape_byte content lex short_escape
tab = record { read = λ r. refl; lexed = λ r. refl }

line_feed : Byte 10
unfolding escape_byte content lex short_escape
line_feed = record { read = λ r. refl; lexed = λ r. refl }

form_feed : Byte 12
unfolding escape_byte content lex short_escape
form_feed = record { read = λ r. refl; lexed = λ r. refl }

carriage_return : Byte 13
unfolding escape_byte content lex short_escape
carriage_return = record { read = λ r. refl; lexed = λ r. refl }

-- a control character of ASCII without a letter
numbered : (x : ℕ) → x < 32 → (x ≡ 8 → ⊥) → (x ≡ 9 → ⊥) → (x ≡ 10 → ⊥) → (x ≡ 12 → ⊥) → (x ≡ 13 → ⊥) → escape_byte x ≡ escaped_unit x
unfolding escape_byte
numbered x small a b c d e =
    let first : x / 4096 % 16 ≡ 0 = omega (arith, small) in
    let second : x / 256 % 16 ≡ 0 = omega (arith, small) in
    let third : x / 16 % 16 ≡ x / 16 = omega (arith, small) in
    let last : x / 1 % 16 ≡ x % 16 = omega arith in
    let below : nat_lt x 32 ≡ true = grind (arith, nat_tests) in
    rw (ne_eqb x 34 (λ e. omega arith), ne_eqb x 92 (λ e. omega arith), ne_eqb x 8 a, ne_eqb x 12 d, ne_eqb x 10 c, ne_eqb x 13 e, ne_eqb x 9 b, below, first, second, third, last) refl

by_number : (x : ℕ) → x < 32 → escape_byte x ≡ escaped_unit x → Byte x
by_number x small is =
    let high : is_high_surrogate x ≡ false = grind (arith, nat_tests) in
    let low : is_low_surrogate x ≡ false = grind (arith, nat_tests) in
    subst (λ t. Spells t (x ∷ [])) (sym is) (subst (λ t. Spells (escaped_unit x) t) (encode_ascii x (omega (arith, small))) (unit x (omega (arith, small)) high low))

control_byte : (x : ℕ) → x < 32 → Byte x
control_byte x small = elim (cases_eq x 8) [
  | inl e ↦ subst Byte (sym e) backspace
  | inr a ↦ elim (cases_eq x 9) [
    | inl e ↦ subst Byte (sym e) tab
    | inr b ↦ elim (cases_eq x 10) [
      | inl e ↦ subst Byte (sym e) line_feed
      | inr c ↦ elim (cases_eq x 12) [
        | inl e ↦ subst Byte (sym e) form_feed
        | inr d ↦ elim (cases_eq x 13) [
          | inl e ↦ subst Byte (sym e) carriage_return
          | inr e ↦ by_number x small (numbered x small a b c d e)
        ]
      ]
    ]
  ]
]

low_byte : (x : ℕ) → x < 127 → Byte x
low_byte x low = elim (cases_lt x 32) [
  | inl small ↦ control_byte x small
  | inr large ↦ elim (cases_eq x 34) [
    | inl e ↦ subst Byte (sym e) quote
    | inr q ↦ elim (cases_eq x 92) [
      | inl e ↦ subst Byte (sym e) backslash
      | inr b ↦ subst (λ t. Spells t (x ∷ [])) (sym (escape_byte_plain x q b large)) (byte x q b large)
    ]
  ]
]

-- of a character: its escape is UTF-8, and stands for it when control characters in it are escaped too
record Character (c : ℕ) : Type 0 where
  utf8 : IsUtf8 (escape (encode c))
  spells : Spells (safe_json (escape (encode c))) (encode c)

low_character : (c : ℕ) → c < 127 → Character c
low_character c low =
    let one : encode c ≡ c ∷ [] = encode_ascii c (omega (arith, low)) in
    let text : escape (encode c) ≡ escape_byte c = ap escape one ∙ append-nil (escape_byte c) in
    let printable = printable_escape 127 all_printable c low in
    let stands : safe_json (escape (encode c)) ≡ escape_byte c = ap safe_json text ∙ safe_plain (escape_byte c) printable in
    record {
      utf8 = subst IsUtf8 (sym text) (plain_utf8 (escape_byte c) printable);
      spells = subst (λ t. Spells t (encode c)) (sym stands) (subst (λ b. Spells (escape_byte c) b) (sym one) (low_byte c low));
    }

escape_high : (xs : List ℕ) → ((k : ℕ) → k < length xs → 127 ≤ get_or xs k 0) → escape xs ≡ xs
escape_high [] h = refl
escape_high (x ∷ xs) h =
    let high : 127 ≤ x = h 0 (omega arith) in
    ap₂ (λ (a b : List ℕ). a ++ b) (escape_byte_plain x (λ e. omega arith) (λ e. omega arith) (omega arith)) (escape_high xs (λ k below. h (suc k) (omega arith)))

high_of : (c : ℕ) → 127 ≤ c → (k : ℕ) → k < length (encode c) → 127 ≤ get_or (encode c) k 0
high_of c high k below = elim (cases_lt (get_or (encode c) k 0) 127) [
  | inl low ↦ absurd (let same = inside_one c [] (encode c) k (sym (append-nil _)) below (omega (arith, low)) in omega (arith, same, low, high))
  | inr h ↦ h
]

safe_encode : (c : ℕ) → scalar c ≡ true → safe_json (encode c) ≡ safe_character c
safe_encode c ok =
    let one : scalars (c ∷ []) ≡ true = rw ok refl in
    ap safe_json (sym (append-nil (encode c))) ∙ ap (λ cs. flat_map safe_character cs) (chars-encodes (c ∷ []) one) ∙ append-nil (safe_character c)

high_character : (c : ℕ) → 127 ≤ c → scalar c ≡ true → Character c
high_character c high ok =
    let same = escape_high (encode c) (high_of c high) in
    let stands : safe_json (escape (encode c)) ≡ safe_character c = ap safe_json same ∙ safe_encode c ok in
    record {
      utf8 = subst IsUtf8 (sym same) (IsUtf8-encode c ok);
      spells = subst (λ t. Spells t (encode c)) (sym stands) (elim (cases_Bool (is_control c)) [
        | inl control ↦ rw control (units c ok)
        | inr other ↦ rw other (high_bytes (encode c) (high_of c high))
      ]);
    }

character : (c : ℕ) → scalar c ≡ true → Character c
character c ok = elim (cases_lt c 127) [ inl low ↦ low_character c low | inr high ↦ high_character c high ok ]

-- ---- a text

record Text (s : List ℕ) : Type 0 where
  utf8 : IsUtf8 (escape s)
  spells : Spells (safe_json (escape s)) s

text_of : (cs : List ℕ) → scalars cs ≡ true → Text (encodes cs)
text_of [] ok = record { utf8 = IsUtf8-nil; spells = subst (λ t. Spells t []) (sym (safe_plain [] refl)) nothing }
text_of (c ∷ cs) ok =
    let (here, more) = and_parts (scalar c) (scalars cs) ok in
    let one = character c here in
    let rest = text_of cs more in
    let parts : escape (encodes (c ∷ cs)) ≡ escape (encode c) ++ escape (encodes cs) = flat_map-append escape_byte (encode c) (encodes cs) in
    let stands : safe_json (escape (encodes (c ∷ cs))) ≡ safe_json (escape (encode c)) ++ safe_json (escape (encodes cs)) =
    ap safe_json parts ∙ safe_append (escape (encode c)) (escape (encodes cs)) one.utf8 in
    record {
      utf8 = subst IsUtf8 (sym parts) (IsUtf8-append _ _ one.utf8 rest.utf8);
      spells = subst (λ t. Spells t (encodes (c ∷ cs))) (sym stands)
          (both (safe_json (escape (encode c))) (safe_json (escape (encodes cs))) (encode c) (encodes cs) one.spells rest.spells);
    }

text : (s : List ℕ) → IsUtf8 s → Text s
text s u = subst Text u.1.1 (text_of u.0 u.1.0)

pub safe_quoted : (s r : List ℕ) → IsUtf8 s → safe_json (quoted s ++ r) ≡ 34 ∷ (safe_json (escape s) ++ (34 ∷ safe_json r))
safe_quoted s r u =
    plain_first (34 ∷ []) ((escape s ++ 34 ∷ []) ++ r) refl
    ∙ ap (λ t. 34 ∷ t) (ap safe_json (append_assoc (escape s) (34 ∷ []) r)
    ∙ safe_append (escape s) (34 ∷ r) (text s u).utf8
    ∙ ap (λ t. safe_json (escape s) ++ t) (plain_first (34 ∷ []) r refl))

pub lex_spelled : (s r : List ℕ) → IsUtf8 s → lex between (34 ∷ (safe_json (escape s) ++ (34 ∷ r))) ≡ token (string s) ∷ lex between r
unfolding lex content
lex_spelled s r u =
    let t = (text s u).spells in
    ap₂ (λ o l. token (string_token o) ∷ l) (t.read (34 ∷ r) ∙ ap Some (append-nil s)) (t.lexed (34 ∷ r))

pub lex_quoted : (s r : List ℕ) → lex between (quoted s ++ r) ≡ token (string s) ∷ lex between r
unfolding lex
lex_quoted s r =
    let e = append_assoc (escape s) (34 ∷ []) r in
    ap (λ l. lex between (34 ∷ l)) e ∙ ap₂ (λ o l. token (string_token o) ∷ l) (content-escape s r) (lex-escape s r)

-- ---- tokens

-- what is written of a token is UTF-8, and the token can be read back
unfoldable pub IsTold : Token → Type 0
IsTold begin_object = Unit {0}
IsTold end_object = Unit {0}
IsTold begin_array = Unit {0}
IsTold end_array = Unit {0}
IsTold (key s) = IsUtf8 s
IsTold (string s) = IsUtf8 s
IsTold (number s) = IsNumber s × (list_all is_printable s ≡ true)
IsTold (boolean b) = Unit {0}
IsTold null = Unit {0}
IsTold bad = ⊥

abbrev pub AreTold : List Token → Type 0
AreTold [] = Unit {0}
AreTold (t ∷ ts) = IsTold t × AreTold ts

pub told_both : (a b : List Token) → AreTold a → AreTold b → AreTold (a ++ b)
told_both [] b p q = q
told_both (t ∷ a) b p q = (p.0, told_both a b p.1 q)

token_utf8 : (t : Token) → IsTold t → IsUtf8 (token_text t)
unfolding IsTold
token_utf8 begin_object h = plain_utf8 (123 ∷ []) refl
token_utf8 end_object h = plain_utf8 (125 ∷ []) refl
token_utf8 begin_array h = plain_utf8 (91 ∷ []) refl
token_utf8 end_array h = plain_utf8 (93 ∷ []) refl
token_utf8 (key s) h = IsUtf8-key s h
token_utf8 (string s) h = IsUtf8-quoted s h
token_utf8 (number s) h = plain_utf8 s h.1
token_utf8 (boolean true) h = plain_utf8 (token_text (boolean true)) refl
token_utf8 (boolean false) h = plain_utf8 (token_text (boolean false)) refl
token_utf8 null h = plain_utf8 (token_text null) refl
token_utf8 bad h = absurd h

-- two rests that are read alike, and end a word where the token wants that
record Alike (t : Token) (r q : List ℕ) : Type 0 where
  same : lex between r ≡ lex between q
  ended : ends t ≡ true → (ends_word r ≡ true) × (ends_word q ≡ true)

token_lexed : (t : Token) (r q : List ℕ) → IsTold t → Alike t r q → lex between (safe_json (token_text t) ++ r) ≡ lex between (token_text t ++ q)
unfolding IsTold lex word
token_lexed begin_object r q h a = ap (λ t. lex between (t ++ r)) (safe_plain (123 ∷ []) refl) ∙ ap (λ l. token begin_object ∷ l) a.same
token_lexed end_object r q h a = ap (λ t. lex between (t ++ r)) (safe_plain (125 ∷ []) refl) ∙ ap (λ l. token end_object ∷ l) a.same
token_lexed begin_array r q h a = ap (λ t. lex between (t ++ r)) (safe_plain (91 ∷ []) refl) ∙ ap (λ l. token begin_array ∷ l) a.same
token_lexed end_array r q h a = ap (λ t. lex between (t ++ r)) (safe_plain (93 ∷ []) refl) ∙ ap (λ l. token end_array ∷ l) a.same
token_lexed (key s) r q h a =
    ap (λ t. lex between (t ++ r)) (safe_quoted s (58 ∷ []) h ∙ ap (λ t. 34 ∷ (safe_json (escape s) ++ (34 ∷ t))) (safe_plain (58 ∷ []) refl))
    ∙ ap (λ t. lex between (34 ∷ t)) (append_assoc (safe_json (escape s)) (34 ∷ 58 ∷ []) r)
    ∙ lex_spelled s (58 ∷ r) h
    ∙ ap (λ l. token (string s) ∷ colon ∷ l) a.same
    ∙ sym (ap (lex between) (append_assoc (quoted s) (58 ∷ []) q) ∙ lex_quoted s (58 ∷ q))
token_lexed (string s) r q h a =
    ap (λ t. lex between (t ++ r)) (ap safe_json (sym (append-nil (quoted s))) ∙ safe_quoted s [] h ∙ ap (λ t. 34 ∷ (safe_json (escape s) ++ (34 ∷ t))) (safe_plain [] refl))
    ∙ ap (λ t. lex between (34 ∷ t)) (append_assoc (safe_json (escape s)) (34 ∷ []) r)
    ∙ lex_spelled s r h
    ∙ ap (λ l. token (string s) ∷ l) a.same
    ∙ sym (lex_quoted s q)
token_lexed (number s) r q h a =
    ap (λ t. lex between (t ++ r)) (safe_plain s h.1)
    ∙ lex-number s r h.0 (a.ended refl).0
    ∙ ap (λ l. token (number s) ∷ l) a.same
    ∙ sym (lex-number s q h.0 (a.ended refl).1)
token_lexed (boolean true) r q h a =
    ap (λ t. lex between (t ++ r)) (safe_plain (token_text (boolean true)) refl)
    ∙ ap₂ (λ b l. token (cond b (boolean true) bad) ∷ l) ((a.ended refl).0 ∙ sym (a.ended refl).1)
    (in_word-ended r (a.ended refl).0 ∙ a.same ∙ sym (in_word-ended q (a.ended refl).1))
token_lexed (boolean false) r q h a =
    ap (λ t. lex between (t ++ r)) (safe_plain (token_text (boolean false)) refl)
    ∙ ap₂ (λ b l. token (cond b (boolean false) bad) ∷ l) ((a.ended refl).0 ∙ sym (a.ended refl).1)
    (in_word-ended r (a.ended refl).0 ∙ a.same ∙ sym (in_word-ended q (a.ended refl).1))
token_lexed null r q h a =
    ap (λ t. lex between (t ++ r)) (safe_plain (token_text null) refl)
    ∙ ap₂ (λ b l. token (cond b null bad) ∷ l) ((a.ended refl).0 ∙ sym (a.ended refl).1)
    (in_word-ended r (a.ended refl).0 ∙ a.same ∙ sym (in_word-ended q (a.ended refl).1))
token_lexed bad r q h a = absurd h

-- after a value stands a comma, a closing bracket or nothing; and so it does in safe JSON, with LF behind it
abbrev line : List ℕ → List ℕ
line r = safe_json r ++ 10 ∷ []

abbrev EndsBoth : List ℕ → Type 0
EndsBoth r = (ends_word (line r) ≡ true) × (ends_word r ≡ true)

ended_by : (b : ℕ) (r : List ℕ) → is_printable b ≡ true → ends_word (b ∷ r) ≡ true → EndsBoth (b ∷ r)
ended_by b r printable ended =
    let first : list_all is_printable (b ∷ []) ≡ true = rw printable refl in
    (ap (λ t. ends_word (t ++ 10 ∷ [])) (plain_first (b ∷ []) r first) ∙ ended, ended)

value_ended : (ts : List Token) → EndsBoth (print_from true ts)
unfolding print_from
value_ended [] = (ap (λ t. ends_word (t ++ 10 ∷ [])) (safe_plain [] refl), refl)
value_ended (begin_object ∷ ts) = ended_by 44 (token_text begin_object ++ print_from false ts) refl refl
value_ended (end_object ∷ ts) = ended_by 125 (print_from true ts) refl refl
value_ended (begin_array ∷ ts) = ended_by 44 (token_text begin_array ++ print_from false ts) refl refl
value_ended (end_array ∷ ts) = ended_by 93 (print_from true ts) refl refl
value_ended (key s ∷ ts) = ended_by 44 (token_text (key s) ++ print_from false ts) refl refl
value_ended (string s ∷ ts) = ended_by 44 (token_text (string s) ++ print_from true ts) refl refl
value_ended (number s ∷ ts) = ended_by 44 (token_text (number s) ++ print_from true ts) refl refl
value_ended (boolean b ∷ ts) = ended_by 44 (token_text (boolean b) ++ print_from true ts) refl refl
value_ended (null ∷ ts) = ended_by 44 (token_text null ++ print_from true ts) refl refl
value_ended (bad ∷ ts) = ended_by 44 (token_text bad ++ print_from true ts) refl refl

separator_printable : (b : Bool) → list_all is_printable (cond b (44 ∷ []) []) ≡ true
separator_printable true = refl
separator_printable false = refl

lex_separator : (b : Bool) (r q : List ℕ) → lex between r ≡ lex between q → lex between (cond b (44 ∷ []) [] ++ r) ≡ lex between (cond b (44 ∷ []) [] ++ q)
unfolding lex
lex_separator true r q e = ap (λ l. comma ∷ l) e
lex_separator false r q e = e

line_end : lex between (10 ∷ []) ≡ lex between []
unfolding lex
line_end = refl

line_lexed : (c : Bool) (ts : List Token) → AreTold ts → lex between (line (print_from c ts)) ≡ lex between (print_from c ts)
unfolding print_from
line_lexed c [] h = ap (λ t. lex between (t ++ 10 ∷ [])) (safe_plain [] refl) ∙ line_end
line_lexed c (t ∷ ts) h =
    let sep = separator c t in let rest = print_from (ends t) ts in
    let stands : line (sep ++ (token_text t ++ rest)) ≡ sep ++ (safe_json (token_text t) ++ line rest) =
    ap (λ l. l ++ 10 ∷ []) (plain_first sep (token_text t ++ rest) (separator_printable (c && begins t)) ∙ ap (λ l. sep ++ l) (safe_append (token_text t) rest (token_utf8 t h.0)))
    ∙ append_assoc sep (safe_json (token_text t) ++ safe_json rest) (10 ∷ [])
    ∙ ap (λ l. sep ++ l) (append_assoc (safe_json (token_text t)) (safe_json rest) (10 ∷ [])) in
    let alike : Alike t (line rest) rest = record {
      same = line_lexed (ends t) ts h.1;
      ended = λ e. subst (λ b. EndsBoth (print_from b ts)) (sym e) (value_ended ts);
    } in
    ap (lex between) stands
    ∙ lex_separator (c && begins t) (safe_json (token_text t) ++ line rest) (token_text t ++ rest) (token_lexed t (line rest) rest h.0 alike)

-- ---- a value

digit_printable : (n : ℕ) → n < 10 → is_printable (48 + n) ≡ true
digit_printable n small =
    let above : nat_lt 31 (48 + n) ≡ true = grind (arith, nat_tests) in
    let below : nat_lt (48 + n) 127 ≡ true = grind (arith, nat_tests) in
    rw (above, below) refl

decimal_printable : (n : ℕ) → n < 2 ^ 64 → list_all is_printable (decimal n) ≡ true
decimal_printable =
    decimal_by_steps (λ n ds. list_all is_printable ds ≡ true)
    (λ n small. let digit = digit_printable n small in rw digit refl)
    (λ n ds large before.
    let digit = digit_printable (n % 10) (omega arith) in
    list_all-append is_printable ds ((48 + n % 10) ∷ []) ∙ rw (before, digit) refl)

mutual
  unfolding IsTold

  diagnostic : (d : Data) → IsWritten d → AreTold (tree.json_tokens (outline d))
  diagnostic value.null h = (tt, tt)
  diagnostic (value.boolean b) h = (tt, tt)
  diagnostic (value.number (value.unsigned n)) h = ((IsNumber-decimal n h, decimal_printable n h), tt)
  diagnostic (value.number (value.negative z)) h = absurd h
  diagnostic (value.number (value.float x)) h = absurd h
  diagnostic (value.string s) h = (h, tt)
  diagnostic (value.array ds) h = (tt, items_told ds h)
  diagnostic (value.object ms) h = (tt, members_told ms h)

  items_told : (ds : Items) → ItemsWritten ds → AreTold (tree.items_tokens (items_outline ds))
  items_told value.no_items h = (tt, tt)
  items_told (value.item d ds) h = told_both (tree.json_tokens (outline d)) (tree.items_tokens (items_outline ds)) (diagnostic d h.0) (items_told ds h.1)

  members_told : (ms : Members) → MembersWritten ms → AreTold (tree.members_tokens (members_outline ms))
  members_told value.no_members h = (tt, tt)
  members_told (value.member k d ms) h = (h.0, told_both (tree.json_tokens (outline d)) (tree.members_tokens (members_outline ms)) (diagnostic d h.1) (members_told ms h.2))

abbrev value_of : List Lexeme → Option Data
value_of lexemes = option_and_then of_json (option_and_then (λ p. json.if_last p.0 p.1) (json.value max_depth (punctuate fresh lexemes)))

-- the line of a value is read as its text
pub reads_back : (d : Data) → IsWritten d → read (safe_json (compact_text d) ++ codes "\n") ≡ read (compact_text d)
reads_back d h =
    subst (λ t. read (safe_json t ++ codes "\n") ≡ read t) (print-outline d)
    (ap value_of (line_lexed false (tree.json_tokens (outline d)) (diagnostic d h)))
