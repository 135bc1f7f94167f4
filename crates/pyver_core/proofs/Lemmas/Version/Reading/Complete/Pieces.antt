-- A piece in the form that the grammar asks for is taken from the beginning of a text, and no more.
use Rattle.std.proofs.Common.{◌≡◌, ℕ, ◌≤◌, Bool, true, false, List, [], ◌∷◌, ◌++◌, length, take, drop, Option, Some, None, refl, sym, ap, subst, ◌∙◌, append_assoc, arith}
use Rattle.std.specs.Prelude.{codes, bytes_eq, ◌==◌}
use Rattle.std.specs.Char.{is_ascii_digit, is_ascii_alphanumeric, to_ascii_lowercase}
use Rattle.std.specs.Cmp.Lexicographic.{bytes_decides}
use Rattle.std.specs.List.{list_all, prefix_len}
use Rattle.std.specs.Str.{str_to_ascii_lowercase}
use Rattle.std.specs.Str.Parse.{digits_value}
use Rattle.std.proofs.lemmas.List.{take_at, drop_at, take-map, map-append, length-map}
use Rattle.std.proofs.lemmas.Bool.{eqb-true, cond-false, cond-true}
use Rattle.pytext.specs.Bytes.{is_separator, starts}
use Rattle.pyver_core.specs.Version.Grammar.{is_dot, IsOptionalSeparator, IsCount, IsNumber, IsWord, AreBehind, IsSegment}
use Rattle.pyver_core.specs.Version.Reading.{prepend_item, behind_at, many_at, after_separator, count_at, number_at, after_word, trailing_count_at, dotted_number_at, segment_of, segment_at, separated_segment_at, added_segment_at}
use Rattle.pyver_core.specs.declared.version.part.LocalPart.{LocalPart}
use Rattle.pyver_core.specs.declared.version.part.LocalPart.TheVariants.{Number, Text}
use Rattle.pyver_core.proofs.Lemmas.Version.Reading.FirstBytes.{is_letter, digit_not_separator, separator_not_alphanumeric}
use Rattle.pytext.proofs.BytesLemmas.{all_cons, drop_exact, starts_all, take_exact}
use Rattle.pyver_core.proofs.Lemmas.Version.Reading.Many.{Shrinks, dotted_shrinks, separated_shrinks, many_at-none, many_at-some}

-- ---- separators

pub no_separator : (text : List ℕ) → starts is_separator text ≡ false → after_separator text ≡ text
no_separator [] e = refl
no_separator (b ∷ rest) e = cond-false (is_separator b) rest (b ∷ rest) e

pub separator_complete : (before rest : List ℕ) → IsOptionalSeparator before → (before ≡ [] → starts is_separator rest ≡ false) → after_separator (before ++ rest) ≡ rest
separator_complete [] rest is stops = no_separator rest (stops refl)
separator_complete (b ∷ []) rest is stops = cond-true (is_separator b) rest (b ∷ rest) (all_cons is_separator b [] is.0).0
separator_complete (b ∷ c ∷ before) rest is stops = absurd (omega (arith, is.1))

-- ---- numbers

pub count_complete : (digits : List ℕ) (n : ℕ) (next : List ℕ) → IsCount digits n → starts is_ascii_digit next ≡ false → count_at (digits ++ next) ≡ (n, next)
count_complete digits n next is stops =
    rw (take_exact is_ascii_digit digits next is.digits stops, drop_exact is_ascii_digit digits next is.digits stops) (ap (λ (v : ℕ). (v, next)) is.value)

pub number_complete : (digits : List ℕ) (n : ℕ) (next : List ℕ) → IsNumber digits n → starts is_ascii_digit next ≡ false → number_at (digits ++ next) ≡ Some (n, next)
number_complete digits n next is stops =
    let starts_so : starts is_ascii_digit (digits ++ next) ≡ true = starts_all is_ascii_digit digits next is.0 is.1.digits in
    cond-true (starts is_ascii_digit (digits ++ next)) (Some (count_at (digits ++ next))) None starts_so ∙ ap (λ (x : ℕ × List ℕ). Some x) (count_complete digits n next is.1 stops)

pub no_number : (text : List ℕ) → starts is_ascii_digit text ≡ false → number_at text ≡ None
no_number text e = cond-false (starts is_ascii_digit text) (Some (count_at text)) None e

not_behind : (digits next : List ℕ) → list_all is_ascii_digit digits ≡ true → (digits ≡ [] → starts is_separator next ≡ false) → starts is_separator (digits ++ next) ≡ false
not_behind [] next all stops = stops refl
not_behind (b ∷ digits) next all stops = digit_not_separator b (all_cons is_ascii_digit b digits all).0

-- at most one separator and digits, after a word
pub tail_complete : (after digits : List ℕ) (n : ℕ) (next : List ℕ) → IsOptionalSeparator after → IsCount digits n → (after ++ digits ≡ [] → starts is_separator next ≡ false) → starts is_ascii_digit next ≡ false → trailing_count_at (after ++ (digits ++ next)) ≡ (n, next)
tail_complete after digits n next is_after is_digits greedy stops =
    let stops_after : after ≡ [] → starts is_separator (digits ++ next) ≡ false = λ no_after.
    not_behind digits next is_digits.digits (λ no_digits. greedy (ap (λ (a : List ℕ). a ++ digits) no_after ∙ no_digits)) in
    ap (λ (text : List ℕ). count_at text) (separator_complete after (digits ++ next) is_after stops_after) ∙ count_complete digits n next is_digits stops

-- ---- words

length_word : (word written : List ℕ) → IsWord word written → length written ≡ length word
length_word word written is = sym (length-map written to_ascii_lowercase) ∙ ap (λ (w : List ℕ). length w) is

-- the bytes of the word in lower case
take-lowercase : (n : ℕ) (word written rest : List ℕ) → IsWord word written → str_to_ascii_lowercase (take n (written ++ rest)) ≡ take n (word ++ str_to_ascii_lowercase rest)
take-lowercase n word written rest is = sym (take-map to_ascii_lowercase n (written ++ rest)) ∙ ap (λ (t : List ℕ). take n t) (map-append to_ascii_lowercase written rest ∙ ap (λ (t : List ℕ). t ++ str_to_ascii_lowercase rest) is)

pub word_complete : (word written rest : List ℕ) → IsWord word written → after_word word (written ++ rest) ≡ Some rest
word_complete word written rest is =
    let len = length_word word written is in
    let first : take (length word) (written ++ rest) ≡ written = take_at written rest (length word) len in
    let test : bytes_eq (str_to_ascii_lowercase (take (length word) (written ++ rest))) word ≡ true = (bytes_decides (str_to_ascii_lowercase (take (length word) (written ++ rest))) word).1 (ap (λ (t : List ℕ). str_to_ascii_lowercase t) first ∙ is) in
    cond-true (bytes_eq (str_to_ascii_lowercase (take (length word) (written ++ rest))) word) (Some (drop (length word) (written ++ rest))) None test ∙ ap (λ (t : List ℕ). Some t) (drop_at written rest (length word) len)

-- a text that begins with one word doesn't begin with another
pub other_word : (other word written rest : List ℕ) → IsWord word written → bytes_eq (take (length other) (word ++ str_to_ascii_lowercase rest)) other ≡ false → after_word other (written ++ rest) ≡ None
other_word other word written rest is e =
    cond-false (bytes_eq (str_to_ascii_lowercase (take (length other) (written ++ rest))) other) (Some (drop (length other) (written ++ rest))) None
    (ap (λ (t : List ℕ). bytes_eq t other) (take-lowercase (length other) word written rest is) ∙ e)

pub no_word : (c : ℕ) (word text : List ℕ) → starts (is_letter c) text ≡ false → after_word (c ∷ word) text ≡ None
no_word c word [] e = refl
no_word c word (b ∷ text) e = rw e refl

-- ---- items after a byte

-- an item is read
abbrev pub IsCompleteItem : {X : Type 0} → (ℕ → Bool) → (List ℕ → X → Type 0) → (List ℕ → Option (X × List ℕ)) → Type 0
IsCompleteItem {X} stop IsItem read = (item : List ℕ) (x : X) (next : List ℕ) → IsItem item x → starts stop next ≡ false → read (item ++ next) ≡ Some (x, next)

pub behind_complete : {X : Type 0} (opens stop : ℕ → Bool) (IsItem : List ℕ → X → Type 0) (read : List ℕ → Option (X × List ℕ)) → IsCompleteItem stop IsItem read → (b : ℕ) (item : List ℕ) (x : X) (next : List ℕ) → opens b ≡ true → IsItem item x → starts stop next ≡ false → behind_at opens read (b ∷ (item ++ next)) ≡ Some (x, next)
behind_complete opens stop IsItem read complete b item x next opened is stops = cond-true (opens b) (read (item ++ next)) None opened ∙ complete item x next is stops

pub not_behind_byte : {X : Type 0} (opens : ℕ → Bool) (read : List ℕ → Option (X × List ℕ)) (text : List ℕ) → starts opens text ≡ false → behind_at opens read text ≡ None
not_behind_byte opens read [] e = refl
not_behind_byte opens read (b ∷ rest) e = cond-false (opens b) (read rest) None e

abbrev pub IsCompleteBehind : {X : Type 0} → (ℕ → Bool) → (ℕ → Bool) → (List ℕ → X → Type 0) → (List ℕ → Option (X × List ℕ)) → Type 0
IsCompleteBehind {X} opens stop IsItem read = (b : ℕ) (item : List ℕ) (x : X) (next : List ℕ) → opens b ≡ true → IsItem item x → starts stop next ≡ false → read (b ∷ (item ++ next)) ≡ Some (x, next)

behind_starts : {X : Type 0} (opens stop : ℕ → Bool) (IsItem : List ℕ → X → Type 0) → ((b : ℕ) → opens b ≡ true → stop b ≡ false) → (piece : List ℕ) (xs : List X) (next : List ℕ) → AreBehind opens IsItem piece xs → starts stop next ≡ false → starts stop (piece ++ next) ≡ false
behind_starts opens stop IsItem apart piece [] next are stops = subst (λ (t : List ℕ). starts stop (t ++ next) ≡ false) (sym are) stops
behind_starts opens stop IsItem apart piece (x ∷ xs) next are stops = subst (λ (t : List ℕ). starts stop (t ++ next) ≡ false) (sym are.3) (apart are.0 are.4)

pub many_complete : {X : Type 0} (opens stop : ℕ → Bool) (IsItem : List ℕ → X → Type 0) (read : List ℕ → Option (X × List ℕ)) → Shrinks read → IsCompleteBehind opens stop IsItem read → ((b : ℕ) → opens b ≡ true → stop b ≡ false)
    → (piece : List ℕ) (xs : List X) (next : List ℕ) → AreBehind opens IsItem piece xs → starts stop next ≡ false → read next ≡ None → many_at read (piece ++ next) ≡ (xs, next)
many_complete opens stop IsItem read shrinks complete apart piece [] next are stops ends =
    ap (λ (t : List ℕ). many_at read (t ++ next)) are ∙ many_at-none read next ends
many_complete {X} opens stop IsItem read shrinks complete apart piece (x ∷ xs) next are stops ends =
    let rest = are.2 ++ next in
    let whole : piece ++ next ≡ are.0 ∷ (are.1 ++ rest) = ap (λ (t : List ℕ). t ++ next) are.3 ∙ ap (λ (t : List ℕ). are.0 ∷ t) (append_assoc are.1 are.2 next) in
    let first = complete are.0 are.1 x rest are.4 are.5 (behind_starts opens stop IsItem apart are.2 xs next are.6 stops) in
    let others = many_complete opens stop IsItem read shrinks complete apart are.2 xs next are.6 stops ends in
    ap (λ (t : List ℕ). many_at read t) whole ∙ (many_at-some read shrinks (are.0 ∷ (are.1 ++ rest)) (x, rest) first ∙ ap (λ (r : List X × List ℕ). prepend_item x r) others)

dot_not_digit : (b : ℕ) → is_dot b ≡ true → is_ascii_digit b ≡ false
dot_not_digit b e = rw (eqb-true b 46 e) refl

pub dotted_complete : (piece : List ℕ) (ns : List ℕ) (next : List ℕ) → AreBehind is_dot IsNumber piece ns → starts is_ascii_digit next ≡ false → dotted_number_at next ≡ None → many_at dotted_number_at (piece ++ next) ≡ (ns, next)
unfolding dotted_number_at
dotted_complete = many_complete is_dot is_ascii_digit IsNumber dotted_number_at dotted_shrinks (behind_complete is_dot is_ascii_digit IsNumber number_at number_complete) dot_not_digit

pub no_dotted : (text : List ℕ) → starts is_dot text ≡ false → dotted_number_at text ≡ None
unfolding dotted_number_at
no_dotted text e = not_behind_byte is_dot number_at text e

-- ---- segments

digit_alphanumeric : (b : ℕ) → is_ascii_digit b ≡ true → is_ascii_alphanumeric b ≡ true
digit_alphanumeric b e = rw e refl

all_alphanumeric : (run : List ℕ) → list_all is_ascii_digit run ≡ true → list_all is_ascii_alphanumeric run ≡ true
all_alphanumeric [] all = refl
all_alphanumeric (b ∷ run) all =
    let c = all_cons is_ascii_digit b run all in
    rw (digit_alphanumeric b c.0, all_alphanumeric run c.1) refl

segment_is : (run : List ℕ) (s : LocalPart) → IsSegment run s → (1 ≤ length run) × (list_all is_ascii_alphanumeric run ≡ true) × (segment_of run ≡ s)
segment_is run (Number n) is = (is.0, all_alphanumeric run is.1.digits, cond-true (list_all is_ascii_digit run) (Number (digits_value 10 run)) (Text (str_to_ascii_lowercase run)) is.1.digits ∙ ap (λ (v : ℕ). Number v) is.1.value)
segment_is [] (Text label) is = absurd (let n : true ≡ false = is.1 in cc)
segment_is (b ∷ run) (Text label) is = (omega arith, is.0, cond-false (list_all is_ascii_digit (b ∷ run)) (Number (digits_value 10 (b ∷ run))) (Text (str_to_ascii_lowercase (b ∷ run))) is.1 ∙ ap (λ (v : List ℕ). Text v) is.2)

segment_complete : IsCompleteItem is_ascii_alphanumeric IsSegment segment_at
unfolding segment_at
segment_complete run s next is stops =
    let i = segment_is run s is in
    let starts_so : starts is_ascii_alphanumeric (run ++ next) ≡ true = starts_all is_ascii_alphanumeric run next i.0 i.1 in
    let n = prefix_len is_ascii_alphanumeric (run ++ next) in
    cond-true (starts is_ascii_alphanumeric (run ++ next)) (Some (segment_of (take n (run ++ next)), drop n (run ++ next))) None starts_so
    ∙ (ap (λ (t : List ℕ). Some (segment_of t, drop n (run ++ next))) (take_exact is_ascii_alphanumeric run next i.1 stops)
    ∙ (ap (λ (t : List ℕ). Some (segment_of run, t)) (drop_exact is_ascii_alphanumeric run next i.1 stops) ∙ ap (λ (v : LocalPart). Some (v, next)) i.2))

pub separated_complete : (piece : List ℕ) (ss : List LocalPart) (next : List ℕ) → AreBehind is_separator IsSegment piece ss → starts is_ascii_alphanumeric next ≡ false → separated_segment_at next ≡ None → many_at separated_segment_at (piece ++ next) ≡ (ss, next)
unfolding separated_segment_at
separated_complete = many_complete is_separator is_ascii_alphanumeric IsSegment separated_segment_at separated_shrinks (behind_complete is_separator is_ascii_alphanumeric IsSegment segment_at segment_complete) separator_not_alphanumeric

pub separated_starts : (piece : List ℕ) (ss : List LocalPart) (next : List ℕ) → AreBehind is_separator IsSegment piece ss → starts is_ascii_alphanumeric next ≡ false → starts is_ascii_alphanumeric (piece ++ next) ≡ false
separated_starts = behind_starts is_separator is_ascii_alphanumeric IsSegment separator_not_alphanumeric

pub dotted_starts : (stop : ℕ → Bool) → stop 46 ≡ false → (piece : List ℕ) (ns : List ℕ) (next : List ℕ) → AreBehind is_dot IsNumber piece ns → starts stop next ≡ false → starts stop (piece ++ next) ≡ false
dotted_starts stop at_dot = behind_starts is_dot stop IsNumber (λ b e. rw (eqb-true b 46 e) at_dot)

pub no_separated : (text : List ℕ) → starts is_separator text ≡ false → separated_segment_at text ≡ None
unfolding separated_segment_at
no_separated text e = not_behind_byte is_separator segment_at text e

pub added_complete : (item : List ℕ) (s : LocalPart) (next : List ℕ) → IsSegment item s → starts is_ascii_alphanumeric next ≡ false → added_segment_at (codes "+" ++ (item ++ next)) ≡ Some (s, next)
unfolding added_segment_at
added_complete item s next is stops = segment_complete item s next is stops

pub no_added : (text : List ℕ) → starts (λ b. b == 43) text ≡ false → added_segment_at text ≡ None
unfolding added_segment_at
no_added text e = not_behind_byte (λ b. b == 43) segment_at text e
