-- Texts that are given to a terminal: how far one needs no change, and what is given of it round a character that steers.
use Rattle.std.proofs.Common.{◌<◌, ◌≡◌, cond, ℕ, ◌&&◌, Bool, ◌+◌, true, false, List, [], ◌++◌, flat_map, length, take, refl, sym, ap, ◌∙◌, subst, append_assoc, append-nil, length-append, arith}
use Rattle.std.proofs.Math.Seq.{take-append_seam}
use Rattle.std.proofs.lemmas.Grind.{flat_map-append}
use Rattle.std.proofs.lemmas.List.{nil_from_length}
use Rattle.std.proofs.lemmas.Str.{cons_from_encodes, chars-nil, chars-append, chars_past_char, IsUtf8-append, IsUtf8-nil, IsUtf8-encode, IsCharBoundary-at_seam, length-encode, len_utf8_bounds}
use Rattle.std.specs.Char.{encode_utf8, len_utf8, IsScalar}
use Rattle.std.specs.Str.{IsUtf8, IsCharBoundary, all_scalars, chars}
use Rattle.pylock_shown.specs.Visible.{control_text}
use Rattle.pylock_run.specs.Stream.Terminal.{steers_terminal, terminal_character, terminal_text}

-- the first n bytes of the text are a text that needs no change, and the rest is left
pub record Plain (text : List ℕ) (n : ℕ) (rest : List ℕ) : Type 0 where
  pub front : List ℕ
  pub split : text ≡ front ++ rest
  pub len : n ≡ length front
  pub utf8 : IsUtf8 front
  pub same : terminal_text front ≡ front

pub terminal_text-append : (xs ys : List ℕ) → IsUtf8 xs → terminal_text (xs ++ ys) ≡ terminal_text xs ++ terminal_text ys
terminal_text-append xs ys utf8 =
    ap (flat_map terminal_character) (chars-append xs ys utf8) ∙ flat_map-append terminal_character (chars xs) (chars ys)

-- a character and the text behind it
pub terminal_text_past : (text rest : List ℕ) (c : ℕ) → IsUtf8 text → text ≡ encode_utf8 c ++ rest → terminal_text text ≡ terminal_character c ++ terminal_text rest
terminal_text_past text rest c utf8 split = ap (flat_map terminal_character) (chars_past_char text rest c utf8 split)

terminal_text_one : (c : ℕ) → IsScalar c → steers_terminal c ≡ false → terminal_text (encode_utf8 c) ≡ encode_utf8 c
terminal_text_one c scalar plain =
    terminal_text_past (encode_utf8 c) [] c (IsUtf8-encode c scalar) (sym (append-nil (encode_utf8 c)))
    ∙ ap (λ b. cond b (control_text c) (encode_utf8 c) ++ terminal_text []) plain
    ∙ ap (λ cs. encode_utf8 c ++ flat_map terminal_character cs) chars-nil ∙ append-nil (encode_utf8 c)

and_first : (a b : Bool) → (a && b) ≡ true → a ≡ true
and_first true b both = refl
and_first false b both = both

-- what a text begins with is a character
first_scalar : (text rest : List ℕ) (c : ℕ) → IsUtf8 text → text ≡ encode_utf8 c ++ rest → IsScalar c
first_scalar text rest c utf8 split =
    let first = cons_from_encodes utf8.0 rest c (utf8.1.1 ∙ split) in
    and_first _ (all_scalars first.0) (sym (ap all_scalars first.1) ∙ utf8.1.0)

pub Plain-none : (text : List ℕ) → Plain text 0 text
Plain-none text = record { front = []; split = refl; len = refl; utf8 = IsUtf8-nil; same = ap (flat_map terminal_character) chars-nil }

pub Plain-more : (text rest behind : List ℕ) (n c : ℕ) → Plain text n rest → IsUtf8 rest → rest ≡ encode_utf8 c ++ behind → steers_terminal c ≡ false
    → Plain text (n + len_utf8 c) behind
Plain-more text rest behind n c before utf8 next plain = let scalar = first_scalar rest behind c utf8 next in record {
  front = before.front ++ encode_utf8 c;
  split = before.split ∙ ap (λ r. before.front ++ r) next ∙ sym (append_assoc before.front (encode_utf8 c) behind);
  len = ap (λ m. m + len_utf8 c) before.len ∙ ap (λ m. length before.front + m) (sym (length-encode c))
      ∙ sym (length-append before.front (encode_utf8 c));
  utf8 = IsUtf8-append before.front (encode_utf8 c) before.utf8 (IsUtf8-encode c scalar);
  same = terminal_text-append before.front (encode_utf8 c) before.utf8 ∙ ap (λ t. t ++ terminal_text (encode_utf8 c)) before.same
      ∙ ap (λ t. before.front ++ t) (terminal_text_one c scalar plain);
}

pub Plain-all : (text rest : List ℕ) (n : ℕ) → Plain text n rest → length rest ≡ 0 → terminal_text text ≡ text
Plain-all text rest n before none =
    let whole = before.split ∙ ap (λ r. before.front ++ r) (nil_from_length rest none) ∙ append-nil before.front in
    ap terminal_text whole ∙ before.same ∙ sym whole

Plain-front : (text rest : List ℕ) (n : ℕ) (before : Plain text n rest) → take n text ≡ before.front
Plain-front text rest n before = ap (λ m. take m text) before.len ∙ ap (take (length before.front)) before.split ∙ take-append_seam before.front rest

-- what is given of a text round a character that steers
pub Plain-found : (text rest behind front : List ℕ) (n c : ℕ) → Plain text n rest → IsUtf8 rest → rest ≡ encode_utf8 c ++ behind → steers_terminal c ≡ true
    → front ≡ take n text → terminal_text text ≡ (front ++ control_text c) ++ terminal_text behind
Plain-found text rest behind front n c before utf8 next steers taken =
    ap terminal_text before.split ∙ terminal_text-append before.front rest before.utf8 ∙ ap (λ t. t ++ terminal_text rest) before.same
    ∙ ap (λ t. before.front ++ t) (terminal_text_past rest behind c utf8 next ∙ ap (λ b. cond b (control_text c) (encode_utf8 c) ++ terminal_text behind) steers)
    ∙ ap (λ t. t ++ (control_text c ++ terminal_text behind)) (sym (taken ∙ Plain-front text rest n before))
    ∙ sym (append_assoc front (control_text c) (terminal_text behind))

pub Plain-less : (text rest behind : List ℕ) (n c : ℕ) → Plain text n rest → rest ≡ encode_utf8 c ++ behind → length behind < length text
Plain-less text rest behind n c before next = omega (
  arith,
  ap length before.split ∙ length-append before.front rest,
  ap length next ∙ length-append (encode_utf8 c) behind,
  length-encode c,
  (len_utf8_bounds c).0,
)

pub Plain-boundary : (text rest : List ℕ) (n : ℕ) → Plain text n rest → IsUtf8 rest → IsCharBoundary text n
Plain-boundary text rest n before utf8 = subst (IsCharBoundary text) (sym before.len) (IsCharBoundary-at_seam text before.front rest before.split utf8)

-- the number of a character behind an empty text
pub number_is : (number items start : List ℕ) (c : ℕ) → number ≡ items → items ≡ start ++ control_text c → start ≡ [] → number ≡ control_text c
number_is number items start c same pushed none = same ∙ pushed ∙ ap (λ t. t ++ control_text c) none
