-- Basic strings on one line, piece by piece.
use Rattle.std.proofs.Common.{◌≡◌, ℕ, zero, suc, ◌+◌, ◌<◌, Bool, true, false, ◌==◌, ◌&&◌, List, [], ◌∷◌, ◌++◌, length, get_or, take, drop, Some, refl, sym, ap, ◌∙◌, inl, inr, arith}
use Rattle.std.proofs.lemmas.Bool.{cases_Bool, and_parts}
use Rattle.std.proofs.lemmas.Bool.Decides.{nat_tests}
use Rattle.std.proofs.lemmas.List.{append-nil, take-append-drop}
use Rattle.std.specs.List.{list_all, prefix_len}
use Rattle.std.specs.Str.{IsCharBoundary}
use Rattle.toml_parser.specs.Lexical.{first}
use Rattle.toml_parser.specs.Strings.{is_plain, special, body, escape, one_line, prepend, quoted}
use Rattle.toml_parser.proofs.LexicalLemmas.{IsCharBoundary-wide_run}
use Rattle.toml_parser.proofs.StringsLemmas.{after_special, body_plain, body_special, prepend-nil, prepend-prepend}
use Rattle.std.specs.Prelude.{Result}
use Rattle.std.specs.Borrow.{Bor}
use Rattle.pytoml.specs.declared.fault.Unread.{Unread}
use Rattle.pytoml.specs.Inner.{Reads}
use Rattle.pytoml.specs.Text.{is_simple, Escapes, GoesOn}

plain_from_simple : (c : ℕ) → is_simple c ≡ true → is_plain 34 false c ≡ true
plain_from_simple c h = grind (arith, nat_tests)

at_quote : (m : ℕ) (text : List ℕ) → first text ≡ 34 → after_special 34 false m text ≡ Some ([], drop 1 text)
unfolding special
at_quote m text e = rw e

-- the quote ends the string
pub body_ends : (n : ℕ) (text : List ℕ) → first text ≡ 34 → 0 < n → body 34 false n text ≡ Some ([], drop 1 text)
body_ends zero text e some = absurd (omega arith)
body_ends (suc n) text e some = body_special 34 false n text (rw e refl) ∙ at_quote n text e

body_all : (front rest : List ℕ) (n : ℕ) → list_all (is_plain 34 false) front ≡ true → length (front ++ rest) < n
    → (m : ℕ) × (length rest < m) × (body 34 false n (front ++ rest) ≡ prepend front (body 34 false m rest))
body_all [] rest n all capacity = (n, capacity, sym (prepend-nil _))
body_all (c ∷ cs) rest zero all capacity = absurd (omega arith)
body_all (c ∷ cs) rest (suc n) all capacity =
    let (here, behind) = and_parts (is_plain 34 false c) (list_all (is_plain 34 false) cs) all in
    let (m, fits, run) = body_all cs rest n behind (omega arith) in
    (m, fits, body_plain 34 false n c (cs ++ rest) here ∙ ap (prepend (c ∷ [])) run ∙ prepend-prepend (c ∷ []) cs _)

-- a run is taken as it is
pub run_on : (s : List ℕ) (k : ℕ) (old new : List ℕ) → list_all (is_plain 34 false) (take k s) ≡ true → new ≡ old ++ take k s → GoesOn s old (drop k s) new
run_on s k old new all grown n capacity =
    let whole = take-append-drop k s in
    let (m, fits, run) = body_all (take k s) (drop k s) n all (rw whole capacity) in
    (m, fits, ap (λ t. prepend old (body 34 false n t)) (sym whole) ∙ ap (prepend old) run ∙ prepend-prepend old (take k s) _ ∙ rw (← grown) refl)

after_escape : (n : ℕ) (s bytes rest : List ℕ) → first s ≡ 92 → escape false (drop 1 s) ≡ Some (bytes, rest)
    → after_special 34 false n s ≡ prepend bytes (body 34 false n rest)
unfolding special
after_escape n s bytes rest e read = rw (e, read) refl

-- an escape adds what it stands for
pub escape_on : (s rest old new : List ℕ) → first s ≡ 92 → Escapes (drop 1 s) old rest new → length rest < length s → GoesOn s old rest new
escape_on s rest old new e (bytes, read, grown) shorter zero capacity = absurd (omega arith)
escape_on s rest old new e (bytes, read, grown) shorter (suc n) capacity = (
  n,
  omega arith,
  ap (prepend old) (body_special 34 false n s (rw e refl) ∙ after_escape n s bytes rest e read) ∙ prepend-prepend old bytes _ ∙ rw (← grown) refl,
)

-- bytes that pass a test also pass a weaker one
all-weaker : (p q : ℕ → Bool) (xs : List ℕ) → ((c : ℕ) → p c ≡ true → q c ≡ true) → list_all p xs ≡ true → list_all q xs ≡ true
all-weaker p q [] weaker all = refl
all-weaker p q (c ∷ cs) weaker all =
    let (here, behind) = and_parts (p c) (list_all p cs) all in
    rw (weaker c here) (all-weaker p q cs weaker behind)

pub all_run : (p : ℕ → Bool) (xs : List ℕ) → list_all p (take (prefix_len p xs) xs) ≡ true
all_run p [] = refl
all_run p (c ∷ cs) = elim (cases_Bool (p c)) [
  | inl pass ↦
      let more : 1 + prefix_len p cs ≡ suc (prefix_len p cs) = omega arith in
      rw (pass, more, pass) (all_run p cs)
  | inr other ↦ rw other refl
]

pub plain_run : (xs : List ℕ) → list_all (is_plain 34 false) (take (prefix_len is_simple xs) xs) ≡ true
plain_run xs = all-weaker is_simple (is_plain 34 false) (take (prefix_len is_simple xs) xs) plain_from_simple (all_run is_simple xs)

-- the whole string, where it stands on one line
pub quoted_on_line : (s : List ℕ) → first s ≡ 34 → (get_or s 1 0 == 34 && get_or s 2 0 == 34) ≡ false → quoted s ≡ body 34 false (length s) (drop 1 s)
unfolding quoted one_line
quoted_on_line s e other = rw (e, other) refl

at_end : (s : List ℕ) (end : ℕ) → end ≡ 0 + prefix_len is_simple s → end ≡ prefix_len is_simple s
at_end s end is = omega (arith, is)

pub simple_run : (s : List ℕ) (end : ℕ) → end ≡ 0 + prefix_len is_simple s → list_all (is_plain 34 false) (take end s) ≡ true
simple_run s end is = rw (at_end s end is) (plain_run s)

-- a run of simple bytes ends where a character does
pub simple_boundary : (s : List ℕ) (end : ℕ) → end ≡ 0 + prefix_len is_simple s → IsCharBoundary s end
simple_boundary s end is = rw (at_end s end is) (IsCharBoundary-wide_run is_simple s (λ b e. grind (arith, nat_tests)))

front_on : (s : List ℕ) (end : ℕ) → end ≡ 0 + prefix_len is_simple s → GoesOn s [] (drop end s) (take end s)
front_on s end is = run_on s end [] (take end s) (simple_run s end is) refl

-- the string is the run up to the quote
pub string_ends : (s : List ℕ) (end n : ℕ) → end ≡ 0 + prefix_len is_simple s → first (drop end s) ≡ 34 → length s < n
    → body 34 false n s ≡ Some (take end s, drop 1 (drop end s))
string_ends s end n is closing capacity =
    let (m, fits, on) = front_on s end is n capacity in
    sym (prepend-nil _) ∙ on ∙ ap (prepend (take end s)) (body_ends m (drop end s) closing (omega arith)) ∙ rw (append-nil (take end s)) refl

-- the string is the run, and what is read behind it
pub string_goes_on : (s : List ℕ) {A : Type 0} (f : A → List ℕ) (r : Result (A × Bor (List ℕ)) Unread) (end n : ℕ) → end ≡ 0 + prefix_len is_simple s
    → ((m : ℕ) → length (drop end s) < m → Reads f r (prepend (take end s) (body 34 false m (drop end s)))) → length s < n
    → Reads f r (body 34 false n s)
string_goes_on s f r end n is read capacity =
    let (m, fits, on) = front_on s end is n capacity in
    rw (sym (prepend-nil (body 34 false n s)) ∙ on) (read m fits)

-- what goes on, goes on
pub on_and_on : (s old rest new rest' new' : List ℕ) → GoesOn s old rest new → GoesOn rest new rest' new' → GoesOn s old rest' new'
on_and_on s old rest new rest' new' one two n capacity =
    let (m, fits, on) = one n capacity in
    let (k, short, more) = two m fits in
    (k, short, on ∙ more)

-- the string is empty
pub next_to_quote : (s : List ℕ) → get_or s 1 0 ≡ 34 → body 34 false (length s) (drop 1 s) ≡ Some ([], drop 2 s)
next_to_quote [] closing = absurd (omega arith)
next_to_quote (c ∷ []) closing = absurd (omega arith)
next_to_quote (c ∷ d ∷ cs) closing = body_ends (length (c ∷ d ∷ cs)) (d ∷ cs) closing (omega arith)
