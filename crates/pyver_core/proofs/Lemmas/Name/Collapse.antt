-- The normal form of a name, read character by character from the left.
use Rattle.std.proofs.Common.{◌≡◌, ℕ, ◌+◌, ◌-◌, ◌/◌, ◌%◌, ◌<◌, ◌≤◌, Bool, true, false, List, [], ◌∷◌, ◌++◌, length, take, drop, refl, sym, ap, ◌∙◌, arith, inl, inr, append_assoc, append-nil}
use Rattle.std.proofs.lemmas.Bool.{cases_Bool}
use Rattle.std.proofs.lemmas.Bool.Decides.{nat_tests}
use Rattle.std.proofs.lemmas.List.{drop-drop, length-take-le, take-append-drop}
use Rattle.std.proofs.lemmas.Str.{encode_ascii}
use Rattle.std.specs.Char.{to_ascii_lowercase}
use Rattle.std.specs.Prelude.{if◌then◌else◌, nat_lt}
use lib.Utf8.{encode}
use Rattle.pytext.specs.Bytes.{is_separator}
use Rattle.pyver_core.specs.Inner.Names.{added}
use Rattle.pyver_core.specs.Name.{normal_name}

-- the normal form of what follows, by whether the character before is a separator
unfoldable pub collapse : Bool → List ℕ → List ℕ
collapse in_run [] = []
collapse true (b ∷ rest) = if is_separator b then collapse true rest else to_ascii_lowercase b ∷ collapse false rest
collapse false (b ∷ rest) = if is_separator b then 45 ∷ collapse true rest else to_ascii_lowercase b ∷ collapse false rest

mutual
  unfolding normal_name collapse

  normal_name-run : (b : ℕ) (rest : List ℕ) → is_separator b ≡ true → normal_name (b ∷ rest) ≡ 45 ∷ collapse true rest
  normal_name-run b [] separates = rw separates refl
  normal_name-run b (c ∷ rest) separates = elim (cases_Bool (is_separator c)) [
    | inl more ↦ rw (separates, more) (rw more at (normal_name-run c rest more))
    | inr other ↦ rw (separates, other) (ap (λ (name : List ℕ). 45 ∷ to_ascii_lowercase c ∷ name) (normal_name-collapse rest))
  ]

  pub normal_name-collapse : (text : List ℕ) → normal_name text ≡ collapse false text
  normal_name-collapse [] = refl
  normal_name-collapse (b ∷ rest) = elim (cases_Bool (is_separator b)) [
    | inl separates ↦ normal_name-run b rest separates ∙ rw separates refl
    | inr other ↦ rw other (ap (λ (name : List ℕ). to_ascii_lowercase b ∷ name) (normal_name-collapse rest))
  ]

-- separators are ASCII
separator-ascii : (c : ℕ) → is_separator c ≡ true → c < 128
separator-ascii c separates = grind (arith, nat_tests)

other-above_ascii : (c : ℕ) → 128 ≤ c → is_separator c ≡ false
other-above_ascii c high = grind (arith, nat_tests)

lowercase-above_ascii : (c : ℕ) → 128 ≤ c → to_ascii_lowercase c ≡ c
lowercase-above_ascii c high = grind (arith, nat_tests)

lowercase-ascii : (c : ℕ) → c < 128 → to_ascii_lowercase c < 128
lowercase-ascii c low = grind (arith, nat_tests)

-- no byte is ASCII
abbrev AllAbove : List ℕ → Type 0
AllAbove [] = Unit {0}
AllAbove (b ∷ rest) = (128 ≤ b) × AllAbove rest

collapse-above : (bytes rest : List ℕ) → AllAbove bytes → collapse false (bytes ++ rest) ≡ bytes ++ collapse false rest
unfolding collapse
collapse-above [] rest above = refl
collapse-above (b ∷ bytes) rest above =
    rw (other-above_ascii b above.0, lowercase-above_ascii b above.0) (ap (λ (name : List ℕ). b ∷ name) (collapse-above bytes rest above.1))

collapse-first_above : (in_run : Bool) (b : ℕ) (bytes rest : List ℕ) → 128 ≤ b → AllAbove bytes
    → collapse in_run ((b ∷ bytes) ++ rest) ≡ (b ∷ bytes) ++ collapse false rest
unfolding collapse
collapse-first_above true b bytes rest first above =
    rw (other-above_ascii b first, lowercase-above_ascii b first) (ap (λ (name : List ℕ). b ∷ name) (collapse-above bytes rest above))
collapse-first_above false b bytes rest first above =
    rw (other-above_ascii b first, lowercase-above_ascii b first) (ap (λ (name : List ℕ). b ∷ name) (collapse-above bytes rest above))

-- the bytes of a character past ASCII
record IsAbove (bytes : List ℕ) : Type 0 where
  first : ℕ
  others : List ℕ
  whole : bytes ≡ first ∷ others
  high : 128 ≤ first
  above : AllAbove others

encode-above : (c : ℕ) → 128 ≤ c → IsAbove (encode c)
unfolding encode
encode-above c high =
    let some : nat_lt c 128 ≡ false = grind (arith, nat_tests) in
    elim (cases_Bool (nat_lt c 2048)) [
      | inl two ↦ record { first = 192 + c / 64; others = (128 + c % 64) ∷ []; whole = rw (some, two) refl; high = omega arith; above = (omega arith, tt) }
      | inr more ↦ elim (cases_Bool (nat_lt c 65536)) [
        | inl three ↦ record {
          first = 224 + c / 4096;
          others = (128 + c / 64 % 64) ∷ (128 + c % 64) ∷ [];
          whole = rw (some, more, three) refl;
          high = omega arith;
          above = (omega arith, (omega arith, tt));
        }
        | inr four ↦ record {
          first = 240 + c / 262144;
          others = (128 + c / 4096 % 64) ∷ (128 + c / 64 % 64) ∷ (128 + c % 64) ∷ [];
          whole = rw (some, more, four) refl;
          high = omega arith;
          above = (omega arith, (omega arith, (omega arith, tt)));
        }
      ]
    ]

collapse-other_ascii : (in_run : Bool) (c : ℕ) (rest : List ℕ) → is_separator c ≡ false → collapse in_run (c ∷ rest) ≡ to_ascii_lowercase c ∷ collapse false rest
unfolding collapse
collapse-other_ascii true c rest other = rw other refl
collapse-other_ascii false c rest other = rw other refl

-- a character that is no separator
collapse-other : (in_run : Bool) (c : ℕ) (rest : List ℕ) → is_separator c ≡ false
    → collapse in_run (encode c ++ rest) ≡ encode (to_ascii_lowercase c) ++ collapse false rest
collapse-other in_run c rest other = elim (cases_Bool (nat_lt c 128)) [
  | inl ascii ↦
      let low : c < 128 = grind (arith, nat_tests) in
      rw (encode_ascii c low, encode_ascii (to_ascii_lowercase c) (lowercase-ascii c low)) (collapse-other_ascii in_run c rest other)
  | inr above ↦
      let high : 128 ≤ c = grind (arith, nat_tests) in
      let e = encode-above c high in
      rw (lowercase-above_ascii c high, e.whole) (collapse-first_above in_run e.first e.others rest e.high e.above)
]

-- the first separator of a run, and a further one
collapse-first : (c : ℕ) (rest : List ℕ) → is_separator c ≡ true → collapse false (encode c ++ rest) ≡ 45 ∷ collapse true rest
unfolding collapse
collapse-first c rest separates = rw (encode_ascii c (separator-ascii c separates), separates) refl

collapse-further : (c : ℕ) (rest : List ℕ) → is_separator c ≡ true → collapse true (encode c ++ rest) ≡ collapse true rest
unfolding collapse
collapse-further c rest separates = rw (encode_ascii c (separator-ascii c separates), separates) refl

-- one step of the reading: what is written so far, and what is still to come
pub step-other : (name whole bytes : List ℕ) (in_run : Bool) (c : ℕ) (rest : List ℕ) → is_separator c ≡ false
    → bytes ≡ encode c ++ rest → name ++ collapse in_run bytes ≡ whole
    → (name ++ encode (to_ascii_lowercase c)) ++ collapse false rest ≡ whole
step-other name whole bytes in_run c rest other e so_far =
    append_assoc name (encode (to_ascii_lowercase c)) (collapse false rest)
    ∙ ap (λ (more : List ℕ). name ++ more) (sym (collapse-other in_run c rest other) ∙ ap (collapse in_run) (sym e)) ∙ so_far

pub step-first : (name whole bytes : List ℕ) (c : ℕ) (rest : List ℕ) → is_separator c ≡ true
    → bytes ≡ encode c ++ rest → name ++ collapse false bytes ≡ whole
    → (name ++ encode 45) ++ collapse true rest ≡ whole
unfolding encode
step-first name whole bytes c rest separates e so_far =
    append_assoc name (45 ∷ []) (collapse true rest)
    ∙ ap (λ (more : List ℕ). name ++ more) (sym (collapse-first c rest separates) ∙ ap (collapse false) (sym e)) ∙ so_far

pub step-further : (name whole bytes : List ℕ) (c : ℕ) (rest : List ℕ) → is_separator c ≡ true
    → bytes ≡ encode c ++ rest → name ++ collapse true bytes ≡ whole → name ++ collapse true rest ≡ whole
step-further name whole bytes c rest separates e so_far =
    ap (λ (more : List ℕ). name ++ more) (sym (collapse-further c rest separates) ∙ ap (collapse true) (sym e)) ∙ so_far

pub last-step : (name whole bytes : List ℕ) (in_run : Bool) → bytes ≡ [] → name ++ collapse in_run bytes ≡ whole → name ≡ whole
unfolding collapse
last-step name whole bytes in_run e so_far = sym (append-nil name) ∙ ap (λ (rest : List ℕ). name ++ collapse in_run rest) (sym e) ∙ so_far

-- ---- the same, written into a buffer byte by byte

collapse-added : (in_run : Bool) (b : ℕ) (rest : List ℕ) → collapse in_run (b ∷ rest) ≡ added in_run b ++ collapse (is_separator b) rest
unfolding collapse
collapse-added true b rest = elim (cases_Bool (is_separator b)) [ inl separates ↦ rw separates refl | inr other ↦ rw other refl ]
collapse-added false b rest = elim (cases_Bool (is_separator b)) [ inl separates ↦ rw separates refl | inr other ↦ rw other refl ]

-- what stands before a place, and what is still to come
pub written_more : (out out' whole bytes rest : List ℕ) (in_run : Bool) (b count count' : ℕ) → bytes ≡ b ∷ rest
    → take count' out' ≡ take count out ++ added in_run b → take count out ++ collapse in_run bytes ≡ whole
    → take count' out' ++ collapse (is_separator b) rest ≡ whole
written_more out out' whole bytes rest in_run b count count' e put so_far =
    ap (λ (front : List ℕ). front ++ collapse (is_separator b) rest) put
    ∙ append_assoc (take count out) (added in_run b) (collapse (is_separator b) rest)
    ∙ ap (λ (more : List ℕ). take count out ++ more) (sym (collapse-added in_run b rest) ∙ ap (collapse in_run) (sym e))
    ∙ so_far

-- what stands behind it
pub behind_more : (out out' old : List ℕ) (count count' : ℕ) → count ≤ count' → drop count' out' ≡ drop count' out
    → drop count out ≡ drop count old → drop count' out' ≡ drop count' old
behind_more out out' old count count' more put so_far =
    let step : ℕ = count' - count in
    let there : count + step ≡ count' = omega arith in
    put ∙ ap (λ (n : ℕ). drop n out) (sym there) ∙ sym (drop-drop step count out) ∙ ap (drop step) so_far
    ∙ drop-drop step count old ∙ ap (λ (n : ℕ). drop n old) there

pub all_written : (out old whole bytes : List ℕ) (in_run : Bool) (count : ℕ) → bytes ≡ [] → take count out ++ collapse in_run bytes ≡ whole
    → drop count out ≡ drop count old → out ≡ whole ++ drop count old
all_written out old whole bytes in_run count e so_far behind =
    sym (take-append-drop count out)
    ∙ ap (λ (front : List ℕ). front ++ drop count out) (last-step (take count out) whole bytes in_run e so_far)
    ∙ ap (λ (more : List ℕ). whole ++ more) behind

pub all_counted : (out whole bytes : List ℕ) (in_run : Bool) (count : ℕ) → count ≤ length out → bytes ≡ []
    → take count out ++ collapse in_run bytes ≡ whole → count ≡ length whole
all_counted out whole bytes in_run count within e so_far =
    sym (length-take-le count out within) ∙ ap length (last-step (take count out) whole bytes in_run e so_far)
