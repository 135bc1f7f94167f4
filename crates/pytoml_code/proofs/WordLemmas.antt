-- Words and texts in front of other bytes: where the whole is the same, so are the parts.
use Rattle.std.proofs.Common.{◌≡◌, ◌≢◌, ◌∙◌, ◌++◌, ℕ, ◌/◌, ◌%◌, ◌<◌, ◌≤◌, ◌^◌, true, false, cond, List, [], ◌∷◌, replicate, suc, zero, refl, sym, ap, inl, inr, arith, append_assoc}
use Rattle.std.proofs.lemmas.Bool.{cases_Bool, false≢true}
use Rattle.std.proofs.lemmas.Bool.Decides.{nat_tests}
use Rattle.std.proofs.lemmas.Fmt.{digits_is_IsNumeral}
use Rattle.std.specs.Fmt.{digits}
use Rattle.std.specs.List.{flat_map, list_all}
use Rattle.std.specs.Str.Parse.{AllDigits}
use Rattle.toml_parser.specs.Lexical.{is_bare}
use Rattle.pytoml_code.specs.Text.{ended, escaped, hex_digit, is_bare_key, is_control, is_quoting, key_code, quoted}

pub cons_parts : (x y : ℕ) (xs ys : List ℕ) → x ∷ xs ≡ y ∷ ys → (x ≡ y) × (xs ≡ ys)
cons_parts x y xs ys e = (cc, cc)

-- ---- lists joined from the left

pub joined-3 : (a b c s : List ℕ) → ((a ++ b) ++ c) ++ s ≡ a ++ (b ++ (c ++ s))
joined-3 a b c s = append_assoc (a ++ b) c s ∙ append_assoc a b (c ++ s)

pub joined-4 : (a b c d s : List ℕ) → (((a ++ b) ++ c) ++ d) ++ s ≡ a ++ (b ++ (c ++ (d ++ s)))
joined-4 a b c d s = append_assoc ((a ++ b) ++ c) d s ∙ joined-3 a b c (d ++ s)

pub joined-5 : (a b c d e s : List ℕ) → ((((a ++ b) ++ c) ++ d) ++ e) ++ s ≡ a ++ (b ++ (c ++ (d ++ (e ++ s))))
joined-5 a b c d e s = append_assoc (((a ++ b) ++ c) ++ d) e s ∙ joined-4 a b c d (e ++ s)

pub joined-6 : (a b c d e f s : List ℕ) → (((((a ++ b) ++ c) ++ d) ++ e) ++ f) ++ s ≡ a ++ (b ++ (c ++ (d ++ (e ++ (f ++ s)))))
joined-6 a b c d e f s = append_assoc ((((a ++ b) ++ c) ++ d) ++ e) f s ∙ joined-5 a b c d e (f ++ s)

-- ---- words

abbrev pub Lacks : ℕ → List ℕ → Type 0
Lacks mark [] = Unit {0}
Lacks mark (b ∷ bs) = (b ≢ mark) × Lacks mark bs

word_parts : (m : ℕ) (v w s t : List ℕ) → Lacks m v → Lacks m w → v ++ m ∷ s ≡ w ++ m ∷ t → (v ≡ w) × (s ≡ t)
word_parts m [] [] s t n k e = (refl, (cons_parts m m s t e).1)
word_parts m [] (b ∷ w) s t n k e = absurd (k.0 (sym (cons_parts m b s (w ++ m ∷ t) e).0))
word_parts m (a ∷ v) [] s t n k e = absurd (n.0 (cons_parts a m (v ++ m ∷ s) t e).0)
word_parts m (a ∷ v) (b ∷ w) s t n k e =
    let heads = cons_parts a b (v ++ m ∷ s) (w ++ m ∷ t) e in
    let rests = word_parts m v w s t n.1 k.1 heads.1 in
    (λ i. heads.0 i ∷ rests.0 i, rests.1)

-- a word, a mark and more
pub marked_parts : (m : ℕ) (v w s t : List ℕ) (p q : List ℕ) → Lacks m v → Lacks m w → (v ++ m ∷ p) ++ s ≡ (w ++ m ∷ q) ++ t → (v ≡ w) × (p ++ s ≡ q ++ t)
marked_parts m v w s t p q n k e =
    word_parts m v w (p ++ s) (q ++ t) n k (sym (append_assoc v (m ∷ p) s) ∙ e ∙ append_assoc w (m ∷ q) t)

pub ended_parts : (v w s t : List ℕ) → Lacks 0 v → Lacks 0 w → ended v ++ s ≡ ended w ++ t → (v ≡ w) × (s ≡ t)
ended_parts v w s t n k e = marked_parts 0 v w s t [] [] n k e

pub lacks_zeros : (n : ℕ) → Lacks 1 (replicate n 48)
lacks_zeros zero = tt
lacks_zeros (suc n) = (λ e. omega arith, lacks_zeros n)

lacks_digits : (radix : ℕ) (bs : List ℕ) → radix ≤ 16 → AllDigits radix bs → Lacks 0 bs
lacks_digits radix [] low all = tt
lacks_digits radix (b ∷ bs) low all =
    (λ e. let big : 36 < radix = rw e at all.0 in omega arith, lacks_digits radix bs low all.1)

pub lacks_digits_of : (base : ℕ) → 2 ≤ base → base ≤ 16 → (n : ℕ) → n < base ^ 64 → Lacks 0 (digits base false n)
lacks_digits_of base low high n small = lacks_digits base (digits base false n) high (digits_is_IsNumeral base false low high n small).0.1

pub lacks_bare : (bs : List ℕ) → list_all is_bare bs ≡ true → Lacks 0 bs
lacks_bare [] all = tt
lacks_bare (b ∷ bs) all = elim (cases_Bool (is_bare b)) [
  | inl is ↦ (λ e. let none : is_bare 0 ≡ true = rw e at is in absurd (false≢true none), lacks_bare bs (rw is at all))
  | inr other ↦ absurd (false≢true (rw other at all))
]

-- ---- bytes of texts

hex_exact : (m n : ℕ) → hex_digit m ≡ hex_digit n → m ≡ n
hex_exact m n e = grind (arith, nat_tests)

-- how a byte is written
data Form (b : ℕ) : Type 0 where
  marked : is_quoting b ≡ true → escaped b ≡ 92 ∷ b ∷ [] → Form b
  numbered : is_quoting b ≡ false → escaped b ≡ 92 ∷ 117 ∷ 48 ∷ 48 ∷ hex_digit (b / 16) ∷ hex_digit (b % 16) ∷ [] → Form b
  plain : is_quoting b ≡ false → escaped b ≡ b ∷ [] → Form b

form_of : (b : ℕ) → Form b
form_of b = elim (cases_Bool (is_quoting b)) [
  | inl is ↦ marked is (ap (λ t. cond t (92 ∷ b ∷ []) (cond (is_control b) (92 ∷ 117 ∷ 48 ∷ 48 ∷ hex_digit (b / 16) ∷ hex_digit (b % 16) ∷ []) (b ∷ []))) is)
  | inr other ↦ elim (cases_Bool (is_control b)) [
    | inl is ↦ numbered other (λ i. cond (other i) (92 ∷ b ∷ []) (cond (is i) (92 ∷ 117 ∷ 48 ∷ 48 ∷ hex_digit (b / 16) ∷ hex_digit (b % 16) ∷ []) (b ∷ [])))
    | inr lacks ↦ plain other (λ i. cond (other i) (92 ∷ b ∷ []) (cond (lacks i) (92 ∷ 117 ∷ 48 ∷ 48 ∷ hex_digit (b / 16) ∷ hex_digit (b % 16) ∷ []) (b ∷ [])))
  ]
]

not_quoting : (b : ℕ) → is_quoting b ≡ false → (b ≡ 34 → ⊥) × (b ≡ 92 → ⊥)
not_quoting b lacks = (
  λ e. let is : true ≡ false = rw e at lacks in false≢true (sym is),
  λ e. let is : true ≡ false = rw e at lacks in false≢true (sym is),
)

byte_parts : (a b : ℕ) (s t : List ℕ) → Form a → Form b → escaped a ++ s ≡ escaped b ++ t → (a ≡ b) × (s ≡ t)
byte_parts a b s t (marked p f) (marked q g) e =
    let both : 92 ∷ a ∷ s ≡ 92 ∷ b ∷ t = (λ i. sym f i ++ s) ∙ e ∙ (λ i. g i ++ t) in
    let one = cons_parts 92 92 (a ∷ s) (b ∷ t) both in
    cons_parts a b s t one.1
byte_parts a b s t (marked p f) (numbered q g) e =
    let rest = 48 ∷ 48 ∷ hex_digit (b / 16) ∷ hex_digit (b % 16) ∷ t in
    let both : 92 ∷ a ∷ s ≡ 92 ∷ 117 ∷ rest = (λ i. sym f i ++ s) ∙ e ∙ (λ i. g i ++ t) in
    let two = cons_parts a 117 s rest (cons_parts 92 92 (a ∷ s) (117 ∷ rest) both).1 in
    let is : false ≡ true = rw two.0 at p in
    absurd (false≢true is)
byte_parts a b s t (marked p f) (plain q g) e =
    let both : 92 ∷ a ∷ s ≡ b ∷ t = (λ i. sym f i ++ s) ∙ e ∙ (λ i. g i ++ t) in
    absurd ((not_quoting b q).1 (sym (cons_parts 92 b (a ∷ s) t both).0))
byte_parts a b s t (numbered p f) (marked q g) e =
    let rest = 48 ∷ 48 ∷ hex_digit (a / 16) ∷ hex_digit (a % 16) ∷ s in
    let both : 92 ∷ 117 ∷ rest ≡ 92 ∷ b ∷ t = (λ i. sym f i ++ s) ∙ e ∙ (λ i. g i ++ t) in
    let two = cons_parts 117 b rest t (cons_parts 92 92 (117 ∷ rest) (b ∷ t) both).1 in
    let is : false ≡ true = rw (sym two.0) at q in
    absurd (false≢true is)
byte_parts a b s t (numbered p f) (numbered q g) e =
    let both : 92 ∷ 117 ∷ 48 ∷ 48 ∷ hex_digit (a / 16) ∷ hex_digit (a % 16) ∷ s ≡ 92 ∷ 117 ∷ 48 ∷ 48 ∷ hex_digit (b / 16) ∷ hex_digit (b % 16) ∷ t = (λ i. sym f i ++ s) ∙ e ∙ (λ i. g i ++ t) in
    let high : hex_digit (a / 16) ≡ hex_digit (b / 16) = cc in
    let low : hex_digit (a % 16) ≡ hex_digit (b % 16) = cc in
    let rest : s ≡ t = cc in
    let over : a / 16 ≡ b / 16 = hex_exact (a / 16) (b / 16) high in
    let under : a % 16 ≡ b % 16 = hex_exact (a % 16) (b % 16) low in
    (omega arith, rest)
byte_parts a b s t (numbered p f) (plain q g) e =
    let both : 92 ∷ 117 ∷ 48 ∷ 48 ∷ hex_digit (a / 16) ∷ hex_digit (a % 16) ∷ s ≡ b ∷ t = (λ i. sym f i ++ s) ∙ e ∙ (λ i. g i ++ t) in
    absurd ((not_quoting b q).1 (sym (cons_parts 92 b _ t both).0))
byte_parts a b s t (plain p f) (marked q g) e =
    let both : a ∷ s ≡ 92 ∷ b ∷ t = (λ i. sym f i ++ s) ∙ e ∙ (λ i. g i ++ t) in
    absurd ((not_quoting a p).1 (cons_parts a 92 s (b ∷ t) both).0)
byte_parts a b s t (plain p f) (numbered q g) e =
    let both : a ∷ s ≡ 92 ∷ 117 ∷ 48 ∷ 48 ∷ hex_digit (b / 16) ∷ hex_digit (b % 16) ∷ t = (λ i. sym f i ++ s) ∙ e ∙ (λ i. g i ++ t) in
    absurd ((not_quoting a p).1 (cons_parts a 92 s _ both).0)
byte_parts a b s t (plain p f) (plain q g) e =
    let both : a ∷ s ≡ b ∷ t = (λ i. sym f i ++ s) ∙ e ∙ (λ i. g i ++ t) in
    cons_parts a b s t both

-- no byte is written as a quotation mark alone
no_end : (a : ℕ) (s t : List ℕ) → Form a → escaped a ++ s ≡ 34 ∷ t → ⊥
no_end a s t (marked p f) e =
    let both : 92 ∷ a ∷ s ≡ 34 ∷ t = (λ i. sym f i ++ s) ∙ e in
    let heads = (cons_parts 92 34 (a ∷ s) t both).0 in
    omega arith
no_end a s t (numbered p f) e =
    let both : 92 ∷ 117 ∷ 48 ∷ 48 ∷ hex_digit (a / 16) ∷ hex_digit (a % 16) ∷ s ≡ 34 ∷ t = (λ i. sym f i ++ s) ∙ e in
    let heads = (cons_parts 92 34 _ t both).0 in
    omega arith
no_end a s t (plain p f) e =
    let both : a ∷ s ≡ 34 ∷ t = (λ i. sym f i ++ s) ∙ e in
    (not_quoting a p).0 (cons_parts a 34 s t both).0

bytes_parts : (v w s t : List ℕ) → flat_map escaped v ++ 34 ∷ s ≡ flat_map escaped w ++ 34 ∷ t → (v ≡ w) × (s ≡ t)
bytes_parts [] [] s t e = (refl, (cons_parts 34 34 s t e).1)
bytes_parts [] (b ∷ w) s t e =
    absurd (no_end b (flat_map escaped w ++ 34 ∷ t) s (form_of b) (sym (append_assoc (escaped b) (flat_map escaped w) (34 ∷ t)) ∙ sym e))
bytes_parts (a ∷ v) [] s t e =
    absurd (no_end a (flat_map escaped v ++ 34 ∷ s) t (form_of a) (sym (append_assoc (escaped a) (flat_map escaped v) (34 ∷ s)) ∙ e))
bytes_parts (a ∷ v) (b ∷ w) s t e =
    let heads = byte_parts a b (flat_map escaped v ++ 34 ∷ s) (flat_map escaped w ++ 34 ∷ t) (form_of a) (form_of b)
    (sym (append_assoc (escaped a) (flat_map escaped v) (34 ∷ s)) ∙ e ∙ append_assoc (escaped b) (flat_map escaped w) (34 ∷ t)) in
    let rests = bytes_parts v w s t heads.1 in
    (λ i. heads.0 i ∷ rests.0 i, rests.1)

pub quoted_parts : (v w s t : List ℕ) → quoted v ++ s ≡ quoted w ++ t → (v ≡ w) × (s ≡ t)
quoted_parts v w s t e =
    let inside = (cons_parts 34 34 ((flat_map escaped v ++ 34 ∷ []) ++ s) ((flat_map escaped w ++ 34 ∷ []) ++ t) e).1 in
    bytes_parts v w s t (sym (append_assoc (flat_map escaped v) (34 ∷ []) s) ∙ inside ∙ append_assoc (flat_map escaped w) (34 ∷ []) t)

-- ---- keys

-- a bare key doesn't begin with a quotation mark
not_quoted : (v w s t : List ℕ) → is_bare_key v ≡ true → ended v ++ s ≡ quoted w ++ t → ⊥
not_quoted [] w s t bare e = false≢true bare
not_quoted (a ∷ v) w s t bare e =
    let head = (cons_parts a 34 ((v ++ 0 ∷ []) ++ s) ((flat_map escaped w ++ 34 ∷ []) ++ t) e).0 in
    let none : false ≡ true = rw head at bare in
    false≢true none

lacks_key : (v : List ℕ) → is_bare_key v ≡ true → Lacks 0 v
lacks_key [] bare = tt
lacks_key (a ∷ v) bare = lacks_bare (a ∷ v) bare

pub key_parts : (v w s t : List ℕ) → key_code v ++ s ≡ key_code w ++ t → (v ≡ w) × (s ≡ t)
key_parts v w s t e = elim (cases_Bool (is_bare_key v)) [
  | inl p ↦ elim (cases_Bool (is_bare_key w)) [
    | inl q ↦ ended_parts v w s t (lacks_key v p) (lacks_key w q) ((λ i. cond (sym p i) (ended v) (quoted v) ++ s) ∙ e ∙ (λ i. cond (q i) (ended w) (quoted w) ++ t))
    | inr q ↦ absurd (not_quoted v w s t p ((λ i. cond (sym p i) (ended v) (quoted v) ++ s) ∙ e ∙ (λ i. cond (q i) (ended w) (quoted w) ++ t)))
  ]
  | inr p ↦ elim (cases_Bool (is_bare_key w)) [
    | inl q ↦ absurd (not_quoted w v t s q (sym ((λ i. cond (sym p i) (ended v) (quoted v) ++ s) ∙ e ∙ (λ i. cond (q i) (ended w) (quoted w) ++ t))))
    | inr q ↦ quoted_parts v w s t ((λ i. cond (sym p i) (ended v) (quoted v) ++ s) ∙ e ∙ (λ i. cond (q i) (ended w) (quoted w) ++ t))
  ]
]
