-- Texts cut at a byte: what std's words say, in the words of `cut_at` and `pieces_at`.
use Rattle.std.proofs.Common.{◌≡◌, ℕ, suc, ◌+◌, ◌-◌, ◌<◌, true, false, ◌==◌, bytes_eq, List, [], ◌∷◌, ◌++◌, length, get_or, take, drop, Bool, Option, Some, None, option_map, MatchOption, Bor, refl, sym, subst, ap, ◌∙◌, inl, inr, arith}
use Rattle.std.proofs.Math.Seq.{drop-append_seam, take-append_seam}
use Rattle.std.proofs.lemmas.Bool.Decides.{Decides-eqb, nat_tests}
use Rattle.std.proofs.lemmas.List.{append_assoc, append_cancel_left, take-append-drop, length-append}
use Rattle.std.proofs.lemmas.List.Elements.{All-cons}
use Rattle.std.proofs.lemmas.List.Splits.{length-slice_split, slice_split_at, slice_split_none}
use Rattle.std.proofs.lemmas.Option.{same_Some}
use Rattle.std.specs.Cmp.Lexicographic.{bytes_decides}
use Rattle.std.specs.Str.Pattern.{FindsTextSuffix, StripsSuffix}
use Rattle.std.specs.List.{All, after_first, before_first, list_all, list_any, position_or_len, prefix_len}
use Rattle.std.specs.Str.{IsCharBoundary, IsUtf8}
use Rattle.std.proofs.lemmas.List.Sums.{prefix_len_stops}
use Rattle.std.proofs.lemmas.Str.{IsCharBoundary-after_ascii}
use Rattle.pytext.proofs.BoundaryLemmas.{boundary_before}
use Rattle.pywheel_core.specs.Inner.Cut.{is_undashed}
use Rattle.pytext.proofs.OptionsLemmas.{option_cases}
use Rattle.std.proofs.lemmas.Bool.{and_parts, cases_Bool, or_parts}
use Rattle.pywheel_core.specs.Texts.{before_cut, before_ending, cut_at, pieces_at}
use Rattle.pywheel_core.specs.Spans.{spans_from}
use Rattle.pywheel_core.specs.Tag.{pieces}
use Rattle.pywheel_core.specs.declared.span.Span.{Span}

pub cut-first : (c : ℕ) (s : List ℕ) → position_or_len (λ b. b == c) s < length s
    → cut_at c s ≡ Some (before_first (λ b. b == c) s, after_first (λ b. b == c) s)
cut-first c [] h = absurd (omega arith)
cut-first c (b ∷ s) h =
    let n = position_or_len (λ x. x == c) s in
    let one : suc n ≡ 1 + n = omega arith in
    let two : suc (n + 1) ≡ 1 + n + 1 = omega arith in
    elim (cases_Bool (b == c)) [
      | inl e ↦ rw e refl
      | inr e ↦ let h2 = rw e at h in rw e (ap (option_map (before_cut b)) (cut-first c s (omega (arith, h2))) ∙ (λ i. Some (take (one i) (b ∷ s), drop (two i) (b ∷ s))))
    ]

pub cut-none : (c : ℕ) (s : List ℕ) → position_or_len (λ b. b == c) s ≡ length s → cut_at c s ≡ None
cut-none c [] h = refl
cut-none c (b ∷ s) h = elim (cases_Bool (b == c)) [
  | inl e ↦ let h2 = rw e at h in absurd (omega (arith, h2))
  | inr e ↦ let h2 = rw e at h in rw e (ap (option_map (before_cut b)) (cut-none c s (omega (arith, h2))))
]

-- what `split_once` answers
pub split_once_is : (c : ℕ) (s : List ℕ) (r : Option (Bor (List ℕ) × Bor (List ℕ)))
    → MatchOption r (position_or_len (λ b. b == c) s ≡ length s)
    (λ x. (x.0.now ≡ before_first (λ b. b == c) s) × (x.1.now ≡ after_first (λ b. b == c) s) × (position_or_len (λ b. b == c) s < length s))
    → option_map (λ x. (x.0.now, x.1.now)) r ≡ cut_at c s
split_once_is c s None h = sym (cut-none c s h)
split_once_is c s (Some x) h = (λ i. Some (h.0 i, h.1 i)) ∙ sym (cut-first c s h.2)

-- what `strip_suffix` answers at a text
pub before_ending_is : (ending s : List ℕ) (r : Option (Bor (List ℕ)))
    → MatchOption r (FindsTextSuffix ending s None) (λ x. StripsSuffix (FindsTextSuffix ending) s x.now)
    → option_map (λ x. x.now) r ≡ before_ending ending s
unfolding before_ending
before_ending_is ending s None h =
    let m = length s - length ending in
    elim (cases_Bool (bytes_eq (drop m s) ending)) [
      | inl e ↦ absurd (h (take m s) (sym (take-append-drop m s) ∙ ap (λ l. take m s ++ l) ((bytes_decides (drop m s) ending).0 e)))
      | inr e ↦ rw e refl
    ]
before_ending_is ending s (Some x) h =
    let m = length s - length ending in
    let whole : s ≡ take m s ++ ending = subst (λ k. s ≡ take (length s - k) s ++ ending) h.1.0 h.1.1 in
    let end : drop m s ≡ ending = append_cancel_left (take m s) (drop m s) ending (take-append-drop m s ∙ whole) in
    let test : bytes_eq (drop m s) ending ≡ true = (bytes_decides (drop m s) ending).1 end in
    let front : x.now ≡ take m s = subst (λ k. x.now ≡ take (length s - k) s) h.1.0 h.2 in
    rw test (ap Some front)

-- ---- what stands before an ending

pub ending_says : (ending text front : List ℕ) → before_ending ending text ≡ Some front → text ≡ front ++ ending
unfolding before_ending
ending_says ending text front h =
    let m = length text - length ending in
    elim (cases_Bool (bytes_eq (drop m text) ending)) [
      | inl e ↦
          let same : take m text ≡ front = same_Some (take m text) front (rw e at h) in
          sym (take-append-drop m text) ∙ (λ i. same i ++ (bytes_decides (drop m text) ending).0 e i)
      | inr e ↦ absurd (let z : None ≡ Some front = rw e at h in cc)
    ]

pub ending_joined : (ending front : List ℕ) → before_ending ending (front ++ ending) ≡ Some front
unfolding before_ending
ending_joined ending front =
    let whole = front ++ ending in
    let n : length whole - length ending ≡ length front = let k = length-append front ending in omega (arith, k) in
    let end : drop (length whole - length ending) whole ≡ ending = ap (λ k. drop k whole) n ∙ drop-append_seam front ending in
    let test : bytes_eq (drop (length whole - length ending) whole) ending ≡ true = (bytes_decides _ ending).1 end in
    rw test (ap Some (ap (λ k. take k whole) n ∙ take-append_seam front ending))

-- ---- what a cut says of the text

-- no such byte stands in the text
abbrev pub Lacks : ℕ → List ℕ → Type 0
Lacks c s = list_any (λ b. b == c) s ≡ false

lacks_more : (c b : ℕ) (s : List ℕ) → (b == c) ≡ false → Lacks c s → Lacks c (b ∷ s)
lacks_more c b s e h = rw e h

pub lacks_both : (s t : List ℕ) → Lacks 45 s → Lacks 45 t → Lacks 45 (s ++ t)
lacks_both [] t x y = y
lacks_both (b ∷ s) t x y = let n = or_parts (b == 45) (list_any (λ d. d == 45) s) x in let e = n.0 in rw e (lacks_both s t n.1 y)

pub bytes_lack : (test : ℕ → Bool) → ((b : ℕ) → test b ≡ true → (b == 45) ≡ false) → (s : List ℕ) → list_all test s ≡ true → Lacks 45 s
bytes_lack test no_dash [] h = refl
bytes_lack test no_dash (b ∷ s) h = let p = and_parts (test b) (list_all test s) h in let e = no_dash b p.0 in rw e (bytes_lack test no_dash s p.1)

pub cut_says : (c : ℕ) (s x y : List ℕ) → cut_at c s ≡ Some (x, y) → (s ≡ x ++ (c ∷ y)) × Lacks c x
cut_says c [] x y h = absurd cc
cut_says c (b ∷ s) x y h = elim (cases_Bool (b == c)) [
  | inl e ↦ let q : Some ([], s) ≡ Some (x, y) = rw e at h in
      let p : ([], s) ≡ (x, y) = same_Some ([], s) (x, y) q in
      let front : [] ≡ x = ap (λ r. r.0) p in let back : s ≡ y = ap (λ r. r.1) p in
      ((λ i. front i ++ ((Decides-eqb b c).0 e i ∷ back i)), subst (λ l. Lacks c l) front refl)
  | inr e ↦ let q : option_map (before_cut b) (cut_at c s) ≡ Some (x, y) = rw e at h in
      elim (option_cases (cut_at c s)) [
        | inl none ↦ absurd (let z : None ≡ Some (x, y) = sym (ap (option_map (before_cut b)) none) ∙ q in cc)
        | inr some ↦ let p : (b ∷ some.0.0, some.0.1) ≡ (x, y) = same_Some (b ∷ some.0.0, some.0.1) (x, y) (sym (ap (option_map (before_cut b)) some.1) ∙ q) in
            let front : b ∷ some.0.0 ≡ x = ap (λ r. r.0) p in let back : some.0.1 ≡ y = ap (λ r. r.1) p in
            let rest = cut_says c s some.0.0 some.0.1 some.1 in
            (ap (λ l. b ∷ l) rest.0 ∙ (λ i. front i ++ (c ∷ back i)), subst (λ l. Lacks c l) front (lacks_more c b some.0.0 e rest.1))
      ]
]

pub cut_lacks : (c : ℕ) (s x y : List ℕ) → Some (x, y) ≡ cut_at c s → Lacks c x
cut_lacks c s x y h = (cut_says c s x y (sym h)).1

pub no_cut_says : (c : ℕ) (s : List ℕ) → cut_at c s ≡ None → Lacks c s
no_cut_says c [] h = refl
no_cut_says c (b ∷ s) h = elim (cases_Bool (b == c)) [
  | inl e ↦ absurd (let q : Some ([], s) ≡ None = rw e at h in cc)
  | inr e ↦ let q : option_map (before_cut b) (cut_at c s) ≡ None = rw e at h in
      elim (option_cases (cut_at c s)) [
        | inl none ↦ lacks_more c b s e (no_cut_says c s none)
        | inr some ↦ absurd (let z : Some (b ∷ some.0.0, some.0.1) ≡ None = sym (ap (option_map (before_cut b)) some.1) ∙ q in cc)
      ]
]

-- and the other way round
pub cut_joined : (c : ℕ) (x y : List ℕ) → Lacks c x → cut_at c (x ++ (c ∷ y)) ≡ Some (x, y)
cut_joined c [] y h = let e : (c == c) ≡ true = (Decides-eqb c c).1 refl in rw e refl
cut_joined c (b ∷ x) y h =
    let both = or_parts (b == c) (list_any (λ d. d == c) x) h in
    rw both.0 (ap (option_map (before_cut b)) (cut_joined c x y both.1))

pub cut_lacking : (c : ℕ) (x : List ℕ) → Lacks c x → cut_at c x ≡ None
cut_lacking c [] h = refl
cut_lacking c (b ∷ x) h =
    let both = or_parts (b == c) (list_any (λ d. d == c) x) h in
    rw both.0 (ap (option_map (before_cut b)) (cut_lacking c x both.1))

-- ---- pieces

lacks_all : (c : ℕ) (s : List ℕ) → Lacks c s → All (λ b. (b == c) ≡ false) s
lacks_all c [] h = λ k d l. absurd (omega arith)
lacks_all c (b ∷ s) h =
    let both = or_parts (b == c) (list_any (λ d. d == c) s) h in All-cons (λ d. (d == c) ≡ false) b s both.0 (lacks_all c s both.1)

pub pieces_cut : (c : ℕ) (s x y : List ℕ) → cut_at c s ≡ Some (x, y) → pieces_at c s ≡ x ∷ pieces_at c y
pieces_cut c s x y h =
    let p = cut_says c s x y h in
    ap (pieces_at c) p.0 ∙ slice_split_at (λ b. b == c) x c y (lacks_all c x p.1) ((Decides-eqb c c).1 refl)

pub pieces_whole : (c : ℕ) (s : List ℕ) → cut_at c s ≡ None → pieces_at c s ≡ s ∷ []
pieces_whole c s h = slice_split_none (λ b. b == c) s (lacks_all c s (no_cut_says c s h))

-- ---- the spans of pieces

pub spans_step : (front : List Span) (start : ℕ) (s x y : List ℕ) → Some (x, y) ≡ cut_at 46 s
    → front ++ spans_from start (pieces s) ≡ (front ++ record { start = start; end = start + length x } ∷ []) ++ spans_from (start + length x + 1) (pieces y)
spans_step front start s x y h = ap (λ ps. front ++ spans_from start ps) (pieces_cut 46 s x y (sym h))
    ∙ sym (append_assoc front (record { start = start; end = start + length x } ∷ []) (spans_from (start + length x + 1) (pieces y)))

pub spans_last : (front : List Span) (start : ℕ) (s : List ℕ) → None ≡ cut_at 46 s
    → front ++ spans_from start (pieces s) ≡ front ++ record { start = start; end = start + length s } ∷ []
spans_last front start s h = ap (λ ps. front ++ spans_from start ps) (pieces_whole 46 s (sym h))

pub length_step : (s x y : List ℕ) → Some (x, y) ≡ cut_at 46 s → length s ≡ length x + (1 + length y)
length_step s x y h = ap length (cut_says 46 s x y (sym h)).0 ∙ (length-append x (46 ∷ y) ∙ omega arith)

-- ---- a part that is one piece

pub one_piece : (s : List ℕ) → length (pieces s) ≡ 1 → pieces s ≡ s ∷ []
one_piece s h = elim (option_cases (cut_at 46 s)) [
  | inl none ↦ pieces_whole 46 s none
  | inr f ↦
      let two = ap length (pieces_cut 46 s f.0.0 f.0.1 f.1) in
      let more = length-slice_split (λ b. b == 46) f.0.1 in
      absurd (omega (arith, h, two, more))
]

pub one_span : (start count : ℕ) (s : List ℕ) → count ≡ length (pieces s) → count ≡ 1 → spans_from start (pieces s) ≡ record { start = start; end = start + length s } ∷ []
one_span start count s is one = ap (spans_from start) (one_piece s (sym is ∙ one))

-- ---- a part that is two pieces

pub two_pieces : (start : ℕ) (s x y : List ℕ) → Some (x, y) ≡ cut_at 46 s → length (pieces s) ≡ 2
    → spans_from start (pieces s)
    ≡ record { start = start; end = start + length x } ∷ record { start = start + length x + 1; end = start + length x + 1 + length y } ∷ []
two_pieces start s x y h two =
    let cut = pieces_cut 46 s x y (sym h) in
    let more = ap length cut in
    let one : length (pieces y) ≡ 1 = omega (arith, two, more) in
    ap (spans_from start) (cut ∙ ap (λ ps. x ∷ ps) (one_piece y one))

-- ---- the first `-`

pub cut_there : (s : List ℕ) → prefix_len is_undashed s < length s
    → cut_at 45 s ≡ Some (take (prefix_len is_undashed s) s, drop (prefix_len is_undashed s + 1) s)
cut_there [] h = absurd (omega arith)
cut_there (b ∷ s) h =
    let n = prefix_len is_undashed s in
    let one : suc n ≡ 1 + n = omega arith in
    let two : suc (n + 1) ≡ 1 + n + 1 = omega arith in
    elim (cases_Bool (b == 45)) [
      | inl e ↦ rw e refl
      | inr e ↦ let h2 = rw e at h in rw e (ap (option_map (before_cut b)) (cut_there s (omega (arith, h2))) ∙ (λ i. Some (take (one i) (b ∷ s), drop (two i) (b ∷ s))))
    ]

pub cut_nowhere : (s : List ℕ) → prefix_len is_undashed s ≡ length s → cut_at 45 s ≡ None
cut_nowhere [] h = refl
cut_nowhere (b ∷ s) h = elim (cases_Bool (b == 45)) [
  | inl e ↦ let h2 = rw e at h in absurd (omega (arith, h2))
  | inr e ↦ let h2 = rw e at h in rw e (ap (option_map (before_cut b)) (cut_nowhere s (omega (arith, h2))))
]

undashed-ascii : (b : ℕ) → is_undashed b ≡ false → b < 128
undashed-ascii b e = grind (arith, nat_tests)

-- the text may be cut before it, and behind it
pub before_dash : (s : List ℕ) → IsCharBoundary s (prefix_len is_undashed s)
before_dash s = boundary_before is_undashed undashed-ascii s

pub behind_dash : (s : List ℕ) → IsUtf8 s → prefix_len is_undashed s < length s → IsCharBoundary s (prefix_len is_undashed s + 1)
behind_dash s utf8 h =
    let n = prefix_len is_undashed s in
    IsCharBoundary-after_ascii s n utf8 h (undashed-ascii (get_or s n 0) (prefix_len_stops is_undashed s 0 h))

-- a text cut at its first `-`, by the place of this
pub ruleset cut_is = (before_dash, behind_dash, cut_nowhere, cut_there)

-- the spans of two pieces, and of several
pub ruleset two_spans_are = (length_step, two_pieces)

pub ruleset spans_are = (length_step, spans_step, spans_last)
