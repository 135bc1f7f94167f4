-- The white space before a text and round it: what is taken away, and what is left.
use Rattle.std.proofs.Common.{◌≡◌, ℕ, zero, suc, ◌+◌, ◌-◌, ◌<◌, true, false, List, [], ◌∷◌, ◌++◌, length, take, drop, get_or, reverse, refl, sym, ap, ◌∙◌, arith, inl, inr, length-drop}
use Rattle.std.specs.List.{list_all, prefix_len, suffix_len}
use Rattle.std.proofs.lemmas.Bool.{cases_lt}
use Rattle.std.proofs.lemmas.List.{get_or-drop, get_or-reverse, length-reverse, take-append-drop}
use Rattle.std.proofs.lemmas.List.Sums.{list_all-from_AllPass, prefix_len_passes, prefix_len_stops, suffix_len-le-length, suffix_len-take_no}
use Rattle.pytext.specs.Bytes.{is_white, starts}
use Rattle.pytext.specs.White.{IsTrimmed, after_white, trim_white}
use Rattle.pytext.proofs.BytesLemmas.{drop_exact, list_all_prefix, starts_drop}

-- ---- white space before a text

pub after_white_splits : (text : List ℕ) → (before : List ℕ) × (text ≡ before ++ after_white text) × (list_all is_white before ≡ true)
after_white_splits text = (take (prefix_len is_white text) text, sym (take-append-drop (prefix_len is_white text) text), list_all_prefix is_white text)

pub after_white_exact : (before body : List ℕ) → list_all is_white before ≡ true → starts is_white body ≡ false → after_white (before ++ body) ≡ body
after_white_exact before body all stops = drop_exact is_white before body all stops

-- ---- white space round a text

none_before : (n : ℕ) (text : List ℕ) → starts is_white text ≡ false → prefix_len is_white (take n text) ≡ 0
none_before zero text e = refl
none_before (suc n) [] e = refl
none_before (suc n) (b ∷ rest) e = rw e refl

all_after : (text : List ℕ) → list_all is_white (drop (length text - suffix_len is_white text) text) ≡ true
all_after text =
    let n = length text - suffix_len is_white text in
    list_all-from_AllPass is_white (drop n text) (λ k d inside.
    let within = suffix_len-le-length is_white text in
    let len = length-drop n text in
    let back = length text - 1 - (n + k) in
    let position : n + k ≡ length text - 1 - back = omega arith in
    ap is_white (get_or-drop n text k d ∙ ap (λ i. get_or text i d) position ∙ sym (get_or-reverse text back d (omega arith)))
    ∙ prefix_len_passes is_white (reverse text) back d (omega arith))

none_at_end : (text : List ℕ) → suffix_len is_white (take (length text - suffix_len is_white text) text) ≡ 0
none_at_end text =
    let white = suffix_len is_white text in
    let n = length text - white in
    elim (cases_lt 0 n) [
      | inl some ↦
          let inside : white < length (reverse text) = omega (arith, length-reverse text) in
          let position : n - 1 ≡ length text - 1 - white = omega arith in
          suffix_len-take_no is_white text n 0 some (omega arith)
          (ap is_white (ap (λ i. get_or text i 0) position ∙ sym (get_or-reverse text white 0 (omega arith)))
          ∙ prefix_len_stops is_white (reverse text) 0 inside)
      | inr none ↦
          let nothing : n ≡ 0 = omega arith in
          ap (λ k. suffix_len is_white (take k text)) nothing
    ]

pub trim_white_is : (text : List ℕ) → IsTrimmed text (trim_white text)
trim_white_is text =
    let rest = after_white text in
    let n = length rest - suffix_len is_white rest in
    let first = after_white_splits text in
    record {
      before = first.0;
      after = drop n rest;
      whole = first.1 ∙ ap (λ t. first.0 ++ t) (sym (take-append-drop n rest));
      is_before = first.2;
      is_after = all_after rest;
      begins = none_before n rest (starts_drop is_white text);
      ends = none_at_end rest;
    }
