-- Texts that end with others.
use Rattle.std.proofs.Common.{◌≡◌, ℕ, ◌-◌, ◌+◌, ◌<◌, ◌≤◌, List, [], ◌++◌, length, take, drop, refl, ap, sym, subst, ◌∙◌, append_assoc, arith, inl, inr}
use Rattle.std.specs.Str.{IsCharBoundary, IsUtf8}
use Rattle.std.proofs.lemmas.Bool.{cases_lt}
use Rattle.std.proofs.Math.Seq.{drop-append_seam}
use Rattle.std.proofs.lemmas.List.{length-append, take-append-drop}
use Rattle.std.proofs.lemmas.Str.{IsCharBoundary-at_seam, IsCharBoundary-from_rest}
use Rattle.pymark_expected.specs.Stretch.{EndsWith}

pub end_whole : (text : List ℕ) → EndsWith text text
end_whole text = record { before = []; whole = refl }

pub end_of_drop : (text end : List ℕ) (n : ℕ) → EndsWith text end → EndsWith text (drop n end)
end_of_drop text end n is = record {
  before = is.before ++ take n end;
  whole = is.whole ∙ ap (λ (e : List ℕ). is.before ++ e) (sym (take-append-drop n end)) ∙ sym (append_assoc is.before (take n end) (drop n end));
}

end_boundary : (text end : List ℕ) → IsUtf8 end → EndsWith text end → IsCharBoundary text (length text - length end)
end_boundary text end utf8 is =
    let all = ap length is.whole in
    let parts = length-append is.before end in
    let place : length is.before ≡ length text - length end = omega arith in
    subst (IsCharBoundary text) place (IsCharBoundary-at_seam text is.before end is.whole utf8)

pub floor_is : (text : List ℕ) (n r : ℕ) → IsCharBoundary text n → r ≤ n → ((i : ℕ) → r < i → i ≤ n → IsCharBoundary text i → ⊥) → r ≡ n
floor_is text n r at le nearest = elim (cases_lt r n) [
  | inl lt ↦ absurd (nearest n lt (omega arith) at)
  | inr ge ↦ omega arith
]

-- the last boundary up to an end of the text is where that begins
pub end_place : (text end : List ℕ) (r : ℕ) → IsUtf8 end → EndsWith text end → r ≤ length text - length end
    → ((i : ℕ) → r < i → i ≤ length text - length end → IsCharBoundary text i → ⊥) → r ≡ length text - length end
end_place text end r utf8 is le nearest = floor_is text (length text - length end) r (end_boundary text end utf8 is) le nearest

-- a place in an end of the text is a place in the text
pub place_within : (text end : List ℕ) (place : ℕ) → EndsWith text end → IsCharBoundary end place → IsCharBoundary text (length text - length end + place)
place_within text end place is at =
    let all = ap length is.whole in
    let parts = length-append is.before end in
    let before : length is.before ≡ length text - length end = omega arith in
    let rest : drop (length text - length end) text ≡ end = ap (λ (n : ℕ). drop n text) (sym before) ∙ ap (drop (length is.before)) is.whole ∙ drop-append_seam is.before end in
    IsCharBoundary-from_rest text (length text - length end) place (omega arith) (subst (λ (e : List ℕ). IsCharBoundary e place) (sym rest) at)
