-- A text that grows by the lines of sources.
use Rattle.std.proofs.Common.{[], ◌≡◌, ◌∙◌, ℕ, true, false, List, ◌∷◌, ◌++◌, Result, Ok, Err, codes, ap, map, append_assoc, append-nil, refl, sym}
use Rattle.std.specs.Prelude.{⊤}
use Rattle.pytext.specs.Results.{◌>>=◌}
use Rattle.pylock_exports.specs.Inner.{parts_behind, requirement_behind}
use Rattle.pylock_exports.specs.Listed.{ListedValue}
use Rattle.pylock_exports.specs.Requirements.{header, is_in, part_of, requirement_check, requirement_line, requirements_check, requirements_lines}
use Rattle.pylock_exports.specs.Texts.{lines_text}
use Rattle.pylock_exports.specs.declared.requirements.PlanPart.{PlanPart}
use Rattle.pylock_exports.specs.declared.refusal.ExportError.{ExportError}

-- a text, and behind it a line and more lines, where nothing is refused
abbrev shown : List ℕ → ListedValue → (check others : Result ⊤ ExportError) → List (List ℕ) → Result (List ℕ) ExportError
shown text s check others lines = (check >>= (λ _. others)) >>= (λ _. Ok (text ++ lines_text (requirement_line s ∷ lines)))

one_more : (text new : List ℕ) (s : ListedValue) (check others : Result ⊤ ExportError) (lines : List (List ℕ))
    → (check >>= (λ _. Ok (text ++ (requirement_line s ++ codes "\n")))) ≡ Ok new → shown text s check others lines ≡ (others >>= (λ _. Ok (new ++ lines_text lines)))
one_more text new s (Err e) others lines made = cc made
one_more text new s (Ok u) (Err e) lines made = refl
one_more text new s (Ok u) (Ok v) lines made =
    let same : text ++ (requirement_line s ++ codes "\n") ≡ new = cc made in
    ap Ok (sym (append_assoc text (requirement_line s ++ codes "\n") (lines_text lines)) ∙ ap (λ t. t ++ lines_text lines) same)

pub behind_more : (part : PlanPart) (text new : List ℕ) (s : ListedValue) (rest : List ListedValue) → is_in part s.source ≡ true → requirement_behind text s ≡ Ok new
    → parts_behind part text (s ∷ rest) ≡ parts_behind part new rest
behind_more part text new s rest has made = rw has (one_more text new s (requirement_check s) (requirements_check (part_of part rest)) (map requirement_line (part_of part rest)) made)

-- a source of the other file
pub behind_other : (part : PlanPart) (text : List ℕ) (s : ListedValue) (rest : List ListedValue) → is_in part s.source ≡ false
    → parts_behind part text (s ∷ rest) ≡ parts_behind part text rest
behind_other part text s rest other = rw other refl

refused_more : (text : List ℕ) (s : ListedValue) (error : ExportError) (check others : Result ⊤ ExportError) (lines : List (List ℕ))
    → (check >>= (λ _. Ok (text ++ (requirement_line s ++ codes "\n")))) ≡ Err error → shown text s check others lines ≡ Err error
refused_more text s error (Err e) others lines made = cc made
refused_more text s error (Ok u) others lines made = cc made

pub behind_refused : (part : PlanPart) (text : List ℕ) (s : ListedValue) (rest : List ListedValue) (error : ExportError) → is_in part s.source ≡ true
    → requirement_behind text s ≡ Err error → parts_behind part text (s ∷ rest) ≡ Err error
behind_refused part text s rest error has made = rw has (refused_more text s error (requirement_check s) (requirements_check (part_of part rest)) (map requirement_line (part_of part rest)) made)

pub behind_end : (part : PlanPart) (text : List ℕ) → parts_behind part text [] ≡ Ok text
behind_end part text = ap Ok (append-nil text)

pub behind_header : (part : PlanPart) (sources : List ListedValue)
    → (requirements_lines part sources >>= (λ lines. Ok (lines_text lines))) ≡ parts_behind part (codes "# plan by pylock\n") sources
behind_header part sources = by (requirements_check (part_of part sources))
  where
    lines : List (List ℕ)
    lines = map requirement_line (part_of part sources)

    by : (r : Result ⊤ ExportError)
        → ((r >>= (λ _. Ok (header ∷ lines))) >>= (λ all. Ok (lines_text all))) ≡ (r >>= (λ _. Ok (codes "# plan by pylock\n" ++ lines_text lines)))
    by (Err e) = refl
    by (Ok u) = refl
