-- Words that stand one after the other in one text.
use Rattle.std.specs.Prelude.{◌≡◌, ℕ, List, [], ◌∷◌, ◌++◌, map}
use Rattle.std.specs.List.{concat}
use Rattle.pywheel_core.specs.Spans.{AreWithin, at}
use Rattle.pywheel_core.specs.declared.span.Span.{Span}

-- a word in pieces
abbrev pub joined : List (List ℕ) → List ℕ
joined [] = []
joined (piece ∷ []) = piece
joined (piece ∷ (next ∷ pieces)) = piece ++ joined (next ∷ pieces)

-- what stands at the spans
abbrev pub words_at : List ℕ → List Span → List (List ℕ)
words_at text spans = map (at text) spans

-- the spans lie in the text, which has nothing but what stands there
abbrev pub AreWords : List ℕ → List Span → Type 0
AreWords text spans = AreWithin text spans × (text ≡ concat (words_at text spans))
