use Rattle.std.proofs.Common.{◌≡◌, ◌++◌, ◌+◌, List, ℕ, length}
use Rattle.std.specs.Str.Iter.{split_steps}
use Rattle.std.specs.Str.Pattern.{FindsChar}
use Rattle.std.proofs.lemmas.Iterator.{YieldsList}
use Rattle.pylock_values.specs.Spans.{set_pieces, spans_from}
use Rattle.pylock_values.proofs.SpansLemmas.{capacity}
use Rattle.pylock_values.proofs.sets.spans_in.Given as goal

-- these pieces are left; their spans are what lacks, and they end with the text
abbrev pub invariant-loop-piece : goal.invariant-loop-piece
invariant-loop-piece l = (left : List (List ℕ))
    × YieldsList (split_steps FindsChar (λ a b. b ≡ a)) (λ x. x.now) l.piece-iterator left
    × (l.spans.items ++ spans_from l.start left ≡ spans_from 0 (set_pieces l.fn.text))
    × (l.start + capacity left ≡ length l.fn.text + 1)
