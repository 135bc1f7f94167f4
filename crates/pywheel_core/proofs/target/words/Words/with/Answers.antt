use Rattle.std.proofs.Common.{◌≡◌, ◌++◌, ◌∷◌, [], ap, length, subst, sym, ◌∙◌, map, string_bytes}
use Rattle.pywheel_core.specs.Inner.Words.{AreWords, joined, words_at}
use Rattle.pywheel_core.proofs.TargetLemmas.{WordAdded, word_added}
use Rattle.pywheel_core.proofs.target.words.Words.with.Goals as goal

added : (c : goal.In_ok-push) → WordAdded (string_bytes c.self.inside.text) (string_bytes c.push_pieces.new.text) c.self.inside.spans.items
    (joined (map (λ piece. piece.now) c.args.pieces.now)) (length c.as_str-start.result.now) (length c.as_str-end.result.now)
added c = word_added (string_bytes c.self.inside.text) (string_bytes c.push_pieces.new.text) c.self.inside.spans.items _ _ _
    c.self.invariant c.in_ok-push_pieces.ensures (ap length c.as_str-start.ensures.value) (ap length c.as_str-end.ensures.value)

pub invariant_of-result : goal.invariant_of-result
invariant_of-result c = subst (AreWords (string_bytes c.push_pieces.new.text)) (sym c.in_ok-push.ensures.items) (added c).0

pub returns : goal.returns
returns c = ap (words_at (string_bytes c.push_pieces.new.text)) c.in_ok-push.ensures.items ∙ (added c).1
    ∙ ap (λ t. t ++ joined (map (λ piece. piece.now) c.args.pieces.now) ∷ []) c.self.view_is
