-- What is noted of comparisons.
use Rattle.std.proofs.Common.{◌≡◌, Bool, ◌||◌, List, [], ◌∷◌, ◌++◌, ap, sym, ◌∙◌}
use Rattle.std.proofs.lemmas.List.Folds.{list_any-append}
use Rattle.std.proofs.Math.Bool.{or-false, or_assoc}
use Rattle.pymark_core.specs.Inner.Building.{NotesGain}
use Rattle.pymark_core.specs.Marker.Comparison.{ComparisonValue}
use Rattle.pymark_core.specs.Marker.Grammar.{is_misuse}
use Rattle.pymark_core.specs.declared.marker.notes.Notes.{Notes}
use Rattle.pymark_core.specs.Marker.Keys.{comparison_reads, has_key, is_flagged, is_key, operand_keys}
use Rattle.pymark_core.specs.declared.marker.keys.Key.{Key}
use Rattle.pymark_core.specs.declared.operand.Operand.{Operand}

-- the keys of two operands, one after the other
pub both_gained : (old mid new : List Bool) (left right : Operand)
    → ((key : Key) → is_flagged mid key ≡ (is_flagged old key || has_key key (operand_keys left)))
    → ((key : Key) → is_flagged new key ≡ (is_flagged mid key || has_key key (operand_keys right)))
    → (key : Key) → is_flagged new key ≡ (is_flagged old key || has_key key (operand_keys left ++ operand_keys right))
both_gained old mid new left right first second key =
    second key ∙ ap (λ x. x || has_key key (operand_keys right)) (first key)
    ∙ or_assoc (is_flagged old key) (has_key key (operand_keys left)) (has_key key (operand_keys right))
    ∙ ap (λ x. is_flagged old key || x) (sym (list_any-append (is_key key) (operand_keys left) (operand_keys right)))

pub notes_gain_one : (old new : Notes) (c : ComparisonValue) → ((key : Key) → is_flagged new.reads key ≡ (is_flagged old.reads key || comparison_reads key c)) → new.misuse ≡ (old.misuse || is_misuse c)
    → NotesGain old new (c ∷ [])
notes_gain_one old new c reads misuse = record {
  reads = λ key. reads key ∙ ap (λ x. is_flagged old.reads key || x) (sym (or-false (comparison_reads key c)));
  misuse = misuse ∙ ap (λ x. old.misuse || x) (sym (or-false (is_misuse c)));
}
