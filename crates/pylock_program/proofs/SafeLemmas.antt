-- A field that is safe to show, of a text in two parts.
use Rattle.std.proofs.Common.{◌≡◌, cond, ℕ, List, [], ◌∷◌, ◌++◌, ◌==◌, flat_map, length, false, Bool, ◌&&◌, Some, refl, sym, ap, ◌∙◌}
use Rattle.std.proofs.lemmas.Bool.{false≢true}
use Rattle.std.proofs.lemmas.Grind.{flat_map-append}
use Rattle.std.proofs.lemmas.Str.{chars-append}
use Rattle.std.specs.Prelude.{codes}
use Rattle.std.specs.Str.{IsUtf8, bytes_eq}
use Rattle.pylock_program.specs.Text.Safe.{safe_character, safe_field, safe_text}

and_false : (b : Bool) → (b && false) ≡ false
and_false false = refl
and_false Bool.true = refl

-- a text of two parts, neither of which is empty, isn't one character
not_dash : (front back : List ℕ) → (length front == 0) ≡ false → (length back == 0) ≡ false → bytes_eq (front ++ back) (codes "-") ≡ false
not_dash [] back some more = absurd (false≢true (sym some))
not_dash (x ∷ front) [] some more = absurd (false≢true (sym more))
not_dash (x ∷ []) (y ∷ back) some more = and_false (x == 45)
not_dash (x ∷ z ∷ front) (y ∷ back) some more = and_false (x == 45)

pub safe_parts : (front back : List ℕ) → IsUtf8 front → (length front == 0) ≡ false → (length back == 0) ≡ false
    → safe_field (Some (front ++ back)) ≡ safe_text front ++ safe_text back
safe_parts front back utf8 some more =
    ap (λ b. cond b (codes "\\-") (safe_text (front ++ back))) (not_dash front back some more)
    ∙ ap (flat_map safe_character) (chars-append front back utf8) ∙ flat_map-append safe_character _ _
