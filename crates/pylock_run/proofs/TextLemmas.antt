-- Lemmas on the printed text.
use Rattle.std.proofs.Common.{◌≡◌, ℕ, List, [], ◌∷◌, ◌++◌, false, cond, Some, refl, ap, sym, ◌∙◌, append_assoc, append-nil, map, eqb, ◌&&◌}
use Rattle.std.specs.List.{join_with_byte}
use Rattle.std.specs.Str.{bytes_eq}
use Rattle.std.specs.Prelude.{codes}
use Rattle.std.proofs.Math.Bool.{and-false}
use Rattle.std.proofs.lemmas.List.Concat.{flat_map-append}
use Rattle.pylock_run.specs.Text.Field.{escape_byte, escaped_text, field}
use Rattle.pylock_run.specs.Text.Plan.{hash_text, hashes_text}
use Rattle.pylock_run.specs.Inner.Fields.{escaped_hash, more_hashes}

-- a text with another mark in it is not `-`
not_dash : (mark : ℕ) (prefix rest : List ℕ) → eqb mark 45 ≡ false → bytes_eq (prefix ++ mark ∷ rest) (45 ∷ []) ≡ false
not_dash mark [] rest other = ap (λ t. t && bytes_eq rest []) other
not_dash mark (b ∷ []) rest other = and-false (eqb b 45)
not_dash mark (b ∷ c ∷ prefix) rest other = and-false (eqb b 45)

escaped_text-hash_text : (hash : List ℕ × List ℕ) → escaped_text (hash_text hash) ≡ escaped_hash hash
escaped_text-hash_text hash =
    flat_map-append escape_byte (hash.0 ++ codes "=") hash.1 ∙ ap (λ t. t ++ escaped_text hash.1) (flat_map-append escape_byte hash.0 (codes "="))

escaped_text-hashes : (hash : List ℕ × List ℕ) (hashes : List (List ℕ × List ℕ))
    → escaped_text (join_with_byte 44 (map hash_text (hash ∷ hashes))) ≡ escaped_hash hash ++ more_hashes hashes
escaped_text-hashes hash [] = escaped_text-hash_text hash ∙ sym (append-nil (escaped_hash hash))
escaped_text-hashes hash (next ∷ hashes) =
    flat_map-append escape_byte (hash_text hash) (44 ∷ join_with_byte 44 (map hash_text (next ∷ hashes)))
    ∙ ap (λ t. t ++ (44 ∷ escaped_text (join_with_byte 44 (map hash_text (next ∷ hashes))))) (escaped_text-hash_text hash)
    ∙ ap (λ t. escaped_hash hash ++ (44 ∷ t)) (escaped_text-hashes next hashes)

joined : (hash : List ℕ × List ℕ) (hashes : List (List ℕ × List ℕ)) → (rest : List ℕ) × (join_with_byte 44 (map hash_text (hash ∷ hashes)) ≡ hash.0 ++ 61 ∷ rest)
joined hash [] = (hash.1, append_assoc hash.0 (codes "=") hash.1)
joined hash (next ∷ hashes) =
    let others = 44 ∷ join_with_byte 44 (map hash_text (next ∷ hashes)) in
    (hash.1 ++ others, append_assoc (hash.0 ++ codes "=") hash.1 others ∙ append_assoc hash.0 (codes "=") (hash.1 ++ others))

-- the field of hashes
pub field-hashes : (hash : List ℕ × List ℕ) (hashes : List (List ℕ × List ℕ))
    → field (hashes_text (hash ∷ hashes)) ≡ escaped_hash hash ++ more_hashes hashes
field-hashes hash hashes =
    let text = join_with_byte 44 (map hash_text (hash ∷ hashes)) in
    let parts = joined hash hashes in
    let other : bytes_eq text (45 ∷ []) ≡ false = ap (λ t. bytes_eq t (45 ∷ [])) parts.1 ∙ not_dash 61 hash.0 parts.0 refl in
    ap (λ t. cond t (codes "\\-") (escaped_text text)) other ∙ escaped_text-hashes hash hashes

-- one push after another
pub pushed_hashes : (old tab one all : List ℕ) (hash : List ℕ × List ℕ) (hashes : List (List ℕ × List ℕ))
    → tab ≡ old ++ 9 ∷ [] → one ≡ tab ++ escaped_hash hash → all ≡ one ++ more_hashes hashes → all ≡ old ++ 9 ∷ field (hashes_text (hash ∷ hashes))
pushed_hashes old tab one all hash hashes fields_text first more =
    more ∙ ap (λ t. t ++ more_hashes hashes) (first ∙ ap (λ t. t ++ escaped_hash hash) fields_text)
    ∙ append_assoc (old ++ 9 ∷ []) (escaped_hash hash) (more_hashes hashes)
    ∙ append_assoc old (9 ∷ []) (escaped_hash hash ++ more_hashes hashes)
    ∙ ap (λ t. old ++ 9 ∷ t) (sym (field-hashes hash hashes))

-- the field of a revision
pub field_revision : (kind commit : List ℕ) → field (Some (kind ++ codes "@" ++ commit)) ≡ escaped_text kind ++ codes "@" ++ escaped_text commit
field_revision kind commit =
    let text = kind ++ codes "@" ++ commit in
    let other : bytes_eq text (45 ∷ []) ≡ false = ap (λ t. bytes_eq t (45 ∷ [])) (append_assoc kind (codes "@") commit) ∙ not_dash 64 kind commit refl in
    ap (λ t. cond t (codes "\\-") (escaped_text text)) other
    ∙ flat_map-append escape_byte (kind ++ codes "@") commit ∙ ap (λ t. t ++ escaped_text commit) (flat_map-append escape_byte kind (codes "@"))
