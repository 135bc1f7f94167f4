-- Picks by their names.
use Rattle.std.proofs.Common.{◌≡◌, ◌∙◌, ℕ, ◌+◌, ◌<◌, Bool, true, false, Bor, List, [], ◌∷◌, ◌++◌, length, take, get_or, Option, Some, None, if◌then◌else◌, refl, sym, ap}
use Rattle.std.proofs.lemmas.List.{take_more}
use Rattle.std.specs.Str.{bytes_eq}
use Rattle.pytext.specs.Options.{either}
use Rattle.pylock_metadata.specs.Inner.Names.{lent_rows}
use Rattle.pylock_metadata.specs.Named.{Row, number_of}

-- one more row
number_more : (name : List ℕ) (row : Row) (rows : List Row)
    → number_of (rows ++ row ∷ []) name ≡ (if bytes_eq name row.0 then Some row.1 else number_of rows name)
number_more name row [] = refl
number_more name row (r ∷ rows) = ap (λ o. either o (if bytes_eq name r.0 then Some r.1 else None)) (number_more name row rows) ∙ by (bytes_eq name row.0)
  where
    by : (is : Bool) → either (if is then Some row.1 else number_of rows name) (if bytes_eq name r.0 then Some r.1 else None)
        ≡ (if is then Some row.1 else either (number_of rows name) (if bytes_eq name r.0 then Some r.1 else None))
    by true = refl
    by false = refl

lent_more : (rows : List (Bor (List ℕ) × ℕ)) (row : Bor (List ℕ) × ℕ) → lent_rows (rows ++ row ∷ []) ≡ lent_rows rows ++ (row.0.now, row.1) ∷ []
lent_more [] row = refl
lent_more (r ∷ rows) row = ap (λ rest. (r.0.now, r.1) ∷ rest) (lent_more rows row)

-- the number under a name, once one more row is put in
pub number_next : (name : List ℕ) (rows : List (Bor (List ℕ) × ℕ)) (i : ℕ) (d : Bor (List ℕ) × ℕ) (old new : Option ℕ)
    → i < length rows → new ≡ (if bytes_eq name (get_or rows i d).0.now then Some (get_or rows i d).1 else old)
    → old ≡ number_of (lent_rows (take i rows)) name
    → new ≡ number_of (lent_rows (take (i + 1) rows)) name
number_next name rows i d old new within put so_far =
    put
    ∙ ap (λ o. if bytes_eq name (get_or rows i d).0.now then Some (get_or rows i d).1 else o) so_far
    ∙ sym (number_more name ((get_or rows i d).0.now, (get_or rows i d).1) (lent_rows (take i rows)))
    ∙ ap (λ xs. number_of xs name) (sym (lent_more (take i rows) (get_or rows i d)))
    ∙ ap (λ xs. number_of (lent_rows xs) name) (sym (take_more rows i d within))
