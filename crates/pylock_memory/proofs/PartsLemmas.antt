-- What parts are that are cut by their lengths.
use Rattle.std.proofs.Common.{◌≡◌, ◌∙◌, ◌++◌, ◌≤◌, ℕ, List, [], ◌∷◌, Bool, true, false, Option, None, Some, refl, ap, subst, length, map, take, drop, nat_lt, option_map, if◌then◌else◌, flat_map, arith, take-append-drop, length-take-le, length-append, drop_at, take_at}
use Rattle.std.proofs.lemmas.Bool.Decides.{nat_tests}
use Rattle.pylock_memory.specs.Parts.{AreParts, cut_by}

one_more : (n : ℕ) (ns bytes : List ℕ) (short : Bool) → nat_lt (length bytes) n ≡ short → (rest : Option (List (List ℕ)))
    → ((ps : List (List ℕ)) → rest ≡ Some ps → AreParts ns (drop n bytes) ps)
    → (parts : List (List ℕ)) → (if short then None else option_map (λ ps. take n bytes ∷ ps) rest) ≡ Some parts → AreParts (n ∷ ns) bytes parts
one_more n ns bytes true short rest are parts cut = absurd (cc cut)
one_more n ns bytes false short None are parts cut = absurd (cc cut)
one_more n ns bytes false ample (Some ps) are parts cut =
    let within : n ≤ length bytes = grind (arith, nat_tests) in
    let behind = are ps refl in
    let is : take n bytes ∷ ps ≡ parts = cc in
    subst (λ (p : List (List ℕ)). AreParts (n ∷ ns) bytes p) is (record {
      lengths_are = ap (λ l. l ∷ map length ps) (length-take-le n bytes within) ∙ ap (λ l. n ∷ l) behind.lengths_are;
      bytes_are = ap (λ b. take n bytes ++ b) behind.bytes_are ∙ take-append-drop n bytes;
    })

pub are_parts : (lengths bytes : List ℕ) (parts : List (List ℕ)) → cut_by lengths bytes ≡ Some parts → AreParts lengths bytes parts
are_parts [] [] parts cut = let is : [] ≡ parts = cc in subst (λ (p : List (List ℕ)). AreParts [] [] p) is (record { lengths_are = refl; bytes_are = refl })
are_parts [] (b ∷ bs) parts cut = absurd (cc cut)
are_parts (n ∷ ns) bytes parts cut = one_more n ns bytes (nat_lt (length bytes) n) refl (cut_by ns (drop n bytes)) (are_parts ns (drop n bytes)) parts cut

-- and parts are cut by their lengths
cuts : (parts : List (List ℕ)) → cut_by (map length parts) (flat_map (λ part. part) parts) ≡ Some parts
cuts [] = refl
cuts (p ∷ ps) =
    let rest : List ℕ = flat_map (λ part. part) ps in
    let ample : nat_lt (length (p ++ rest)) (length p) ≡ false = grind (arith, nat_tests, length-append {A = ℕ}) in
    let front : take (length p) (p ++ rest) ≡ p = take_at p rest (length p) refl in
    let back : drop (length p) (p ++ rest) ≡ rest = drop_at p rest (length p) refl in
    rw (ample, front, back, cuts ps) refl

pub parts_are_cut : (lengths bytes : List ℕ) (parts : List (List ℕ)) → AreParts lengths bytes parts → cut_by lengths bytes ≡ Some parts
parts_are_cut lengths bytes parts are =
    subst (λ (l : List ℕ). cut_by l bytes ≡ Some parts) are.lengths_are
    (subst (λ (b : List ℕ). cut_by (map length parts) b ≡ Some parts) are.bytes_are (cuts parts))
