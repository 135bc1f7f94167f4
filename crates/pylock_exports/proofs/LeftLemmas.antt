-- What is left out, one source after the other.
use Rattle.std.proofs.Common.{[], ◌≡◌, ◌∙◌, ℕ, ◌+◌, ◌-◌, true, false, List, ◌∷◌, ◌++◌, arith, length, map, take, refl, sym, ap, append_assoc, append-nil, length-append, suc, zero}
use Rattle.pylock_exports.specs.Listed.{ListedValue}
use Rattle.pylock_exports.specs.Texts.{entry_of, is_left_out, left_out, left_sources}
use Rattle.pylock_command.specs.declared.form.PlanFormat.{PlanFormat}

abbrev Entries : Type 0
Entries = List (ℕ × List ℕ)

-- the first of these, and those of more, as many as are left to name
abbrev pub with_left : PlanFormat → Entries → List ListedValue → Entries
with_left form first sources = first ++ take (5 - length first) (map entry_of (left_sources form sources))

take_none : {X : Type 0} (n : ℕ) (xs : List X) → xs ≡ [] → take n xs ≡ []
take_none zero xs is = refl
take_none (suc n) [] is = refl
take_none (suc n) (x ∷ xs) is = cc is

-- as many more, one of them first
taken : (first : Entries) (x : ℕ × List ℕ) (more : Entries) (capacity : ℕ) → capacity ≡ 5 - length first
    → first ++ take capacity (x ∷ more) ≡ (first ++ take capacity (x ∷ [])) ++ take (5 - length (first ++ take capacity (x ∷ []))) more
taken first x more zero is =
    let none : 5 - length (first ++ []) ≡ 0 = omega (arith, sym is, ap length (append-nil first)) in
    sym (ap (λ n. (first ++ []) ++ take n more) none ∙ append-nil (first ++ []))
taken first x more (suc capacity) is =
    let one : take (suc capacity) (x ∷ []) ≡ x ∷ [] = ap (λ r. x ∷ r) (take_none capacity [] refl) in
    let left : 5 - length (first ++ x ∷ []) ≡ capacity = omega (arith, sym is, length-append first (x ∷ [])) in
    sym (append_assoc first (x ∷ []) (take capacity more))
    ∙ ap (λ n. (first ++ x ∷ []) ++ take n more) (sym left)
    ∙ ap (λ l. (first ++ l) ++ take (5 - length (first ++ l)) more) (sym one)

-- one more source, of which there is no line
pub left_more : (form : PlanFormat) (first new : Entries) (s : ListedValue) (rest : List ListedValue) → is_left_out form s.source ≡ true
    → new ≡ first ++ take (5 - length first) (entry_of s ∷ []) → with_left form new rest ≡ with_left form first (s ∷ rest)
left_more form first new s rest left is =
    rw left (ap (λ n. with_left form n rest) is ∙ sym (taken first (entry_of s) (map entry_of (left_sources form rest)) (5 - length first) refl))

-- one that has a line
pub line_more : (form : PlanFormat) (first : Entries) (s : ListedValue) (rest : List ListedValue) → is_left_out form s.source ≡ false
    → with_left form first rest ≡ with_left form first (s ∷ rest)
line_more form first s rest has = rw has refl

-- how many they are
pub count_more : (form : PlanFormat) (count total : ℕ) (s : ListedValue) (rest : List ListedValue) → is_left_out form s.source ≡ true
    → count + left_out form (s ∷ rest) ≡ total → count + 1 + left_out form rest ≡ total
count_more form count total s rest left is =
    let one : left_out form (s ∷ rest) ≡ suc (left_out form rest) = rw left refl in
    omega (arith, one, is)

pub count_other : (form : PlanFormat) (count total : ℕ) (s : ListedValue) (rest : List ListedValue) → is_left_out form s.source ≡ false
    → count + left_out form (s ∷ rest) ≡ total → count + left_out form rest ≡ total
count_other form count total s rest has is =
    let same : left_out form rest ≡ left_out form (s ∷ rest) = rw has refl in
    ap (λ n. count + n) same ∙ is
