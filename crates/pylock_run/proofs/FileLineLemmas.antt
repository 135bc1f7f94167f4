-- The line of a wheel or an sdist, put together part by part.
use Rattle.std.proofs.Common.{◌≡◌, ◌∙◌, ◌+◌, ◌-◌, ◌≤◌, ℕ, true, List, ◌∷◌, ◌++◌, ap, append_assoc, arith, drop, length, subst, sym, take}
use Rattle.std.proofs.Math.Seq.{drop-append-add, drop-append_seam, take-append_seam}
use Rattle.std.proofs.lemmas.Bool.{and_parts}
use Rattle.std.proofs.lemmas.List.{length-append, length-drop, length-take-le, take_all}
use Rattle.std.proofs.lemmas.List.Folds.{list_all-append}
use Rattle.std.specs.List.{list_all}
use Rattle.pylock_run.specs.Inner.FileLine.{AreOrdinary, joined_texts}
use Rattle.pylock_run.specs.Inner.Fields.{is_ordinary}
use Rattle.pylock_run.specs.declared.text.file_line.FileTexts.{FileTexts}

joined : (front part more whole : List ℕ) → whole ≡ front ++ part → whole ++ more ≡ front ++ (part ++ more)
joined front part more whole is = ap (λ t. t ++ more) is ∙ append_assoc front part more

-- what stands up to the place behind each part, of which the last has a mark of its own
pub parts_joined : (m n : ℕ) (old number name version kind file place algorithm value end : List ℕ) (s0 s1 s2 s3 s4 s5 s6 s7 s8 : List ℕ)
    → s0 ≡ old ++ number → s1 ≡ s0 ++ m ∷ name → s2 ≡ s1 ++ m ∷ version → s3 ≡ s2 ++ m ∷ kind → s4 ≡ s3 ++ m ∷ file
    → s5 ≡ s4 ++ m ∷ place → s6 ≡ s5 ++ m ∷ algorithm → s7 ≡ s6 ++ n ∷ value → s8 ≡ s7 ++ end
    → s8 ≡ old ++ (number ++ m ∷ (name ++ m ∷ (version ++ m ∷ (kind ++ m ∷ (file ++ m ∷ (place ++ m ∷ (algorithm ++ n ∷ (value ++ end))))))))
parts_joined m n old number name version kind file place algorithm value end s0 s1 s2 s3 s4 s5 s6 s7 s8 e0 e1 e2 e3 e4 e5 e6 e7 e8 =
    let r7 = n ∷ (value ++ end) in
    let r6 = m ∷ (algorithm ++ r7) in
    let r5 = m ∷ (place ++ r6) in
    let r4 = m ∷ (file ++ r5) in
    let r3 = m ∷ (kind ++ r4) in
    let r2 = m ∷ (version ++ r3) in
    let r1 = m ∷ (name ++ r2) in
    e8 ∙ joined s6 (n ∷ value) end s7 e7 ∙ joined s5 (m ∷ algorithm) r7 s6 e6 ∙ joined s4 (m ∷ place) r6 s5 e5
    ∙ joined s3 (m ∷ file) r5 s4 e4 ∙ joined s2 (m ∷ kind) r4 s3 e3 ∙ joined s1 (m ∷ version) r3 s2 e2
    ∙ joined s0 (m ∷ name) r2 s1 e1 ∙ joined old number r1 s0 e0

-- a place of the line, with what stands before and behind it
abbrev pub Stands : ℕ → List ℕ → List ℕ → List ℕ → Type 0
Stands at line front back = (at ≡ length front) × (line ≡ front ++ back)

pub stands_behind : (at size : ℕ) (line old part back : List ℕ) → at ≡ size + length part → size ≡ length old → line ≡ old ++ (part ++ back)
    → Stands at line (old ++ part) back
stands_behind at size line old part back here long is =
    let all = length-append old part in
    (omega (arith, all, here, long), is ∙ sym (append_assoc old part back))

-- a mark in place of another, before a part, leads to the place behind the part
pub marked : (m n : ℕ) (front part back line line' : List ℕ) (at at' : ℕ) → Stands at line front (m ∷ (part ++ back))
    → at' ≡ at + 1 + length part → line' ≡ take at line ++ n ∷ drop (at + 1) line → Stands at' line' (front ++ n ∷ part) back
marked m n front part back line line' at at' (here, is) end put =
    let all = length-append front (n ∷ part) in
    let before : take at line ≡ front = ap (λ k. take k line) here ∙ ap (take (length front)) is ∙ take-append_seam front (m ∷ (part ++ back)) in
    let behind : drop (at + 1) line ≡ part ++ back
    = ap (λ k. drop (k + 1) line) here ∙ ap (drop (length front + 1)) is ∙ drop-append-add front (m ∷ (part ++ back)) 1 in (
      omega (arith, all, here, end),
      put ∙ ap (λ t. t ++ n ∷ drop (at + 1) line) before ∙ ap (λ t. front ++ n ∷ t) behind ∙ sym (append_assoc front (n ∷ part) back),
    )

pub up_to : (at : ℕ) (line front back : List ℕ) → Stands at line front back → take at line ≡ front
up_to at line front back (here, is) = ap (λ k. take k line) here ∙ ap (take (length front)) is ∙ take-append_seam front back

-- a text and what stands behind the mark after it
next : (text more : List ℕ) → list_all is_ordinary (text ++ 45 ∷ more) ≡ true → (list_all is_ordinary text ≡ true) × (list_all is_ordinary more ≡ true)
next text more all =
    and_parts (list_all is_ordinary text) (list_all is_ordinary more) (sym (list_all-append is_ordinary text (45 ∷ more)) ∙ all)

texts_ordinary : (t : FileTexts) → list_all is_ordinary (joined_texts t) ≡ true → AreOrdinary t
texts_ordinary t all =
    let (_, behind_number) = next t.number.now _ all in
    let (name, behind_name) = next t.name.now _ behind_number in
    let (version, behind_version) = next t.version.now _ behind_name in
    let (_, behind_kind) = next t.kind.now _ behind_version in
    let (file_name, behind_file) = next t.file_name.now _ behind_kind in
    let (place, behind_place) = next t.place.now _ behind_file in
    let (algorithm, behind_algorithm) = next t.algorithm.now _ behind_place in
    let (value, _) = next t.value.now _ behind_algorithm in
    record { name = name; version = version; file_name = file_name; place = place; algorithm = algorithm; value = value }

pub ordinary_behind : (t : FileTexts) (at : ℕ) (line whole : List ℕ) → at ≤ length line → whole ≡ take at line ++ joined_texts t
    → list_all is_ordinary (take (length whole - at) (drop at whole)) ≡ true → AreOrdinary t
ordinary_behind t at line whole within is all =
    let size = length-take-le at line within in
    let left = length-drop at whole in
    let behind : drop at whole ≡ joined_texts t
    = ap (λ n. drop n whole) (sym size) ∙ ap (drop (length (take at line))) is ∙ drop-append_seam (take at line) (joined_texts t) in
    texts_ordinary t (subst (λ l. list_all is_ordinary l ≡ true) (take_all (length whole - at) (drop at whole) (omega (arith, left)) ∙ behind) all)
