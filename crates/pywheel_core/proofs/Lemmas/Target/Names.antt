-- Which names of Pythons, ABIs and platforms differ.
use Rattle.std.proofs.Common.{◌≡◌, ℕ, ◌<◌, ◌^◌, Bool, true, ◌&&◌, not, bytes_eq, List, [], ◌∷◌, ◌++◌, codes, decimal, drop, get_or, length, refl, sym, ap, ◌∙◌, inl, inr, arith}
use Rattle.std.proofs.lemmas.Bool.{and_parts, cases_Bool}
use Rattle.std.proofs.lemmas.Fmt.{decimal_injective, decimal_nonempty}
use Rattle.std.proofs.lemmas.Option.{same_Some}
use Rattle.std.specs.Cmp.Lexicographic.{bytes_decides}
use Rattle.std.specs.List.{list_any}
use Rattle.pywheel_core.proofs.Lemmas.Target.Numbers.{decimal_lacks}
use Rattle.pywheel_core.proofs.Lemmas.Target.Once.{IsOnce}
use Rattle.pywheel_core.proofs.Lemmas.Texts.Cuts.{Lacks, cut_joined}
use Rattle.pywheel_core.specs.Target.Compatible.{IsOneOf}
use Rattle.pywheel_core.specs.Target.Names.{linux_arch_name}
use Rattle.pywheel_core.specs.Target.Platforms.{mac_name, musl_name}
use Rattle.pywheel_core.specs.Target.Tags.{cpython_name, python_name}
use Rattle.pywheel_core.specs.Texts.{cut_at}
use Rattle.pywheel_core.specs.declared.target.platform.LinuxArch.{LinuxArch}

-- ---- numbers in names

joined_same : (c : ℕ) (x y r s : List ℕ) → Lacks c x → Lacks c y → x ++ (c ∷ r) ≡ y ++ (c ∷ s) → (x ≡ y) × (r ≡ s)
joined_same c x y r s p q e =
    let same = same_Some (x, r) (y, s) (sym (cut_joined c x r p) ∙ ap (cut_at c) e ∙ cut_joined c y s q) in
    (ap (λ (z : List ℕ × List ℕ). z.0) same, ap (λ (z : List ℕ × List ℕ). z.1) same)

-- two numbers with `_` behind them
pub numbered_same : (m n : ℕ) (r s : List ℕ) → m < 2 ^ 64 → n < 2 ^ 64 → decimal m ++ (95 ∷ r) ≡ decimal n ++ (95 ∷ s) → (m ≡ n) × (r ≡ s)
numbered_same m n r s a b e =
    let p = joined_same 95 (decimal m) (decimal n) r s (decimal_lacks 95 m refl a) (decimal_lacks 95 n refl b) e in
    (decimal_injective m n a b p.0, p.1)

pub cpython_same : (m n : ℕ) → m < 2 ^ 64 → n < 2 ^ 64 → cpython_name m ≡ cpython_name n → m ≡ n
cpython_same m n a b e = decimal_injective m n a b (ap (drop 3) e)

pub python_same : (m n : ℕ) → m < 2 ^ 64 → n < 2 ^ 64 → python_name m ≡ python_name n → m ≡ n
python_same m n a b e = decimal_injective m n a b (ap (drop 3) e)

pub python_numbered : (n : ℕ) → n < 2 ^ 64 → python_name n ≡ codes "py3" → ⊥
python_numbered n h e = let some = decimal_nonempty n h in let none = ap length (ap (drop 3) e) in omega (arith, some, none)

pub musl_same : (arch : LinuxArch) (m n : ℕ) → m < 2 ^ 64 → n < 2 ^ 64 → musl_name arch m ≡ musl_name arch n → m ≡ n
musl_same arch m n a b e = (numbered_same m n (linux_arch_name arch) (linux_arch_name arch) a b (ap (drop 12) e)).0

pub mac_same : (m n p q : ℕ) (f g : List ℕ) → m < 2 ^ 64 → n < 2 ^ 64 → p < 2 ^ 64 → q < 2 ^ 64 → mac_name m n f ≡ mac_name p q g → (m ≡ p) × (n ≡ q) × (f ≡ g)
mac_same m n p q f g a b c d e =
    let x = numbered_same m p (decimal n ++ (95 ∷ f)) (decimal q ++ (95 ∷ g)) a c (ap (drop 7) e) in
    let y = numbered_same n q f g b d x.1 in (x.0, y.0, y.1)

-- ---- letters in names

-- texts with another letter at a place differ
pub differ : (place : ℕ) (a b : List ℕ) → (get_or a place 0 ≡ get_or b place 0 → ⊥) → a ≡ b → ⊥
differ place a b h e = h (ap (λ t. get_or t place 0) e)

-- whether the texts are all different, tried one by one
abbrev pub are_different : List (List ℕ) → Bool
are_different [] = true
are_different (w ∷ words) = not (list_any (bytes_eq w) words) && are_different words

found : (w : List ℕ) (words : List (List ℕ)) → IsOneOf w words → list_any (bytes_eq w) words ≡ true
found w [] h = absurd h
found w (v ∷ words) (inl e) = let same = (bytes_decides w v).1 e in rw same refl
found w (v ∷ words) (inr h) = let rest = found w words h in elim (cases_Bool (bytes_eq w v)) [ inl e ↦ rw e refl | inr e ↦ rw e rest ]

pub once_tried : (words : List (List ℕ)) → are_different words ≡ true → IsOnce words
once_tried [] h = tt
once_tried (w ∷ words) h =
    let p = and_parts (not (list_any (bytes_eq w) words)) (are_different words) h in
    (λ x. let e = found w words x in let bad = rw e at p.0 in absurd cc, once_tried words p.1)
