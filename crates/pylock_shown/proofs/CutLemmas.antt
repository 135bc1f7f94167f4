-- Texts that are cut at a byte.
use Rattle.std.proofs.Common.{◌≡◌, ◌∙◌, ℕ, ◌+◌, ◌==◌, List, ◌∷◌, ◌++◌, get_or, take, drop, length, Option, Some, None, option_map, MatchOption, Bor, ap, arith, sym, lit<}
use Rattle.std.proofs.lemmas.Bool.{ne_eqb}
use Rattle.std.proofs.lemmas.Grind.{get_or_default_zero}
use Rattle.std.proofs.lemmas.List.{length-append, take-append-drop}
use Rattle.std.proofs.lemmas.List.Folds.{list_any_none}
use Rattle.std.proofs.lemmas.Str.Pattern.{NoCharPasses-char, drop_at_char}
use Rattle.std.specs.Str.{NoCharPasses}
use Rattle.std.specs.Str.Pattern.{RFindsChar, SplitsAroundMatch}
use Rattle.pywheel_core.proofs.Lemmas.Texts.Cuts.{Lacks, cut_says}
use Rattle.pywheel_core.proofs.Lemmas.Texts.LastCut.{last_cut_joined, last_cut_lacking}
use Rattle.pywheel_core.specs.Texts.{cut_at, cut_at_last}

-- what stands behind a cut is shorter
pub cut_shorter : (c : ℕ) (s x y : List ℕ) → cut_at c s ≡ Some (x, y) → length s ≡ length x + (1 + length y)
cut_shorter c s x y cut = ap length (cut_says c s x y cut).0 ∙ (length-append x (c ∷ y) ∙ omega arith)

-- what `rsplit_once` answers at `@`
passes_lacks : (s : List ℕ) → NoCharPasses (λ d. d == 64) s → Lacks 64 s
passes_lacks s h = list_any_none (λ b. b == 64) s (λ k d l.
    ne_eqb (get_or s k d) 64 (λ e. NoCharPasses-char 64 s k h (lit< tt) l (sym (get_or_default_zero s k d l) ∙ e)))

pub last_at_is : (s : List ℕ) (r : Option (Bor (List ℕ) × Bor (List ℕ)))
    → MatchOption r (RFindsChar 64 s None) (λ x. SplitsAroundMatch (RFindsChar 64) s x.0.now x.1.now)
    → option_map (λ x. (x.0.now, x.1.now)) r ≡ cut_at_last 64 s
last_at_is s None h = sym (last_cut_lacking 64 s (passes_lacks s h))
last_at_is s (Some x) h =
    let i = h.0 in let j = h.1 in
    let lacks = passes_lacks (drop j s) h.2.0 in
    let at : drop i s ≡ 64 ∷ drop j s = drop_at_char 64 s i j h.2.1 (lit< tt) in
    let whole : s ≡ take i s ++ (64 ∷ drop j s) = sym (take-append-drop i s) ∙ ap (λ l. take i s ++ l) at in
    (λ k. Some (h.3 k, h.4 k)) ∙ sym (ap (cut_at_last 64) whole ∙ last_cut_joined 64 (take i s) (drop j s) lacks)
