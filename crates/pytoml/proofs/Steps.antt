-- The steps over what stands between tokens, where that is nothing or one space.
use Rattle.std.proofs.Common.{◌≡◌, ℕ, ◌<◌, true, false, List, [], ◌∷◌, drop, get_or, is_some, refl, ◌∙◌, arith}
use Rattle.std.proofs.lemmas.Bool.Decides.{nat_tests}
use Rattle.toml_parser.specs.Lexical.{first, skip_ws, skip_blank, skip_from, skip_turn}
use Rattle.toml_parser.proofs.LexicalLemmas.{skip_ws_none, skip_ws_space}

pub past_no_ws : (s : List ℕ) → 32 < first s → skip_ws s ≡ s
past_no_ws s h = skip_ws_none s (grind (arith, nat_tests))

pub past_one_ws : (s : List ℕ) → first s ≡ 32 → 32 < get_or s 1 0 → skip_ws s ≡ drop 1 s
past_one_ws [] e h = absurd (omega arith)
past_one_ws (c ∷ cs) e h = rw e (skip_ws_space cs ∙ past_no_ws cs h)

pub past_no_blank : (s : List ℕ) → 35 < first s → skip_blank s ≡ s
unfolding skip_from
past_no_blank [] h = refl
past_no_blank (c ∷ cs) h =
    let stop : is_some (skip_turn true false c (first cs)) ≡ false = grind (arith, nat_tests) in
    rw stop

pub past_one_blank : (s : List ℕ) → first s ≡ 32 → 35 < get_or s 1 0 → skip_blank s ≡ drop 1 s
unfolding skip_from
past_one_blank [] e h = absurd (omega arith)
past_one_blank (c ∷ cs) e h = rw e (past_no_blank cs h)
