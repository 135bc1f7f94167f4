-- A plan is dealt out between the two requirements files.
use Rattle.std.proofs.Common.{[], ◌≡◌, ℕ, Bool, true, false, not, cond, List, ◌∷◌, Ok, map, sym, subst}
use Rattle.pylock_core.specs.Session.Picks.{is_unhashed}
use Rattle.pylock_exports.specs.Listed.{ListedValue}
use Rattle.pylock_exports.specs.Requirements.{Deals, deals_none, deals_one, deals_other, header, part_of, requirement_line}
use Rattle.pylock_exports.specs.Texts.{format_lines}
use Rattle.pylock_command.specs.declared.form.PlanFormat.TheVariants as format
use Rattle.pylock_exports.specs.declared.requirements.PlanPart.TheVariants.{Hashed, Local}
use Rattle.pylock_exports.proofs.LineLemmas.{requirement_each}

abbrev lines : List ListedValue → List (List ℕ)
lines sources = map requirement_line sources

dealt : (sources : List ListedValue) → Deals (lines sources) (lines (part_of Hashed sources)) (lines (part_of Local sources))
dealt [] = deals_none
dealt (s ∷ rest) = by (is_unhashed s.source) (dealt rest)
  where
    by : (b : Bool) → Deals (lines rest) (lines (part_of Hashed rest)) (lines (part_of Local rest))
        → Deals (lines (s ∷ rest)) (lines (cond (not b) (s ∷ part_of Hashed rest) (part_of Hashed rest))) (lines (cond b (s ∷ part_of Local rest) (part_of Local rest)))
    by true more = deals_other (requirement_line s) (lines rest) (lines (part_of Hashed rest)) (lines (part_of Local rest)) more
    by false more = deals_one (requirement_line s) (lines rest) (lines (part_of Hashed rest)) (lines (part_of Local rest)) more

pub dealt_lines : (sources : List ListedValue) (hashed others : List (List ℕ))
    → format_lines format.Requirements sources ≡ Ok (header ∷ hashed) → format_lines format.RequirementsLocal sources ≡ Ok (header ∷ others)
    → Deals (lines sources) hashed others
dealt_lines sources hashed others one two =
    let first : hashed ≡ lines (part_of Hashed sources) = cc (requirement_each Hashed sources (header ∷ hashed) one) in
    let second : others ≡ lines (part_of Local sources) = cc (requirement_each Local sources (header ∷ others) two) in
    subst (λ xs. Deals (lines sources) xs others) (sym first) (subst (Deals (lines sources) (lines (part_of Hashed sources))) (sym second) (dealt sources))
