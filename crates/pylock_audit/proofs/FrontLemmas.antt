-- What stands before each `-` of a text.
use Rattle.std.proofs.Common.{◌≡◌, ◌∙◌, ℕ, ◌==◌, List, [], ◌∷◌, ◌++◌, Some, None, ap, refl, sym, append_assoc, append-nil}
use Rattle.std.proofs.lemmas.Bool.{or_parts}
use Rattle.std.specs.List.{list_any}
use Rattle.pywheel_core.proofs.Lemmas.Texts.Cuts.{Lacks, cut_says, no_cut_says}
use Rattle.pywheel_core.specs.Texts.{cut_at}
use Rattle.pylock_audit.specs.Entry.{fronts_behind}

past : (front x y : List ℕ) → Lacks 45 x
    → fronts_behind front (x ++ 45 ∷ y) ≡ (front ++ x) ∷ fronts_behind ((front ++ x) ++ 45 ∷ []) y
past front [] y l = ap (λ t. t ∷ fronts_behind (t ++ 45 ∷ []) y) (sym (append-nil front))
past front (b ∷ x) y l =
    let both = or_parts (b == 45) (list_any (λ d. d == 45) x) l in
    rw both.0 (past (front ++ b ∷ []) x y both.1
    ∙ ap (λ t. t ∷ fronts_behind (t ++ 45 ∷ []) y) (append_assoc front (b ∷ []) x))

pub next_front : (front s x y : List ℕ) → cut_at 45 s ≡ Some (x, y)
    → fronts_behind front s ≡ (front ++ x) ∷ fronts_behind ((front ++ x) ++ 45 ∷ []) y
next_front front s x y cut =
    let p = cut_says 45 s x y cut in
    ap (fronts_behind front) p.0 ∙ past front x y p.1

none : (front s : List ℕ) → Lacks 45 s → fronts_behind front s ≡ []
none front [] l = refl
none front (b ∷ s) l =
    let both = or_parts (b == 45) (list_any (λ d. d == 45) s) l in
    rw both.0 (none (front ++ b ∷ []) s both.1)

pub no_front : (front s : List ℕ) → cut_at 45 s ≡ None → fronts_behind front s ≡ []
no_front front s cut = none front s (no_cut_says 45 s cut)
