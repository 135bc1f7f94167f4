-- Who a URL names, one byte after another, and by its last `@`.
use Rattle.std.proofs.Common.{◌≡◌, ◌∙◌, ℕ, Bool, ◌==◌, ◌||◌, List, [], ◌∷◌, Option, Some, None, option_map, refl, ap, sym, inl, inr}
use Rattle.std.proofs.Math.Bool.{or-false, or_assoc}
use Rattle.std.proofs.lemmas.Bool.{cases_Bool}
use Rattle.std.specs.List.{list_any}
use Rattle.std.specs.Option.{option_map_or}
use Rattle.pytext.specs.Options.{either}
use Rattle.pylock_places.specs.Inner.User.{user_after}
use Rattle.pylock_places.specs.Url.{around_user, ends_authority}

abbrev Cut : Type 0
Cut = List ℕ × List ℕ

step : (colon colons : Bool) (b : ℕ) (o : Option Cut) (password : Bool) → colons ≡ (colon || b == 58)
    → option_map_or (λ (cut : Cut). colons || list_any (λ d. d == 58) cut.0) o password
    ≡ option_map_or (λ (cut : Cut). colon || list_any (λ d. d == 58) cut.0) (either (option_map (λ (cut : Cut). (b ∷ cut.0, cut.1)) o) None) password
step colon colons b None password same = refl
step colon colons b (Some x) password same = ap (λ t. t || list_any (λ d. d == 58) x.0) same ∙ or_assoc colon (b == 58) (list_any (λ d. d == 58) x.0)

at_step : (colon colons : Bool) (b : ℕ) (t : List ℕ) (o : Option Cut) (password : Bool) → colons ≡ (colon || b == 58)
    → option_map_or (λ (cut : Cut). colons || list_any (λ d. d == 58) cut.0) o colon
    ≡ option_map_or (λ (cut : Cut). colon || list_any (λ d. d == 58) cut.0) (either (option_map (λ (cut : Cut). (b ∷ cut.0, cut.1)) o) (Some ([], t))) password
at_step colon colons b t None password same = sym (or-false colon)
at_step colon colons b t (Some x) password same = ap (λ t. t || list_any (λ d. d == 58) x.0) same ∙ or_assoc colon (b == 58) (list_any (λ d. d == 58) x.0)

pub user_is : (colon password : Bool) (text : List ℕ)
    → user_after colon password text
    ≡ option_map_or (λ (cut : Cut). colon || list_any (λ b. b == 58) cut.0) (around_user text) password
user_is colon password [] = refl
user_is colon password (b ∷ rest) = elim (cases_Bool (ends_authority b)) [
  | inl e ↦ rw e refl
  | inr e ↦ elim (cases_Bool (b == 64)) [
    | inl at ↦ rw (e, at) (user_is (colon || b == 58) colon rest ∙ at_step colon (colon || b == 58) b rest (around_user rest) password refl)
    | inr at ↦ rw (e, at) (user_is (colon || b == 58) password rest ∙ step colon (colon || b == 58) b (around_user rest) password refl)
  ]
]
