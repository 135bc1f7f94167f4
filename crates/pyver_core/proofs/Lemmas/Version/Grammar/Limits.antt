-- Numbers past the limit, in lists and in what is made of them.
use Rattle.std.proofs.Common.{◌≡◌, ℕ, Bool, true, false, ◌||◌, leb, List, [], ◌∷◌, ◌++◌, Option, Some, None, refl, sym, ap, ◌∙◌, append_assoc}
use Rattle.std.specs.Prelude.{flat_map}
use Rattle.std.proofs.lemmas.List.{append-nil}
use Rattle.std.proofs.lemmas.List.Folds.{list_any-append}
use Rattle.pytext.specs.Digits.{number_limit}
use Rattle.pyver_core.specs.Version.Grammar.{has_large, number_in_segment}
use Rattle.pyver_core.specs.Inner.Limit.{Refuses}
use Rattle.pyver_core.specs.Version.Reading.{many_at, dotted_number_at, separated_segment_at}
use Rattle.pyver_core.specs.declared.version.error.VersionError.{VersionError}
use Rattle.pyver_core.specs.declared.version.error.VersionError.TheVariants.{Syntax, NumberTooLarge, Memory}
use Rattle.pyver_core.specs.declared.version.part.LocalPart.{LocalPart}
use Rattle.pyver_core.proofs.Lemmas.Version.Reading.Many.{Shrinks, dotted_shrinks, separated_shrinks, many_at-none, many_at-some}

pub or_false : (a b : Bool) → a ≡ false → (a || b) ≡ b
or_false true b e = absurd cc
or_false false b e = refl

pub has_large-append : (a b : List ℕ) → has_large (a ++ b) ≡ (has_large a || has_large b)
has_large-append a b = list_any-append (leb number_limit) a b

-- where some numbers are refused, so are these and others
pub Refuses-more : (e : VersionError) (part whole : List ℕ) → (has_large part ≡ true → has_large whole ≡ true) → Refuses e part → Refuses e whole
Refuses-more Syntax part whole h r = r
Refuses-more NumberTooLarge part whole h r = h r
Refuses-more Memory part whole h r = tt

-- ---- one more item of a list that is read

pub items_step : {X : Type 0} (read : List ℕ → Option (X × List ℕ)) → Shrinks read → (before : List X) (text : List ℕ) (x : X × List ℕ) → read text ≡ Some x → (before ++ x.0 ∷ []) ++ (many_at read x.1).0 ≡ before ++ (many_at read text).0
items_step read shrinks before text x e = append_assoc before (x.0 ∷ []) (many_at read x.1).0 ∙ ap (λ r. before ++ r.0) (sym (many_at-some read shrinks text x e))

pub items_end : {X : Type 0} (read : List ℕ → Option (X × List ℕ)) (before : List X) (text : List ℕ) → read text ≡ None → before ++ (many_at read text).0 ≡ before
items_end read before text e = ap (λ r. before ++ r.0) (many_at-none read text e) ∙ append-nil before

pub dotted_large : (text : List ℕ) (x : ℕ × List ℕ) → dotted_number_at text ≡ Some x → has_large (many_at dotted_number_at text).0 ≡ (has_large (x.0 ∷ []) || has_large (many_at dotted_number_at x.1).0)
dotted_large text x e = ap (λ (r : List ℕ × List ℕ). has_large r.0) (many_at-some dotted_number_at dotted_shrinks text x e) ∙ has_large-append (x.0 ∷ []) (many_at dotted_number_at x.1).0

pub separated_large : (text : List ℕ) (x : LocalPart × List ℕ) → separated_segment_at text ≡ Some x → has_large (flat_map number_in_segment (many_at separated_segment_at text).0) ≡ (has_large (number_in_segment x.0) || has_large (flat_map number_in_segment (many_at separated_segment_at x.1).0))
separated_large text x e = ap (λ (r : List LocalPart × List ℕ). has_large (flat_map number_in_segment r.0)) (many_at-some separated_segment_at separated_shrinks text x e) ∙ has_large-append (number_in_segment x.0) (flat_map number_in_segment (many_at separated_segment_at x.1).0)
