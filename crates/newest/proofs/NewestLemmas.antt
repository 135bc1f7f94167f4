-- One version more: the newest so far stays, or the new one is the newest.
use Rattle.std.proofs.Common.{◌≡◌, true, false, List, [], ◌∷◌, ◌++◌, Option, Some, None, refl, sym, ◌∙◌, inl, inr}
use Rattle.std.specs.Prelude.{All}
use Rattle.std.specs.Ordering.{is_lt}
use Rattle.std.specs.declared.cmp.Ordering.{Ordering}
use Rattle.std.specs.declared.cmp.Ordering.TheVariants.{Less, Equal, Greater}
use Rattle.std.proofs.lemmas.List.Elements.{All-append, All-cons, All-nil, All-weaker, Contains-append_left, Contains-push}
use Rattle.std.proofs.lemmas.Bool.{cases_Bool}
use Rattle.pyver_core.specs.Version.OrderLaws.{version_total}
use Rattle.pyver_core.specs.Set.Admission.{admits_all}
use Rattle.pyver_core.specs.Version.Order.{IsBefore, is_before, version_cmp}
use Rattle.pyver_core.specs.Version.Parts.{Parts}
use Rattle.pyver_core.specs.declared.set.specifier.Specifier.{Specifier}
use Rattle.newest.specs.Newest.{PicksNewest, newer}

one_more : (P : Parts → Type 0) (versions : List Parts) (x : Parts) → All P versions → P x → All P (versions ++ x ∷ [])
one_more P versions x all px = All-append P versions (x ∷ []) all (All-cons P x [] px (All-nil P))

-- what may be newer than v: nothing that the set admits
abbrev NotNewer : List Specifier → Parts → Parts → Type 0
NotNewer set v w = admits_all set w ≡ true → IsBefore v w → ⊥

-- a version that the set doesn't admit
newest-refused : (set : List Specifier) (versions : List Parts) (x : Parts) (o : Option Parts) → admits_all set x ≡ false
    → PicksNewest set versions o → PicksNewest set (versions ++ x ∷ []) o
newest-refused set versions x None refused p = one_more (λ w. admits_all set w ≡ false) versions x p refused
newest-refused set versions x (Some v) refused p = record {
  given = Contains-append_left versions (x ∷ []) v p.given;
  admitted = p.admitted;
  newest = one_more (NotNewer set v) versions x p.newest (λ admitted _. let no : true ≡ false = sym admitted ∙ refused in cc);
}

less_is : (r : Ordering) → r ≡ Less → is_lt r ≡ true
less_is r e = rw e refl

is_less : (r : Ordering) → is_lt r ≡ true → r ≡ Less
is_less Less e = refl
is_less Equal e = absurd (let no : false ≡ true = e in cc)
is_less Greater e = absurd (let no : false ≡ true = e in cc)

-- one that isn't newer
newest-older : (set : List Specifier) (versions : List Parts) (x v : Parts) → is_before v x ≡ false
    → PicksNewest set versions (Some v) → PicksNewest set (versions ++ x ∷ []) (Some v)
newest-older set versions x v older p = record {
  given = Contains-append_left versions (x ∷ []) v p.given;
  admitted = p.admitted;
  newest = one_more (NotNewer set v) versions x p.newest
      (λ _ less. let no : true ≡ false = sym (less_is (version_cmp v x) less) ∙ older in cc);
}

not_before_itself : (x : Parts) → IsBefore x x → ⊥
not_before_itself x less = let both = version_total.antisymm x x in let no : Less ≡ Greater = rw less at both in cc

-- the first that is admitted
newest-first : (set : List Specifier) (versions : List Parts) (x : Parts) → admits_all set x ≡ true
    → PicksNewest set versions None → PicksNewest set (versions ++ x ∷ []) (Some x)
newest-first set versions x admitted p = record {
  given = Contains-push versions x;
  admitted = admitted;
  newest = one_more (NotNewer set x) versions x
      (All-weaker (λ w. admits_all set w ≡ false) (NotNewer set x)
      (λ w refused is _. let no : true ≡ false = sym is ∙ refused in cc) versions p)
      (λ _ less. not_before_itself x less);
}

-- a newer one
newest-newer : (set : List Specifier) (versions : List Parts) (x v : Parts) → admits_all set x ≡ true → IsBefore v x
    → PicksNewest set versions (Some v) → PicksNewest set (versions ++ x ∷ []) (Some x)
newest-newer set versions x v admitted less p = record {
  given = Contains-push versions x;
  admitted = admitted;
  newest = one_more (NotNewer set x) versions x
      (All-weaker (NotNewer set v) (NotNewer set x)
      (λ w not_newer is after. not_newer is (version_total.trans v x w less after)) versions p.newest)
      (λ _ less. not_before_itself x less);
}

pub newest-step : (set : List Specifier) (versions : List Parts) (x : Parts) (o : Option Parts)
    → PicksNewest set versions o → PicksNewest set (versions ++ x ∷ []) (newer set o x)
newest-step set versions x None p = elim (cases_Bool (admits_all set x)) [
  | inl admitted ↦ rw admitted (newest-first set versions x admitted p)
  | inr refused ↦ rw refused (newest-refused set versions x None refused p)
]
newest-step set versions x (Some v) p = elim (cases_Bool (admits_all set x)) [
  | inl admitted ↦ elim (cases_Bool (is_before v x)) [
    | inl less ↦ rw (admitted, less) (newest-newer set versions x v admitted (is_less (version_cmp v x) less) p)
    | inr older ↦ rw (admitted, older) (newest-older set versions x v older p)
  ]
  | inr refused ↦ rw refused (newest-refused set versions x (Some v) refused p)
]
