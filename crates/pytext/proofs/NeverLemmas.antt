-- What never answers a refusal.
use Rattle.std.proofs.Common.{◌≡◌, Bool, true, false, cond, Option, Some, None, ok_or, Result, Ok, Err, ap}
use Rattle.pytext.specs.Results.{◌>>=◌}

-- the refusal is never answered
abbrev pub Never : {A E : Type 0} → E → Result A E → Type 0
Never refusal r = r ≡ Err refusal → ⊥

pub never_ok : {A E : Type 0} (refusal : E) (x : A) → Never refusal (Ok x)
never_ok refusal x e = absurd cc

pub never_err : {A E : Type 0} (refusal other : E) → (other ≡ refusal → ⊥) → Never {A = A} refusal (Err other)
never_err refusal other differ e = differ cc

pub never_or : {A E : Type 0} (refusal other : E) (o : Option A) → (other ≡ refusal → ⊥) → Never refusal (ok_or o other)
never_or refusal other None differ e = differ cc
never_or refusal other (Some x) differ e = absurd cc

pub never_cond : {A E : Type 0} (refusal : E) (b : Bool) (x y : Result A E) → Never refusal x → Never refusal y → Never refusal (cond b x y)
never_cond refusal true x y first second e = first e
never_cond refusal false x y first second e = second e

pub never_then : {A B E : Type 0} (refusal : E) (r : Result A E) (f : A → Result B E) → Never refusal r → ((x : A) → Never refusal (f x))
    → Never refusal (r >>= f)
never_then refusal (Ok x) f first second e = second x e
never_then refusal (Err r) f first second e = first (let same : r ≡ refusal = cc in ap Err same)
