-- What is read and judged by its numbers: what an answer says of the texts.
use Rattle.std.proofs.Common.{◌≡◌, ℕ, Bool, true, false, List, Option, Some, None, Result, Ok, Err, refl, sym, ap, ◌∙◌, inl, inr}
use Rattle.std.specs.Prelude.{IfOk, IsErrOf, IsTrue, ok_or}
use Rattle.pyver_core.specs.Version.Grammar.{has_large}
use Rattle.pyver_core.specs.Parsed.{within_limit}
use Rattle.pytext.specs.Agreement.{Gives}
use Rattle.pytext.specs.Results.{◌>>=◌}
use Rattle.std.proofs.lemmas.Bool.{cases_Bool}

-- what is read, within the limit
abbrev pub outcome : {V E : Type 0} → E → E → (V → List ℕ) → Option V → Result V E
outcome syntax large ns read = ok_or read syntax >>= λ v. within_limit large (ns v) v

pub within-false : {V E : Type 0} (large : E) (ns : List ℕ) (v : V) → has_large ns ≡ false → within_limit large ns v ≡ Ok v
within-false large ns v e = rw e refl

pub within-true : {V E : Type 0} (large : E) (ns : List ℕ) (v : V) → has_large ns ≡ true → within_limit large ns v ≡ Err large
within-true large ns v e = rw e refl

within-Ok : {V E : Type 0} (large : E) (ns : List ℕ) (v w : V) → within_limit large ns v ≡ Ok w → (v ≡ w) × (has_large ns ≡ false)
within-Ok large ns v w e = elim (cases_Bool (has_large ns)) [
  | inl past ↦ absurd (let no : Err large ≡ Ok w = sym (within-true large ns v past) ∙ e in cc)
  | inr small ↦ (let same : Ok v ≡ Ok w = sym (within-false large ns v small) ∙ e in cc, small)
]

within-Err : {V E : Type 0} (large f : E) (ns : List ℕ) (v : V) → within_limit large ns v ≡ Err f → (f ≡ large) × (has_large ns ≡ true)
within-Err large f ns v e = elim (cases_Bool (has_large ns)) [
  | inl past ↦ (let same : Err large ≡ Err f = sym (within-true large ns v past) ∙ e in cc, past)
  | inr small ↦ absurd (let no : Ok v ≡ Err f = sym (within-false large ns v small) ∙ e in cc)
]

not_large : (b : Bool) → b ≡ false → IsTrue b → ⊥
not_large b e h = let no : false ≡ true = sym e ∙ h in cc

-- what an answer says, where P is what the text may mean
pub record Answers {V E : Type 0} (P : V → Type 0) (ns : V → List ℕ) (unread past : E) (r : Result V E) : Type 0 where
  pub ok : IfOk r P
  pub fits : IfOk r (λ v. IsTrue (has_large (ns v)) → ⊥)
  pub syntax : IsErrOf r unread → (v : V) → P v → ⊥
  pub large : IsErrOf r past → (v : V) × P v × IsTrue (has_large (ns v))

-- the answer of a reader that reads just what P says
pub answers : {V E : Type 0} (P : V → Type 0) (ns : V → List ℕ) (memory syntax large : E) (read : Option V) (r : Result V E)
    → (syntax ≡ large → ⊥) → (syntax ≡ memory → ⊥) → (large ≡ memory → ⊥) → ((v : V) → read ≡ Some v → P v) → ((v : V) → P v → read ≡ Some v)
    → Gives memory (λ v. v) r (outcome syntax large ns read) → Answers P ns syntax large r
answers P ns memory syntax large None (Ok v) other kept past sound complete a = absurd cc
answers P ns memory syntax large (Some w) (Ok v) other kept past sound complete a =
    let both = within-Ok large (ns w) w v a in record {
      ok = sound v (ap Some both.0);
      fits = not_large _ (ap (λ x. has_large (ns x)) (sym both.0) ∙ both.1);
      syntax = λ is. absurd cc;
      large = λ is. absurd cc;
    }
answers P ns memory syntax large None (Err e) other kept past sound complete a = record {
  ok = tt;
  fits = tt;
  syntax = λ is v p. let no : None ≡ Some v = complete v p in cc;
  large = λ is.
      let same : e ≡ large = cc in
      let no : Err syntax ≡ Err e = a (λ m. past (sym same ∙ m)) in absurd (other (cc));
}
answers P ns memory syntax large (Some w) (Err e) other kept past sound complete a = record {
  ok = tt;
  fits = tt;
  syntax = λ is v p.
      let same : e ≡ syntax = cc in
      other (sym same ∙ (within-Err large e (ns w) w (a (λ m. kept (sym same ∙ m)))).0);
  large = λ is.
      let same : e ≡ large = cc in
      (w, sound w refl, (within-Err large e (ns w) w (a (λ m. past (sym same ∙ m)))).1);
}
