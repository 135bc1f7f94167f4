-- A version and a specifier within the limit are compared.
use Rattle.std.proofs.Common.{◌≡◌, ℕ, Bool, true, false, cond, ◌||◌, List, Option, Some, None, ok_or, Result, Ok, Err, refl}
use Rattle.pyver_core.specs.Parsed.{parsed_operand, parsed_version, within_limit}
use Rattle.pytext.specs.Results.{◌>>=◌}
use Rattle.pyver_core.specs.Set.Admission.{admits}
use Rattle.pyver_core.specs.Set.Grammar.{specifier_numbers}
use Rattle.pyver_core.specs.Set.Reading.{operand_of}
use Rattle.pyver_core.specs.Version.Grammar.{has_large, numbers}
use Rattle.pyver_core.specs.Version.Parts.{Parts}
use Rattle.pyver_core.specs.Version.Reading.{version_of}
use Rattle.pyver_core.specs.declared.set.error.SpecifierError.TheVariants as specifier
use Rattle.pyver_core.specs.declared.set.specifier.Operator.{Operator}
use Rattle.pyver_core.specs.declared.set.specifier.Specifier.{Specifier}
use Rattle.pyver_core.specs.declared.version.error.VersionError.TheVariants as version
use Rattle.pymark_core.specs.Marker.Value.{version_value}
use Rattle.pymark_core.specs.declared.fault.EvalFault.{EvalFault}
use Rattle.pymark_core.specs.declared.fault.EvalFault.TheVariants.{NumberTooLarge}

within : {A E : Type 0} (b : Bool) (x y : A) (e : E) → cond b (Err e) (Ok x) ≡ Ok y → (b ≡ false) × (x ≡ y)
within true x y e is = cc
within false x y e is = (refl, cc)

version_value_parts : (v : Option Parts) (s : Option Specifier) (texts : Result Bool EvalFault) (w : Parts) (t : Specifier)
    → (ok_or v version.Syntax >>= λ p. within_limit version.NumberTooLarge (numbers p) p) ≡ Ok w
    → (ok_or s specifier.Syntax >>= λ q. within_limit specifier.NumberTooLarge (specifier_numbers q) q) ≡ Ok t
    → version_value v s texts ≡ Ok (admits t w)
version_value_parts None s texts w t p q = cc
version_value_parts (Some v) None texts w t p q = cc
version_value_parts (Some v) (Some s) texts w t p q =
    let first = within (has_large (numbers v)) v w version.NumberTooLarge p in
    let second = within (has_large (specifier_numbers s)) s t specifier.NumberTooLarge q in
    (λ i. cond (first.0 i || second.0 i) (Err NumberTooLarge) (Ok (admits (second.1 i) (first.1 i))))

pub version_value_admits : (x y : List ℕ) (operator : Operator) (texts : Result Bool EvalFault) (w : Parts) (t : Specifier)
    → parsed_version x ≡ Ok w → parsed_operand operator y ≡ Ok t → version_value (version_of x) (operand_of operator y) texts ≡ Ok (admits t w)
unfolding parsed_version parsed_operand
version_value_admits x y operator texts w t p q = version_value_parts (version_of x) (operand_of operator y) texts w t p q
