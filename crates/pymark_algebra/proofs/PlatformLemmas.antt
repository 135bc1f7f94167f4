-- The texts of the table of platforms.
use Rattle.std.proofs.Common.{◌≡◌, ℕ, Bool, true, false, not, List, codes, unwrap_or, option_map, Option, Some, None, ok_or, Result, Ok, Err, ◌∙◌, ap, inl, inr, refl, sym}
use Rattle.std.specs.Str.{bytes_eq}
use Rattle.std.proofs.lemmas.Slice.Eq.{bytes_eq-Decides}
use Rattle.pyver_core.specs.Version.Reading.{base_at, head_at, version_of}
use Rattle.pytext.specs.Results.{◌>>=◌}
use Rattle.pymark_core.specs.Environment.{EnvironmentValue, variable_in}
use Rattle.pymark_core.specs.Marker.Asked.{operand_variable}
use Rattle.pymark_core.specs.Marker.Comparison.{ComparisonValue}
use Rattle.pymark_core.specs.Marker.Value.{comparison_value, is_part, by_value, operand_text, value_against}
use Rattle.pymark_core.specs.declared.fault.EvalFault.{EvalFault}
use Rattle.pymark_core.specs.declared.fault.EvalFault.TheVariants.{Unset}
use Rattle.pymark_core.specs.declared.operand.Comparator.{Comparator}
use Rattle.pymark_core.specs.declared.operand.Comparator.TheVariants.{By, In, NotIn}
use Rattle.pymark_core.specs.declared.operand.Operand.TheVariants.{Variable}
use Rattle.pymark_core.specs.declared.variable.Var.{Var}
use Rattle.pymark_clauses.specs.declared.clauses.Literal.{Literal}
use Rattle.pymark_algebra.specs.Literals.{IsNeverAt}
use Rattle.pymark_algebra.specs.Platforms.{IsOn, known_text, may_have}
use Rattle.pymark_algebra.specs.Refuted.{IsNeverOn, IsRefuted, IsRefutedOn, IsVariableOf}
use Rattle.pymark_algebra.specs.declared.platform.Platform.{Platform}
use Rattle.pymark_algebra.specs.declared.platform.Platform.TheVariants.{Linux, MacOs, Windows, Other}
use Rattle.pymark_algebra.proofs.ValueLemmas.{text_of_left, variable_is}

pub posix : version_of (codes "posix") ≡ None
unfolding version_of base_at head_at
posix = refl

pub nt : version_of (codes "nt") ≡ None
unfolding version_of base_at head_at
nt = refl

pub linux : version_of (codes "linux") ≡ None
unfolding version_of base_at head_at
linux = refl

pub darwin : version_of (codes "darwin") ≡ None
unfolding version_of base_at head_at
darwin = refl

pub win32 : version_of (codes "win32") ≡ None
unfolding version_of base_at head_at
win32 = refl

pub linux_system : version_of (codes "Linux") ≡ None
unfolding version_of base_at head_at
linux_system = refl

pub darwin_system : version_of (codes "Darwin") ≡ None
unfolding version_of base_at head_at
darwin_system = refl

pub windows_system : version_of (codes "Windows") ≡ None
unfolding version_of base_at head_at
windows_system = refl

-- none of them spells a version
pub ruleset known_spells = (posix, nt, linux, darwin, win32, linux_system, darwin_system, windows_system)

-- a platform that may have a text besides one that it is known to have has the known one
same_text : (x t : List ℕ) → bytes_eq x t ≡ true → x ≡ t
same_text x t is = (bytes_eq-Decides x t).0 is

pub known_is : (p : Platform) (v : Var) (x t : List ℕ) → known_text p v ≡ Some t → may_have p v x ≡ true → x ≡ t
known_is Other v x t known may = absurd cc
known_is Linux v x t known may = same_text x t (ap (λ k. unwrap_or (option_map (bytes_eq x) k) true) (sym known) ∙ may)
known_is MacOs v x t known may = same_text x t (ap (λ k. unwrap_or (option_map (bytes_eq x) k) true) (sym known) ∙ may)
known_is Windows v x t known may = same_text x t (ap (λ k. unwrap_or (option_map (bytes_eq x) k) true) (sym known) ∙ may)

-- the text of a variable on the right, where the comparison has a value
unset : (e : EnvironmentValue) (v : Var) (p : Comparator) (x : List ℕ) (b : Bool) → variable_in v e ≡ None
    → value_against None e false x p (Variable v) ≡ Ok b → ⊥
unset e v (By o) x b none is =
    let no : Err (Unset v) ≡ Ok b = sym (ap (λ t. ok_or t (Unset v) >>= λ y. by_value false o x y) none) ∙ is in cc
unset e v In x b none is =
    let no : Err (Unset v) ≡ Ok b = sym (ap (λ t. ok_or t (Unset v) >>= λ y. Ok (is_part false x y)) none) ∙ is in cc
unset e v NotIn x b none is =
    let no : Err (Unset v) ≡ Ok b = sym (ap (λ t. (ok_or t (Unset v) >>= λ y. Ok (is_part false x y)) >>= λ i. Ok (not i)) none) ∙ is in cc

pub text_of_right : (e : EnvironmentValue) (c : ComparisonValue) (v : Var) (b : Bool) → operand_variable c.right ≡ Some v → comparison_value None e c ≡ Ok b
    → (x : List ℕ) × (variable_in v e ≡ Some x)
text_of_right e c v b right is = found (variable_in v e) refl (operand_text None e c.left) (sym (ap (λ o. operand_text None e c.left >>= λ x. value_against None e false x c.comparator o) (variable_is c.right v right)) ∙ is)
  where
    found : (t : Option (List ℕ)) → variable_in v e ≡ t → (l : Result (List ℕ) EvalFault)
        → (l >>= λ x. value_against None e false x c.comparator (Variable v)) ≡ Ok b → (x : List ℕ) × (variable_in v e ≡ Some x)
    found (Some x) has l same = (x, has)
    found None has (Err f) same = absurd cc
    found None has (Ok x) same = absurd (unset e v c.comparator x b has same)

pub text_of : (e : EnvironmentValue) (c : ComparisonValue) (v : Var) (b : Bool) → IsVariableOf v c → comparison_value None e c ≡ Ok b
    → (x : List ℕ) × (variable_in v e ≡ Some x)
text_of e c v b variable is = elim variable [
  | inl left ↦ text_of_left e c v b left is
  | inr right ↦ text_of_right e c v b right is
]

-- a literal that can't hold at the text that a platform has can't hold there
pub never_known : (p : Platform) (literal : Literal) (v : Var) (t : List ℕ) → IsVariableOf v literal.comparison.now → known_text p v ≡ Some t
    → IsNeverAt v t literal → IsNeverOn p literal
never_known p literal v t variable known never e on holds =
    let at = text_of e literal.comparison.now v literal.wanted variable holds in
    never e (at.1 ∙ ap Some (known_is p v at.0 t known (on v at.0 at.1))) holds

-- a clause that is refuted on each platform is refuted
pub refuted_on_each : (clause : List Literal) → IsRefutedOn Linux clause → IsRefutedOn MacOs clause → IsRefutedOn Windows clause → IsRefutedOn Other clause
    → IsRefuted clause
refuted_on_each clause linux mac windows other e coherent holds = on coherent.platform coherent.is_on
  where
    on : (p : Platform) → IsOn p e → ⊥
    on Linux is = linux e is holds
    on MacOs is = mac e is holds
    on Windows is = windows e is holds
    on Other is = other e is holds
