-- What a literal says of the version of the Python.
use Rattle.std.proofs.Common.{◌≡◌, ℕ, Bool, true, false, cond, ◌||◌, List, [], ◌∷◌, length, Option, Some, None, ok_or, Result, Ok, Err, ◌∙◌, ap, inl, inr, refl, sym, subst}
use Rattle.std.proofs.Common.{arith}
use Rattle.std.proofs.lemmas.Bool.Decides.{nat_tests}
use Rattle.std.proofs.lemmas.List.Elements.{All-weaker}
use Rattle.std.specs.Option.{IfSome, is_some, option_map}
use Rattle.std.specs.Prelude.{◌==◌}
use Rattle.std.proofs.lemmas.Bool.{cases_Bool}
use Rattle.std.specs.Result.{OnOk}
use Rattle.std.specs.declared.alloc.AllocError.{AllocError}
use Rattle.pyver_algebra.specs.FirstTwo.{first_two}
use Rattle.pyver_algebra.specs.Limits.{Keeps}
use Rattle.pyver_algebra.specs.declared.limit.Limit.{Limit}
use Rattle.pymark_clauses.specs.declared.clauses.Literal.{Literal}
use Rattle.pymark_algebra.specs.Coherent.{IsPython}
use Rattle.pymark_algebra.specs.Questions.{AllSay, PythonSays}
use Rattle.pymark_algebra.specs.Refuted.{AllJudge, FollowFrom, IsRefuted, IsRefutedUnder}
use Rattle.pymark_algebra.specs.declared.answer.PythonCondition.{PythonCondition}
use Rattle.pyver_core.specs.Parsed.{parsed_operand, parsed_version, within_limit}
use Rattle.pyver_core.specs.Set.Admission.{admits}
use Rattle.pyver_core.specs.Set.Grammar.{specifier_numbers}
use Rattle.pyver_core.specs.Set.Reading.{operand_of}
use Rattle.pyver_core.specs.Version.Grammar.{Spells, has_large, numbers}
use Rattle.pyver_core.specs.Version.Parts.{Parts, release_alone}
use Rattle.pyver_core.specs.Version.Reading.{version_of}
use Rattle.pyver_core.proofs.Lemmas.Parsed.Outcomes.{within-false, within-true}
use Rattle.pyver_core.proofs.Lemmas.Version.Reading.Complete.Whole.{version_complete}
use Rattle.pyver_core.proofs.Lemmas.Version.Reading.Sound.Parts.{version_sound}
use Rattle.pyver_core.specs.declared.set.error.SpecifierError.TheVariants as error
use Rattle.pyver_core.specs.declared.version.error.VersionError.TheVariants as refusal
use Rattle.pyver_core.specs.declared.set.specifier.Operator.{Operator}
use Rattle.pyver_core.specs.declared.set.specifier.Specifier.{Specifier}
use Rattle.pytext.specs.Results.{◌>>=◌}
use Rattle.pymark_core.specs.Environment.{EnvironmentValue, variable_in}
use Rattle.pymark_core.specs.Marker.Asked.{operand_variable}
use Rattle.pymark_core.specs.Marker.Comparison.{ComparisonValue}
use Rattle.pymark_core.specs.Marker.Value.{comparison_value, texts_value, value_against, version_value}
use Rattle.pymark_core.specs.declared.fault.EvalFault.{EvalFault}
use Rattle.pymark_core.specs.declared.fault.EvalFault.TheVariants.{NumberTooLarge}
use Rattle.pymark_core.specs.declared.operand.Operand.TheVariants.{Text}
use Rattle.pymark_core.specs.declared.variable.Var.{Var}
use Rattle.pymark_core.specs.declared.variable.Var.TheVariants.{PythonFullVersion, PythonVersion}
use Rattle.pymark_algebra.specs.Specifiers.{Asks}
use Rattle.pymark_algebra.proofs.ValueLemmas.{quoted_is, text_of_left, with_left}

parsed : {V E : Type 0} (syntax large : E) (ns : V → List ℕ) (r : Option V) (v : V)
    → (ok_or r syntax >>= λ q. within_limit large (ns q) q) ≡ Ok v → r ≡ Some v
parsed syntax large ns None v is = absurd cc
parsed syntax large ns (Some q) v is = elim (cases_Bool (has_large (ns q))) [
  | inl past ↦ absurd (let no : Err large ≡ Ok v = sym (within-true large (ns q) q past) ∙ is in cc)
  | inr small ↦ (let same : Ok q ≡ Ok v = sym (within-false large (ns q) q small) ∙ is in cc)
]

reads_as : (o : Operator) (text : List ℕ) (s : Specifier) → parsed_operand o text ≡ Ok s → operand_of o text ≡ Some s
unfolding parsed_operand
reads_as o text s is = parsed error.Syntax error.NumberTooLarge specifier_numbers (operand_of o text) s is

within : (b x w : Bool) → cond b (Err NumberTooLarge) (Ok x) ≡ Ok w → x ≡ w
within true x w is = absurd cc
within false x w is = cc

compared : (v : Option Parts) (s : Option Specifier) (texts : Result Bool EvalFault) (p : Parts) (q : Specifier) (b : Bool)
    → v ≡ Some p → s ≡ Some q → version_value v s texts ≡ Ok b → admits q p ≡ b
compared v s texts p q b is_version is_specifier is =
    within (has_large (numbers p) || has_large (specifier_numbers q)) (admits q p) b
    (sym (λ i. version_value (is_version i) (is_specifier i) texts) ∙ is)

-- a variable that spells a version has it compared with the specifier
pub admitted : (c : ComparisonValue) (s : Specifier) (wanted : Bool) (v : Var) (p : Parts) (e : EnvironmentValue)
    → Asks c s → operand_variable c.left ≡ Some v → IfSome (variable_in v e) (λ text. Spells text p)
    → comparison_value None e c ≡ Ok wanted → admits s p ≡ wanted
admitted c s wanted v p e asks left spells is =
    let at = text_of_left e c v wanted left is in
    let spelt : Spells at.0 p = subst (λ (t : Option (List ℕ)). IfSome t (λ text. Spells text p)) at.1 spells in
    compared (version_of at.0) (operand_of asks.operator asks.text) (texts_value asks.operator at.0 asks.text) p s wanted
    (version_complete at.0 p spelt) (reads_as asks.operator asks.text s asks.reads)
    (sym (with_left e c v at.0 left at.1
    ∙ ap (λ r. value_against None e false at.0 c.comparator r) (quoted_is c.right asks.text asks.quotes)
    ∙ ap (λ q. value_against None e false at.0 q (Text asks.text)) asks.compares) ∙ is)

-- ---- what follows, of the version and of its first two numbers

asked : (c : ComparisonValue) (found : Option Specifier) (s : Specifier) → IfSome found (λ q. Asks c q) → found ≡ Some s → Asks c s
asked c found s each is = subst (λ (r : Option Specifier). IfSome r (λ q. Asks c q)) is each

pub follows_whole : (literal : Literal) (old new : List Limit) (found : Option Specifier) (s : Specifier) (r : Result (Unit {0}) AllocError)
    → operand_variable literal.comparison.now.left ≡ Some PythonFullVersion → IfSome found (λ q. Asks literal.comparison.now q) → found ≡ Some s
    → OnOk r ((v : Parts) → Keeps old v → admits s v ≡ literal.wanted → Keeps new v) → OnOk r (FollowFrom literal old new)
follows_whole literal old new found s (Err f) left each is adds = tt
follows_whole literal old new found s (Ok u) left each is adds = λ v e python holds keeps.
    adds v keeps (admitted literal.comparison.now s literal.wanted PythonFullVersion v e (asked _ found s each is) left python.whole holds)

pub follows_first : (literal : Literal) (old new : List Limit) (found : Option Specifier) (s : Specifier) (r : Result (Unit {0}) AllocError)
    → operand_variable literal.comparison.now.left ≡ Some PythonVersion → IfSome found (λ q. Asks literal.comparison.now q) → found ≡ Some s
    → OnOk r ((v : Parts) → v.epoch ≡ 0 → Keeps old v → admits s (first_two v) ≡ literal.wanted → Keeps new v) → OnOk r (FollowFrom literal old new)
follows_first literal old new found s (Err f) left each is adds = tt
follows_first literal old new found s (Ok u) left each is adds = λ v e python holds keeps.
    adds v python.epoch keeps (admitted literal.comparison.now s literal.wanted PythonVersion (first_two v) e (asked _ found s each is) left python.first holds)

-- ---- a coherent environment

spells_as : (text : List ℕ) (v : Parts) → parsed_version text ≡ Ok v → version_of text ≡ Some v
unfolding parsed_version
spells_as text v is = parsed refusal.Syntax refusal.NumberTooLarge numbers (version_of text) v is

pub spelt : (t : Option (List ℕ)) (v : Parts) → option_map parsed_version t ≡ Some (Ok v) → IfSome t (λ text. Spells text v)
spelt None v is = tt
spelt (Some text) v is = version_sound text v (spells_as text v (let same : parsed_version text ≡ Ok v = cc in same))

not_some : {X : Type 0} (r : Option X) → is_some r ≡ false → r ≡ None
not_some None is = refl
not_some (Some x) is = absurd cc

no_items : {X : Type 0} (xs : List X) → (length xs == 0) ≡ true → xs ≡ []
no_items [] is = refl
no_items (x ∷ xs) is = absurd (let no : ⊥ = grind (arith, nat_tests) in no)

-- a version of which nothing but the release is there
pub alone : (v : Parts) → v.epoch ≡ 0 → is_some v.pre ≡ false → is_some v.post ≡ false → is_some v.dev ≡ false → (length v.local == 0) ≡ true
    → v ≡ release_alone v.release
alone v epoch pre post dev local = λ i. record {
  epoch = epoch i;
  release = v.release;
  pre = not_some v.pre pre i;
  post = not_some v.post post i;
  dev = not_some v.dev dev i;
  local = no_items v.local local i;
}

-- ---- what the specifiers say of `python_full_version`

same_some : (v w : Parts) → Some v ≡ Some w → v ≡ w
same_some v w is = cc

-- a specifier that says something of the variable judges the version of the Python so
judged : (e : EnvironmentValue) (v : Parts) (s : Specifier) (wanted : Bool) → IsPython v e → PythonSays e s wanted → admits s v ≡ wanted
judged e v s wanted python says =
    let spelt : Spells says.0 v = subst (λ (t : Option (List ℕ)). IfSome t (λ x. Spells x v)) says.2 python.whole in
    let same : v ≡ says.1 = same_some v says.1 (sym (version_complete says.0 v spelt) ∙ spells_as says.0 says.1 says.3) in
    ap (λ p. admits s p) same ∙ says.4

pub all_judge : (pythons : List PythonCondition) (v : Parts) (e : EnvironmentValue) → IsPython v e → AllSay e pythons → AllJudge pythons v
all_judge pythons v e python say =
    All-weaker (λ (c : PythonCondition). PythonSays e c.specifier.now c.wanted) (λ (c : PythonCondition). admits c.specifier.now v ≡ c.wanted)
    (λ c says. judged e v c.specifier.now c.wanted python says) pythons say

-- what is refuted anyway is refuted where specifiers say something too
pub refuted_under : (pythons : List PythonCondition) (clause : List Literal) → IsRefuted clause → IsRefutedUnder pythons clause
refuted_under pythons clause refuted e coherent say holds = refuted e coherent holds

-- a version that the text of the variable is read as, and that the specifier judges so
pub says_it : (e : EnvironmentValue) (s : Specifier) (wanted : Bool) (w : Parts) (t : Option (List ℕ)) → variable_in PythonFullVersion e ≡ t
    → option_map parsed_version t ≡ Some (Ok w) → admits s w ≡ wanted → PythonSays e s wanted
says_it e s wanted w None has read is = absurd cc
says_it e s wanted w (Some text) has read is = (text, w, has, (let same : parsed_version text ≡ Ok w = cc in same), is)
