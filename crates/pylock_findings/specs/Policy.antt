-- Which findings count, and which of them fail an audit.
use Rattle.std.specs.Prelude.{ℕ, Bool, true, false, ◌&&◌, ◌++◌, not, List, [], ◌∷◌, filter}
use Rattle.std.specs.Prelude.{length, Option, Some, None, ok_or, if◌then◌else◌, Result, Ok, Err}
use Rattle.std.specs.List.{list_any}
use Rattle.std.specs.Option.{option_map_or}
use Rattle.std.specs.Str.{bytes_eq}
use Rattle.pytext.specs.Results.{◌>>=◌}
use Rattle.pyver_core.specs.Name.{is_name, normal_name}
use Rattle.pywheel_core.specs.Texts.{cut_at, pieces_at}
use Rattle.pylock_audit.specs.Finding.{LockFindingValue}
use Rattle.pylock_audit.specs.Kinds.{is_same_kind, kind_of_word}
use Rattle.pylock_audit.specs.declared.finding.FindingKind.{FindingKind}
use Rattle.pylock_findings.specs.declared.policy.Ignored.{Ignored}
use Rattle.pylock_findings.specs.declared.policy.PolicyError.{PolicyError}
use Rattle.pylock_findings.specs.declared.policy.PolicyError.TheVariants as refused

-- the kinds that fail an audit, or all; and what is ignored
pub record PolicyValue : Type 0 where
  pub fail_on : Option (List FindingKind)
  pub ignored : List Ignored

-- ---- what words say

-- these before the others, unless there is a refusal
abbrev pub before : {X : Type 0} → List X → Result (List X) PolicyError
    → Result (List X) PolicyError
before those others = others >>= λ others. Ok (those ++ others)

-- the kind that a word names
abbrev pub kind_named : List ℕ → Result FindingKind PolicyError
kind_named word = ok_or (kind_of_word word) (refused.UnknownFinding word)

-- the kinds that words name, or the first word that names none
abbrev pub kinds_named : List (List ℕ) → Result (List FindingKind) PolicyError
kinds_named [] = Ok []
kinds_named (word ∷ words) =
    kind_named word >>= λ kind. before (kind ∷ []) (kinds_named words)

-- the kinds that fail an audit: the words stand between each `,`
abbrev pub fail_on_of : Option (List ℕ) → Result (Option (List FindingKind)) PolicyError
fail_on_of None = Ok None
fail_on_of (Some text) = kinds_named (pieces_at 44 text) >>= λ kinds. Ok (Some kinds)

-- a kind of which all is ignored, or what is found of the package of a name
abbrev pub ignored_kind : FindingKind → Result Ignored PolicyError
ignored_kind kind = Ok (record { kind = kind; name = None })

abbrev pub ignored_at : List ℕ → FindingKind → Result Ignored PolicyError
ignored_at name kind =
    if is_name name then Ok (record { kind = kind; name = Some (normal_name name) })
    else Err (refused.NoName name)

-- `WORD`, or `WORD:NAME`
abbrev pub ignored_by : List ℕ → Option (List ℕ × List ℕ) → Result Ignored PolicyError
ignored_by text None = kind_named text >>= ignored_kind
ignored_by text (Some cut) = kind_named cut.0 >>= ignored_at cut.1

abbrev pub ignored_of : List ℕ → Result Ignored PolicyError
ignored_of text = ignored_by text (cut_at 58 text)

-- all that is ignored, or the first refusal
abbrev pub all_ignored_of : List (List ℕ) → Result (List Ignored) PolicyError
all_ignored_of [] = Ok []
all_ignored_of (text ∷ texts) =
    ignored_of text >>= λ one. before (one ∷ []) (all_ignored_of texts)

abbrev pub policy_of : Option (List ℕ) → List (List ℕ) → Result PolicyValue PolicyError
policy_of fail_on ignored = do
  kinds ← fail_on_of fail_on
  all ← all_ignored_of ignored
  Ok (record { fail_on = kinds; ignored = all })

-- ---- what counts

-- the finding is of the kind, and of the package where one is named
abbrev pub is_of_package : Option (List ℕ) → Option (List ℕ) → Bool
is_of_package None found = true
is_of_package (Some name) found = option_map_or (bytes_eq name) found false

abbrev pub ignores : LockFindingValue → Ignored → Bool
ignores one ignored =
    is_same_kind one.finding.kind ignored.kind && is_of_package ignored.name one.name

abbrev pub is_ignored : PolicyValue → LockFindingValue → Bool
is_ignored policy one = list_any (ignores one) policy.ignored

-- the findings that count, in their order, and how many don't
abbrev pub counted : PolicyValue → List LockFindingValue → List LockFindingValue × ℕ
counted policy found =
    (filter (λ one. not (is_ignored policy one)) found, length (filter (is_ignored policy) found))

-- ---- what fails

abbrev pub fails : PolicyValue → FindingKind → Bool
fails policy kind = option_map_or (list_any (is_same_kind kind)) policy.fail_on true

-- the status of an audit that has these findings
abbrev pub status : PolicyValue → List LockFindingValue → ℕ
status policy found = if list_any (λ one. fails policy one.finding.kind) found then 1 else 0
