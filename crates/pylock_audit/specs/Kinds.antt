-- All kinds of findings, and the kind that a word names.
use Rattle.std.specs.Prelude.{ℕ, Bool, List, [], ◌∷◌, Option}
use Rattle.std.specs.List.{find}
use Rattle.std.specs.Str.{bytes_eq}
use Rattle.pylock_audit.specs.Words.{finding_word}
use Rattle.pylock_audit.specs.declared.finding.FindingKind.{FindingKind}
use Rattle.pylock_audit.specs.declared.finding.FindingKind.TheVariants as kind

-- in the order in which those of one entry are told; none is missing (the law `words_name_kinds`)
abbrev pub kinds : List FindingKind
kinds =
    kind.LockVersion
    ∷ kind.UnknownKey
    ∷ kind.WrongType
    ∷ kind.NoPackages
    ∷ kind.NameForm
    ∷ kind.Version
    ∷ kind.MarkerExtra
    ∷ kind.ReadingsDiffer
    ∷ kind.UndeclaredName
    ∷ kind.NoSource
    ∷ kind.SeveralSources
    ∷ kind.NoHash
    ∷ kind.WeakHash
    ∷ kind.OddHash
    ∷ kind.BadHash
    ∷ kind.NoWheelName
    ∷ kind.NoSdistName
    ∷ kind.OtherName
    ∷ kind.OtherVersion
    ∷ kind.SameFileName
    ∷ kind.UnsafeFileName
    ∷ kind.OutsidePath
    ∷ kind.UnsafeSubdirectory
    ∷ kind.NotHttps
    ∷ kind.Credentials
    ∷ kind.SecretInUrl
    ∷ kind.MovingCommit
    ∷ kind.ControlCharacter
    ∷ kind.Clash
    ∷ kind.MayClash
    ∷ kind.Never
    ∷ kind.MayNever
    ∷ kind.NarrowerPython
    ∷ kind.MayBeNarrower
    ∷ kind.Vulnerable
    ∷ kind.OtherHost
    ∷ []

-- the kind whose word this is
abbrev pub kind_of_word : List ℕ → Option FindingKind
kind_of_word word = find (λ kind. bytes_eq (finding_word kind) word) kinds

-- kinds are the same where their words are (the law `words_differ`)
abbrev pub is_same_kind : FindingKind → FindingKind → Bool
is_same_kind kind other = bytes_eq (finding_word kind) (finding_word other)
