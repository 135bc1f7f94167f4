-- The kinds of findings, as they are printed.
use Rattle.std.specs.Prelude.{ℕ, Bool, List, [], ◌∷◌, codes}
use Rattle.std.specs.List.{list_any}
use Rattle.std.specs.Str.{bytes_eq}
use Rattle.pylock_audit.specs.declared.finding.FindingKind.{FindingKind}
use Rattle.pylock_audit.specs.declared.finding.FindingKind.TheVariants as kind

abbrev pub finding_word : FindingKind → List ℕ
finding_word kind.LockVersion = codes "lock-version"
finding_word kind.UnknownKey = codes "unknown-key"
finding_word kind.WrongType = codes "wrong-type"
finding_word kind.NoPackages = codes "no-packages"
finding_word kind.NameForm = codes "name-form"
finding_word kind.Version = codes "version"
finding_word kind.MarkerExtra = codes "marker-extra"
finding_word kind.ReadingsDiffer = codes "readings-differ"
finding_word kind.UndeclaredName = codes "undeclared-name"
finding_word kind.NoSource = codes "no-source"
finding_word kind.SeveralSources = codes "several-sources"
finding_word kind.NoHash = codes "no-hash"
finding_word kind.WeakHash = codes "weak-hash"
finding_word kind.OddHash = codes "odd-hash"
finding_word kind.BadHash = codes "bad-hash"
finding_word kind.NoWheelName = codes "no-wheel-name"
finding_word kind.NoSdistName = codes "no-sdist-name"
finding_word kind.OtherName = codes "other-name"
finding_word kind.OtherVersion = codes "other-version"
finding_word kind.SameFileName = codes "same-file-name"
finding_word kind.UnsafeFileName = codes "unsafe-file-name"
finding_word kind.OutsidePath = codes "outside-path"
finding_word kind.UnsafeSubdirectory = codes "unsafe-subdirectory"
finding_word kind.NotHttps = codes "not-https"
finding_word kind.Credentials = codes "credentials"
finding_word kind.SecretInUrl = codes "secret-in-url"
finding_word kind.MovingCommit = codes "moving-commit"
finding_word kind.ControlCharacter = codes "control-character"
finding_word kind.Clash = codes "clash"
finding_word kind.MayClash = codes "may-clash"
finding_word kind.Never = codes "never"
finding_word kind.MayNever = codes "may-never"
finding_word kind.NarrowerPython = codes "narrower-python"
finding_word kind.MayBeNarrower = codes "may-be-narrower"
finding_word kind.Vulnerable = codes "vulnerable"
finding_word kind.OtherHost = codes "other-host"

-- those that a strict reading refuses: by such findings one installer may differ from another
abbrev pub refused_words : List (List ℕ)
refused_words =
    codes "no-packages"
    ∷ codes "name-form"
    ∷ codes "version"
    ∷ codes "marker-extra"
    ∷ codes "no-source"
    ∷ codes "several-sources"
    ∷ codes "no-hash"
    ∷ codes "no-wheel-name"
    ∷ codes "no-sdist-name"
    ∷ codes "other-name"
    ∷ codes "other-version"
    ∷ codes "wrong-type"
    ∷ []

abbrev pub is_refused : FindingKind → Bool
is_refused kind = list_any (bytes_eq (finding_word kind)) refused_words
