-- Kinds by their words.
use Rattle.std.proofs.Common.{◌≡◌, ℕ, List, [], ◌∷◌, Bool, true, false, Some, refl, sym, ap, ◌∙◌, inl, inr, if◌then◌else◌}
use Rattle.std.specs.List.{find}
use Rattle.std.specs.Str.{bytes_eq}
use Rattle.std.proofs.lemmas.Bool.{cases_Bool, false≢true}
use Rattle.std.proofs.lemmas.Option.{none-some, same_Some}
use Rattle.std.proofs.lemmas.Slice.Eq.{bytes_eq-Decides}
use denote.Enum.Bare.{false_same, sameb, true_same}
use Rattle.pylock_audit.specs.contracts.finding.FindingKind.{the_type}
use Rattle.pylock_audit.specs.declared.finding.FindingKind.{FindingKind}
use Rattle.pylock_audit.specs.declared.finding.FindingKind.TheVariants as kind
use Rattle.pylock_audit.specs.Kinds.{is_same_kind, kind_of_word, kinds}
use Rattle.pylock_audit.specs.Words.{finding_word}

-- a kind is read back from its word
pub read_back : (k : FindingKind) → kind_of_word (finding_word k) ≡ Some k
read_back kind.LockVersion = refl
read_back kind.UnknownKey = refl
read_back kind.WrongType = refl
read_back kind.NoPackages = refl
read_back kind.NameForm = refl
read_back kind.Version = refl
read_back kind.MarkerExtra = refl
read_back kind.ReadingsDiffer = refl
read_back kind.UndeclaredName = refl
read_back kind.NoSource = refl
read_back kind.SeveralSources = refl
read_back kind.NoHash = refl
read_back kind.WeakHash = refl
read_back kind.OddHash = refl
read_back kind.BadHash = refl
read_back kind.NoWheelName = refl
read_back kind.NoSdistName = refl
read_back kind.OtherName = refl
read_back kind.OtherVersion = refl
read_back kind.SameFileName = refl
read_back kind.UnsafeFileName = refl
read_back kind.OutsidePath = refl
read_back kind.UnsafeSubdirectory = refl
read_back kind.NotHttps = refl
read_back kind.Credentials = refl
read_back kind.SecretInUrl = refl
read_back kind.MovingCommit = refl
read_back kind.ControlCharacter = refl
read_back kind.Clash = refl
read_back kind.MayClash = refl
read_back kind.Never = refl
read_back kind.MayNever = refl
read_back kind.NarrowerPython = refl
read_back kind.MayBeNarrower = refl
read_back kind.Vulnerable = refl
read_back kind.OtherHost = refl

-- two texts that are equal are the same
equal_is : (xs ys : List ℕ) → bytes_eq xs ys ≡ true → xs ≡ ys
equal_is xs ys same = (bytes_eq-Decides xs ys).0 same

pub same_word : (a b : FindingKind) → finding_word a ≡ finding_word b → a ≡ b
same_word a b e = same_Some a b (sym (read_back a) ∙ ap kind_of_word e ∙ read_back b)

pub same_kind : (a b : FindingKind) → is_same_kind a b ≡ true → a ≡ b
same_kind a b same = same_word a b (equal_is (finding_word a) (finding_word b) same)

-- `==` compares the words
pub same_is : (a b : FindingKind) → sameb the_type a b ≡ is_same_kind a b
same_is a b = elim (cases_Bool (is_same_kind a b)) [
  | inl same ↦ true_same the_type a b (same_kind a b same) ∙ sym same
  | inr apart ↦ false_same the_type tt a b (λ e. false≢true (sym apart ∙ (bytes_eq-Decides (finding_word a) (finding_word b)).1 (ap finding_word e))) ∙ sym apart
]

-- what is found among kinds has the word
found : (word : List ℕ) (x k : FindingKind) (xs : List FindingKind) (b : Bool) → bytes_eq (finding_word x) word ≡ b
    → (if b then Some x else find (λ kind. bytes_eq (finding_word kind) word) xs) ≡ Some k
    → (find (λ kind. bytes_eq (finding_word kind) word) xs ≡ Some k → finding_word k ≡ word) → finding_word k ≡ word
found word x k xs true same e behind = ap finding_word (sym (same_Some x k e)) ∙ equal_is (finding_word x) word same
found word x k xs false apart e behind = behind e

found_in : (word : List ℕ) (k : FindingKind) (xs : List FindingKind)
    → find (λ kind. bytes_eq (finding_word kind) word) xs ≡ Some k → finding_word k ≡ word
found_in word k [] e = absurd (none-some k e)
found_in word k (x ∷ xs) e = found word x k xs (bytes_eq (finding_word x) word) refl e (found_in word k xs)

pub has_word : (word : List ℕ) (k : FindingKind) → kind_of_word word ≡ Some k → finding_word k ≡ word
has_word word k e = found_in word k kinds e
