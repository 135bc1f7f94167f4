-- A change of a lock: its kind, the name that it is of, and what was and is there, each as a person
-- is shown it. A field may be absent.
use Rattle.std.specs.Prelude.{ℕ, Bool, true, false, List, [], ◌∷◌, codes, filter, Option, Some}
use Rattle.std.specs.Prelude.{None, if◌then◌else◌, unwrap_or}
use Rattle.std.specs.List.{join_by}
use Rattle.pylock_compare.specs.Texts.{Texts}
use Rattle.pylock_shown.specs.Hidden.{hidden}
use Rattle.pylock_diff.specs.declared.change.ChangeKind.{ChangeKind}
use Rattle.pylock_diff.specs.declared.change.ChangeKind.TheVariants as kind

pub record ChangeValue : Type 0 where
  pub kind : ChangeKind
  pub name : Option (List ℕ)
  pub from : Option (List ℕ)
  pub to : Option (List ℕ)

abbrev pub change_word : ChangeKind → List ℕ
change_word kind.Head = codes "head"
change_word kind.Added = codes "added"
change_word kind.Removed = codes "removed"
change_word kind.Version = codes "version"
change_word kind.Hash = codes "hash"
change_word kind.File = codes "file"
change_word kind.Place = codes "place"
change_word kind.Condition = codes "condition"
change_word kind.Key = codes "key"
change_word kind.Fault = codes "fault"

-- a change of what stands under a name, as it is shown
abbrev pub change_of : ChangeKind → List ℕ → (from to : Option (List ℕ)) → ChangeValue
change_of kind name from to = record { kind = kind; name = Some name; from = from; to = to }

-- a change where it stands
abbrev pub told_where : Bool → ChangeValue → List ChangeValue
told_where stands change = if stands then change ∷ [] else []

-- what is told of what stands in both locks
abbrev pub if_both : {V C : Type 0} → (List V → List V → List C) → (olds news : List V) → List C
if_both told [] news = []
if_both told (old ∷ olds) [] = []
if_both told (old ∷ olds) (new ∷ news) = told (old ∷ olds) (new ∷ news)

-- texts as they are shown, with a separator between them and `-` for one that is absent; nothing
-- where there is none
abbrev pub shown_texts : List ℕ → Texts → Option (List ℕ)
shown_texts separator [] = None
shown_texts separator (text ∷ texts) =
    Some (join_by (λ t. hidden (unwrap_or t (codes "-"))) separator (text ∷ texts))

-- ---- for laws

-- whether it tells that a name came or went
abbrev pub comes_or_goes : ChangeKind → Bool
comes_or_goes kind.Head = false
comes_or_goes kind.Added = true
comes_or_goes kind.Removed = true
comes_or_goes kind.Version = false
comes_or_goes kind.Hash = false
comes_or_goes kind.File = false
comes_or_goes kind.Place = false
comes_or_goes kind.Condition = false
comes_or_goes kind.Key = false
comes_or_goes kind.Fault = false

-- the changes that tell so
abbrev pub coming_and_going : List ChangeValue → List ChangeValue
coming_and_going changes = filter (λ change. comes_or_goes change.kind) changes

-- what came from OLD to NEW went from NEW to OLD
abbrev pub turned_kind : ChangeKind → ChangeKind
turned_kind kind.Head = kind.Head
turned_kind kind.Added = kind.Removed
turned_kind kind.Removed = kind.Added
turned_kind kind.Version = kind.Version
turned_kind kind.Hash = kind.Hash
turned_kind kind.File = kind.File
turned_kind kind.Place = kind.Place
turned_kind kind.Condition = kind.Condition
turned_kind kind.Key = kind.Key
turned_kind kind.Fault = kind.Fault

abbrev pub turned : ChangeValue → ChangeValue
turned change = record {
  kind = turned_kind change.kind;
  name = change.name;
  from = change.to;
  to = change.from;
}
