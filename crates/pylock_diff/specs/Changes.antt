-- What a change of a lock means: the list of changes of two locks, of two plans and of two answers.
use Rattle.std.specs.Prelude.{ℕ, ◌++◌, List, [], ◌∷◌, codes, decimal, Option, Some, None}
use Rattle.pylock_core.specs.Session.State.{State}
use Rattle.pylock_core.specs.Words.{fault_word}
use Rattle.pylock_core.specs.declared.answer.Answer.{Answer}
use Rattle.pylock_core.specs.declared.answer.Answer.TheVariants.{Plan, Fault}
use Rattle.pylock_diff.specs.Change.{ChangeValue, change_of}
use Rattle.pylock_diff.specs.Compared.{ComparedValue}
use Rattle.pylock_diff.specs.Conditions.{condition_changes}
use Rattle.pylock_diff.specs.Files.{hash_changes, place_changes}
use Rattle.pylock_diff.specs.Head.{head_changes}
use Rattle.pylock_diff.specs.Item.{ItemValue, entry_items, pick_items}
use Rattle.pylock_diff.specs.Keys.{entry_key_changes, source_key_changes}
use Rattle.pylock_diff.specs.Partners.{without_partners}
use Rattle.pylock_compare.specs.Rows.{Row, under_each}
use Rattle.pylock_shown.specs.Hidden.{hidden}
use Rattle.pylock_diff.specs.Sources.{file_changes}
use Rattle.pylock_diff.specs.Versions.{version_changes, versions_text}
use Rattle.pylock_diff.specs.declared.change.ChangeKind.TheVariants as kind

-- what the rows tell of the entries of a name that have no partner
abbrev pub row_changes : List ℕ → (olds news : List ItemValue) → List ChangeValue
row_changes name olds news =
    version_changes name olds news
    ++ hash_changes name olds news
    ++ file_changes name olds news
    ++ place_changes name olds news
    ++ condition_changes name olds news
    ++ source_key_changes name olds news

-- and then the keys of which the rows don't tell
abbrev pub rest_changes : List ℕ → (olds news : List ItemValue) → List ChangeValue
rest_changes name olds news =
    row_changes name olds news
    ++ entry_key_changes name (row_changes name olds news) olds news

-- what is told of a name that both have: partners drop out first
abbrev pub shared_changes : List ℕ → (olds news : List ItemValue) → List ChangeValue
shared_changes name olds news =
    rest_changes name (without_partners olds news) (without_partners news olds)

-- what is told of a name, as it is shown: of what OLD and NEW have of it
abbrev pub name_changes : List ℕ → (olds news : List ItemValue) → List ChangeValue
name_changes name [] [] = []
name_changes name [] (new ∷ news) =
    change_of kind.Added (hidden name) None (versions_text (new ∷ news)) ∷ []
name_changes name (old ∷ olds) [] =
    change_of kind.Removed (hidden name) (versions_text (old ∷ olds)) None ∷ []
name_changes name (old ∷ olds) (new ∷ news) =
    shared_changes (hidden name) (old ∷ olds) (new ∷ news)

-- names in order of code point
abbrev pub item_changes : (olds news : List (Row ItemValue)) → List ChangeValue
item_changes olds news = under_each name_changes olds news

-- of two locks: the head, and then the entries
abbrev pub lock_changes : (old new : ComparedValue) → List ChangeValue
lock_changes old new =
    head_changes old.head new.head
    ++ item_changes (entry_items old.lock.entries old.entries)
    (entry_items new.lock.entries new.entries)

-- the number of the entry that has a fault, and the fault
abbrev pub fault_text : Answer → Option (List ℕ)
fault_text (Plan picks) = None
fault_text (Fault number code) = Some (decimal number ++ codes " " ++ fault_word code)

abbrev pub fault_change : (old new : Answer) → ChangeValue
fault_change old new = record {
  kind = kind.Fault;
  name = None;
  from = fault_text old;
  to = fault_text new;
}

-- of two answers, each on its state: of the plans, or of the faults alone where one has a fault
abbrev pub answer_changes : (old new : State) → Answer → Answer → List ChangeValue
answer_changes old new (Plan olds) (Plan news) =
    item_changes (pick_items old olds) (pick_items new news)
answer_changes old new (Plan olds) (Fault number code) =
    fault_change (Plan olds) (Fault number code) ∷ []
answer_changes old new (Fault number code) answer = fault_change (Fault number code) answer ∷ []
