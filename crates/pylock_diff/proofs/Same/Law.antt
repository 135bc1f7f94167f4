-- There is no change exactly where both documents hold the same lock.
use Rattle.std.proofs.Common.{◌≡◌, ◌∙◌, ◌++◌, ℕ, List, [], ◌∷◌, inl, inr, map, refl, sym, ap, subst}
use Rattle.std.proofs.lemmas.Bool.{cases_Bool}
use Rattle.std.specs.List.{AllByRecursion}
use Rattle.std.specs.Str.{bytes_eq}
use Rattle.toml.specs.Data.{Data, Members}
use Rattle.pylock_compare.specs.Rows.{values_at}
use Rattle.pylock_diff.specs.Change.{ChangeValue}
use Rattle.pylock_diff.specs.Changes.{item_changes, lock_changes, name_changes}
use Rattle.pylock_diff.specs.Compared.{ComparedValue, head_of}
use Rattle.pylock_diff.specs.Head.{head_changes}
use Rattle.pylock_diff.specs.Partners.{item_key}
use Rattle.pylock_diff.specs.Same.{HoldSameLock, IsRead, entries_of}
use Rattle.pylock_diff.proofs.Same.Counts.{moved_by_names, names_by_moves}
use Rattle.pylock_diff.proofs.Same.Heads.{head_same, head_told}
use Rattle.pylock_diff.proofs.Same.Lists.{at_other, at_same, back_none, front_none, none_under, under_none}
use Rattle.pylock_diff.proofs.Same.Names.{name_same, name_told}
use Rattle.pylock_diff.proofs.Same.Reading.{IsEntry, are_entries, are_rows, exact, of_table, row_of}
use Rattle.pylock_diff.proofs.Same.Rest.{IsOfTable}

-- the items under a name are of tables
tables_at : (name : List ℕ) (ds : List Data) → AllByRecursion IsEntry ds → AllByRecursion IsOfTable (values_at name (map row_of ds))
tables_at name [] all = tt
tables_at name (d ∷ ds) all = elim (cases_Bool (bytes_eq name (row_of d).0)) [
  | inl is ↦ subst (AllByRecursion IsOfTable) (sym (at_same name (row_of d).0 (row_of d).1 (map row_of ds) is)) (of_table d all.0, tables_at name ds all.1)
  | inr other ↦ subst (AllByRecursion IsOfTable) (sym (at_other name (row_of d).0 (row_of d).1 (map row_of ds) other)) (tables_at name ds all.1)
]

-- the changes of two locks are those of their documents
abbrev changes_of : (before after : Members) → List ChangeValue
changes_of before after = head_changes (head_of before) (head_of after) ++ item_changes (map row_of (entries_of before)) (map row_of (entries_of after))

of_documents : (old new : ComparedValue) (before after : Members) → IsRead old before → IsRead new after → lock_changes old new ≡ changes_of before after
of_documents old new before after one other =
    λ i. head_changes (head one i) (head other i) ++ item_changes (are_rows old before one i) (are_rows new after other i)
  where
    head : {lock : ComparedValue} {document : Members} → IsRead lock document → lock.head ≡ head_of document
    head read = ap (λ (c : ComparedValue). c.head) read.all

pub told : (old new : ComparedValue) (before after : Members) → IsRead old before → IsRead new after → lock_changes old new ≡ [] → HoldSameLock before after
told old new before after one other none =
    let nothing : changes_of before after ≡ [] = sym (of_documents old new before after one other) ∙ none in
    let olds = map row_of (entries_of before) in
    let news = map row_of (entries_of after) in
    let items = back_none (head_changes (head_of before) (head_of after)) (item_changes olds news) nothing in
    record {
      head = head_told before after one.proper other.proper (front_none (head_changes (head_of before) (head_of after)) (item_changes olds news) nothing);
      entries = moved_by_names row_of item_key IsEntry exact (entries_of before) (entries_of after) (are_entries old before one) (are_entries new after other)
          (λ name k. name_told name (values_at name olds) (values_at name news)
          (tables_at name (entries_of before) (are_entries old before one)) (tables_at name (entries_of after) (are_entries new after other))
          (under_none name_changes (λ name. refl) olds news items name) k);
    }

pub same : (old new : ComparedValue) (before after : Members) → IsRead old before → IsRead new after → HoldSameLock before after → lock_changes old new ≡ []
same old new before after one other holds =
    let olds = map row_of (entries_of before) in
    let news = map row_of (entries_of after) in
    of_documents old new before after one other
    ∙ (λ i. head_same before after holds.head i
    ++ none_under name_changes olds news (λ name. name_same name (values_at name olds) (values_at name news)
    (names_by_moves row_of item_key IsEntry exact (entries_of before) (entries_of after) holds.entries name)) i)
