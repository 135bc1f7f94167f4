-- What a lock says of itself: what made it, what it is for, and what it holds.
use Rattle.std.specs.Prelude.{ℕ, ◌++◌, codes, List, [], ◌∷◌, filter, length, map, Option}
use Rattle.std.specs.Prelude.{option_and_then, option_map, Result, Ok}
use Rattle.toml.specs.Data.{Members, as_str, get_member}
use Rattle.pytext.specs.Results.{◌>>=◌}
use Rattle.pyver_core.specs.Set.Normal.{set_text}
use Rattle.pylock_readers.specs.Entry.{EntryValue}
use Rattle.pylock_readers.specs.Lock.{HeadValue, LockValue}
use Rattle.pylock_readers.specs.Lock.Reading.{document_in, lock_in}
use Rattle.pylock_readers.specs.declared.error.LockError.{LockError}
use Rattle.pylock_summary.specs.Fact.{FactValue, number_fact, text_fact, texts_fact}
use Rattle.pylock_summary.specs.Kind.{has_kind, kind_word}
use Rattle.pylock_summary.specs.declared.kind.SourceKind.{SourceKind}
use Rattle.pylock_summary.specs.declared.kind.SourceKind.TheVariants as kind

-- what made a lock, and what it is for
abbrev pub aim_facts : (creator : Option (List ℕ)) → HeadValue → List FactValue
aim_facts creator head =
    text_fact (codes "created-by") creator
    ∷ text_fact (codes "requires-python") (option_map set_text head.requires_python)
    ∷ texts_fact (codes "environments") (map (λ marker. marker.text) head.environments)
    ∷ []

-- what may be chosen in it
abbrev pub choice_facts : HeadValue → List FactValue
choice_facts head =
    texts_fact (codes "extras") head.extras
    ∷ texts_fact (codes "dependency-groups") head.groups
    ∷ texts_fact (codes "default-groups") head.default_groups
    ∷ []

-- what a lock that this made says in its head
abbrev pub head_facts : (creator : Option (List ℕ)) → HeadValue → List FactValue
head_facts creator head = aim_facts creator head ++ choice_facts head

-- how many entries have a source of the kind
abbrev pub count_of : SourceKind → List EntryValue → ℕ
count_of sought entries = length (filter (has_kind sought) entries)

abbrev pub kind_facts : SourceKind → List EntryValue → List FactValue
kind_facts sought entries = number_fact (kind_word sought) (count_of sought entries) ∷ []

-- all, in order
abbrev pub facts_of : (creator : Option (List ℕ)) → LockValue → List FactValue
facts_of creator lock =
    head_facts creator lock.head
    ++ number_fact (codes "packages") (length lock.entries)
    ∷ kind_facts kind.Wheel lock.entries ++ kind_facts kind.Sdist lock.entries
    ++ kind_facts kind.Archive lock.entries ++ kind_facts kind.Vcs lock.entries
    ++ kind_facts kind.Directory lock.entries ++ kind_facts kind.Editable lock.entries

-- the text of a key
abbrev pub text_at : List ℕ → Members → Option (List ℕ)
text_at key document = option_and_then as_str (get_member key document)

-- the facts of a lock, or its refusal
abbrev pub with_facts : (creator : Option (List ℕ)) → Result LockValue LockError
    → Result (List FactValue) LockError
with_facts creator lock = lock >>= (λ lock. Ok (facts_of creator lock))

-- those of the lock that a document is
unfoldable pub summary_in : Members → Result (List FactValue) LockError
summary_in document = with_facts (text_at (codes "created-by") document) (lock_in document)

-- and of the lock that the bytes are
unfoldable pub summary_of : List ℕ → Result (List FactValue) LockError
summary_of bytes = document_in bytes >>= summary_in
