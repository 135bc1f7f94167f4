-- The kinds of an entry's sources (PEP 751, `packages`).
use Rattle.std.specs.Prelude.{ℕ, Bool, true, false, ◌||◌, ◌++◌, nat_lt, List, [], ◌∷◌, codes}
use Rattle.std.specs.Prelude.{count_by, is_some, if◌then◌else◌}
use Rattle.std.specs.List.{join_by}
use Rattle.pylock_readers.specs.Entry.{EntryValue}

-- whether a list is not empty
abbrev pub is_any : {A : Type 0} → List A → Bool
is_any [] = false
is_any (x ∷ xs) = true

-- whether the entry has sources of more than one kind; its sdist and wheels are one kind
-- (PEP 751, "Installation", step 5)
abbrev pub has_conflict : EntryValue → Bool
has_conflict entry =
    nat_lt 1 (count_by (λ stands. stands) (is_some entry.vcs ∷ is_some entry.directory
    ∷ is_some entry.archive ∷ (is_some entry.sdist || is_any entry.wheels) ∷ []))

-- the kinds of the sources that stand
abbrev pub kind_where : Bool → List ℕ → List (List ℕ)
kind_where stands word = if stands then word ∷ [] else []

abbrev pub kinds : EntryValue → List (List ℕ)
kinds entry =
    kind_where (is_some entry.vcs) (codes "vcs")
    ++ kind_where (is_some entry.directory) (codes "directory")
    ++ kind_where (is_some entry.archive) (codes "archive")
    ++ kind_where (is_any entry.wheels) (codes "wheel")
    ++ kind_where (is_some entry.sdist) (codes "sdist")

-- the same, joined by `,`
abbrev pub kinds_text : EntryValue → List ℕ
kinds_text entry = join_by (λ kind. kind) (codes ",") (kinds entry)
