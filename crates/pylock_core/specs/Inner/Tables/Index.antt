-- The index of a session as its lists of numbers, one for each key.
use Rattle.std.specs.Prelude.{ℕ, ◌<◌, ◌≤◌, ◌==◌, nat_lt, Bool, true, false, ◌&&◌, ◌||◌, IsTrue}
use Rattle.std.specs.Prelude.{List, ◌∷◌, map, slice_index_or, vec_len, vec_capacity}
use Rattle.std.specs.Prelude.{[], if◌then◌else◌}
use Rattle.std.specs.Global.{Global}
use Rattle.std.specs.List.{list_any}
use Rattle.std.specs.declared.vec.Vec.{Vec}
use Rattle.pymark_core.specs.Marker.Keys.{reads}
use Rattle.pymark_core.specs.Marker.Reading.{MarkerValue}
use Rattle.pymark_core.specs.declared.marker.keys.Key.{Key}
use Rattle.pylock_core.specs.Session.Judgement.{IndexKey, Marked, OfTags, is_python}
use Rattle.pylock_core.specs.Session.State.{Rises}

-- what is read by what has these markers, a Python check or not, and wheels or not
abbrev pub any_reads : Key → List MarkerValue → Bool
any_reads key markers = list_any (λ m. reads key m.tree) markers

abbrev pub read_by : List MarkerValue → Bool → Bool → IndexKey → Bool
read_by markers check wheels (Marked key) = is_python key && check || any_reads key markers
read_by markers check wheels OfTags = wheels

-- the numbers of each list
abbrev pub numbers_in : List (Vec ℕ Global) → List (List ℕ)
numbers_in lists = map (λ list. list.items) lists

-- the numbers under a key
abbrev pub list_at : List (Vec ℕ Global) → ℕ → List ℕ
list_at lists key = slice_index_or (numbers_in lists) key []

-- an increasing list with the number in it
abbrev pub put_in : ℕ → List ℕ → List ℕ
put_in n [] = n ∷ []
put_in n (x ∷ xs) =
    if nat_lt x n then x ∷ put_in n xs else if n == x then x ∷ xs else n ∷ x ∷ xs

-- a list without the number
abbrev pub take_out : ℕ → List ℕ → List ℕ
take_out n [] = []
take_out n (x ∷ xs) = if n == x then xs else x ∷ take_out n xs

-- a list that had the number or not, where it is to have it or not
abbrev pub moved : ℕ → Bool → Bool → List ℕ → List ℕ
moved n false true ns = put_in n ns
moved n true false ns = take_out n ns
moved n false false ns = ns
moved n true true ns = ns

-- from this key on, each list that is to have a number has room for it
abbrev pub HaveCapacity : List (Vec ℕ Global) → List Bool → ℕ → Type 0
HaveCapacity lists reads from =
    (key : ℕ) (d : Vec ℕ Global) → from ≤ key → key < 14 → IsTrue (slice_index_or reads key false)
    → vec_len (slice_index_or lists key d) < vec_capacity (slice_index_or lists key d)

-- each list increases
abbrev pub AllRise : List (Vec ℕ Global) → Type 0
AllRise lists = (key : ℕ) → key < 14 → Rises 0 (list_at lists key)
