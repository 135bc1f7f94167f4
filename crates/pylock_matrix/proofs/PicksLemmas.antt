-- Each pick of a plan is among all files, and is taken.
use Rattle.std.proofs.Common.{◌≡◌, ◌∙◌, ◌⊎◌, ◌++◌, ◌+◌, ◌<◌, ◌≤◌, ◌==◌, ◌&&◌, ℕ, zero, suc, Bool, cond, true, false, List, [], ◌∷◌, filter, length, get_or, is_some, map, Option, None, Some, option_map, slice_get, ap, arith, eq-eqb, inl, inr, ne_eqb, refl, subst, sym}
use Rattle.std.specs.List.{All, Contains, flat_map, list_any}
use Rattle.std.specs.Option.{option_map_or}
use Rattle.std.proofs.lemmas.List.Elements.{All-contains, All-contains_itself, All-weaker, Contains-append_left, Contains-append_right}
use Rattle.std.proofs.lemmas.List.Folds.{list_any_at}
use Rattle.pylock_readers.specs.Entry.{EntryValue, FileValue}
use Rattle.pylock_core.specs.Session.Picks.{HasSource, IsPickAmong, SourceValue, source_in, source_where, sources, wheels_from}
use Rattle.pylock_core.specs.Session.State.{NumbersRise, Rises, State, entry_at}
use Rattle.pylock_core.specs.Session.Steps.{answer}
use Rattle.pylock_core.specs.declared.answer.Answer.{Answer}
use Rattle.pylock_core.specs.declared.answer.Answer.TheVariants.{Plan}
use Rattle.pylock_core.specs.declared.answer.Pick.{Pick}
use Rattle.pylock_core.specs.declared.answer.PickSource.{PickSource}
use Rattle.pylock_core.specs.declared.answer.PickSource.TheVariants as source
use Rattle.pylock_matrix.specs.Cell.{CellValue}
use Rattle.pylock_matrix.specs.Files.{all_picks, answers_on, files_on, is_same_pick, is_same_source, picks_of, takes}
use Rattle.pylock_matrix.specs.Moving.{placed}
use Rattle.pylock_matrix.specs.declared.setting.Setting.{Setting}

-- ---- elements of a list

here : {X : Type 0} (x : X) (xs : List X) → Contains (x ∷ xs) x
here x xs = (0, omega arith, refl)

there : {X : Type 0} (x : X) (xs : List X) (y : X) → Contains xs y → Contains (x ∷ xs) y
there x xs y has = (suc has.0, omega (arith, has.1), has.2)

here_same : {X : Type 0} (x : X) (xs : List X) (y : X) → x ≡ y → Contains (x ∷ xs) y
here_same x xs y same = (0, omega arith, same)

mapped_at : {X Y : Type 0} (f : X → Y) (xs : List X) (x : X) (k : ℕ) → k < length xs → get_or xs k x ≡ x → Contains (map f xs) (f x)
mapped_at f [] x k within is = absurd (omega arith)
mapped_at f (y ∷ ys) x zero within is = here_same (f y) (map f ys) (f x) (ap f is)
mapped_at f (y ∷ ys) x (suc k) within is = there (f y) (map f ys) (f x) (mapped_at f ys x k (omega arith) is)

mapped : {X Y : Type 0} (f : X → Y) (xs : List X) (x : X) → Contains xs x → Contains (map f xs) (f x)
mapped f xs x has = mapped_at f xs x has.0 has.1 has.2

flat_at : {X Y : Type 0} (f : X → List Y) (xs : List X) (x : X) (y : Y) (k : ℕ) → k < length xs → get_or xs k x ≡ x → Contains (f x) y → Contains (flat_map f xs) y
flat_at f [] x y k within is has = absurd (omega arith)
flat_at f (z ∷ zs) x y zero within is has = Contains-append_left (f z) (flat_map f zs) y (subst (λ w. Contains (f w) y) (sym is) has)
flat_at f (z ∷ zs) x y (suc k) within is has = Contains-append_right (f z) (flat_map f zs) y (flat_at f zs x y k (omega arith) is has)

flat : {X Y : Type 0} (f : X → List Y) (xs : List X) (x : X) (y : Y) → Contains xs x → Contains (f x) y → Contains (flat_map f xs) y
flat f xs x y has more = flat_at f xs x y has.0 has.1 has.2 more

kept : {X : Type 0} (test : Bool) (z : X) (rest : List X) (x : X) → Contains rest x → Contains (cond test (z ∷ rest) rest) x
kept true z rest x has = there z rest x has
kept false z rest x has = has

filtered_at : {X : Type 0} (test : X → Bool) (xs : List X) (x : X) (k : ℕ) → k < length xs → get_or xs k x ≡ x → test x ≡ true → Contains (filter test xs) x
filtered_at test [] x k within is passes = absurd (omega arith)
filtered_at test (z ∷ zs) x zero within is passes =
    subst (λ b. Contains (cond b (z ∷ filter test zs) (filter test zs)) x) (sym (ap test is ∙ passes)) (here_same z (filter test zs) x is)
filtered_at test (z ∷ zs) x (suc k) within is passes =
    kept (test z) z (filter test zs) x (filtered_at test zs x k (omega arith) is passes)

filtered : {X : Type 0} (test : X → Bool) (xs : List X) (x : X) → Contains xs x → test x ≡ true → Contains (filter test xs) x
filtered test xs x has passes = filtered_at test xs x has.0 has.1 has.2 passes

any_of : {X : Type 0} (test : X → Bool) (xs : List X) (x : X) → Contains xs x → test x ≡ true → list_any test xs ≡ true
any_of test xs x has passes = list_any_at test xs has.0 x has.1 (ap test has.2 ∙ passes)

-- ---- a pick is the same as itself

same_source : (one : PickSource) → is_same_source one one ≡ true
same_source source.Vcs = refl
same_source source.Directory = refl
same_source source.Archive = refl
same_source (source.Wheel place) = eq-eqb place place refl
same_source source.Sdist = refl

same_pick : (pick : Pick) → is_same_pick pick pick ≡ true
same_pick pick =
    ap (λ b. b && is_same_source pick.source pick.source) (eq-eqb pick.id pick.id refl) ∙ same_source pick.source

-- ---- an entry's source is among its sources

abbrev IsAmong : List (PickSource × SourceValue) → PickSource → Type 0
IsAmong list name = (value : SourceValue) × Contains list (name, value)

left : (xs ys : List (PickSource × SourceValue)) (name : PickSource) → IsAmong xs name → IsAmong (xs ++ ys) name
left xs ys name among = (among.0, Contains-append_left xs ys (name, among.0) among.1)

right : (xs ys : List (PickSource × SourceValue)) (name : PickSource) → IsAmong ys name → IsAmong (xs ++ ys) name
right xs ys name among = (among.0, Contains-append_right xs ys (name, among.0) among.1)

one_value : (name : PickSource) (o : Option SourceValue) → is_some o ≡ true → IsAmong (option_map_or (λ s. (name, s) ∷ []) o []) name
one_value name None some = absurd cc
one_value name (Some value) some = (value, here (name, value) [])

some_mapped : {X Y : Type 0} (f : X → Y) (o : Option X) → is_some o ≡ true → is_some (option_map f o) ≡ true
some_mapped f None some = some
some_mapped f (Some x) some = refl

wheel_at : (start : ℕ) (files : List FileValue) (k : ℕ) → k < length files → IsAmong (wheels_from start files) (source.Wheel (start + k))
wheel_at start [] k within = absurd (omega arith)
wheel_at start (file ∷ files) zero within =
    let same : start ≡ start + 0 = omega arith in
    subst (λ n. IsAmong (wheels_from start (file ∷ files)) (source.Wheel n)) same (_, here _ (wheels_from (start + 1) files))
wheel_at start (file ∷ files) (suc k) within =
    let more = wheel_at (start + 1) files k (omega arith) in
    let same : start + 1 + k ≡ start + suc k = omega arith in
    subst (λ n. IsAmong (wheels_from start (file ∷ files)) (source.Wheel n)) same (more.0, there _ (wheels_from (start + 1) files) (source.Wheel (start + 1 + k), more.0) more.1)

source_among : (entry : EntryValue) (name : PickSource) → HasSource name entry → IsAmong (sources entry) name
source_among entry source.Vcs has =
    left _ (source_where entry source.Sdist) source.Vcs
    (left _ (wheels_from 0 entry.wheels) source.Vcs
    (left _ (source_where entry source.Archive) source.Vcs
    (left (source_where entry source.Vcs) (source_where entry source.Directory) source.Vcs
    (one_value source.Vcs (source_in entry source.Vcs) (some_mapped _ entry.vcs has)))))
source_among entry source.Directory has =
    left _ (source_where entry source.Sdist) source.Directory
    (left _ (wheels_from 0 entry.wheels) source.Directory
    (left _ (source_where entry source.Archive) source.Directory
    (right (source_where entry source.Vcs) (source_where entry source.Directory) source.Directory
    (one_value source.Directory (source_in entry source.Directory) (some_mapped _ entry.directory has)))))
source_among entry source.Archive has =
    left _ (source_where entry source.Sdist) source.Archive
    (left _ (wheels_from 0 entry.wheels) source.Archive
    (right (source_where entry source.Vcs ++ source_where entry source.Directory) (source_where entry source.Archive) source.Archive
    (one_value source.Archive (source_in entry source.Archive) (some_mapped _ entry.archive has))))
source_among entry (source.Wheel place) has =
    left _ (source_where entry source.Sdist) (source.Wheel place)
    (right (source_where entry source.Vcs ++ source_where entry source.Directory ++ source_where entry source.Archive) (wheels_from 0 entry.wheels) (source.Wheel place)
    (let same : 0 + place ≡ place = omega arith in
    subst (λ n. IsAmong (wheels_from 0 entry.wheels) (source.Wheel n)) same (wheel_at 0 entry.wheels place has)))
source_among entry source.Sdist has =
    right (source_where entry source.Vcs ++ source_where entry source.Directory ++ source_where entry source.Archive ++ wheels_from 0 entry.wheels) (source_where entry source.Sdist) source.Sdist
    (one_value source.Sdist (source_in entry source.Sdist) (some_mapped _ entry.sdist has))

-- ---- a pick is among all files

-- an entry is found by its number
found_at : (n : ℕ) (es : List (ℕ × EntryValue)) → Rises n (map (λ e. e.0) es) → (id : ℕ) (entry : EntryValue) (k : ℕ) → k < length es → get_or es k (id, entry) ≡ (id, entry)
    → (n ≤ id) × (entry_at id es ≡ Some entry)
found_at n [] rises id entry k within is = absurd (omega arith)
found_at n (e ∷ es) rises id entry zero within is =
    let number : e.0 ≡ id = ap (λ (x : ℕ × EntryValue). x.0) is in
    let below = rises.0 in
    (omega arith, ap (λ b. cond b (Some e.1) (entry_at id es)) (eq-eqb id e.0 (sym number)) ∙ ap (λ (x : ℕ × EntryValue). Some x.1) is)
found_at n (e ∷ es) rises id entry (suc k) within is =
    let more = found_at (e.0 + 1) es rises.1 id entry k (omega arith) is in
    let below = rises.0 in
    let above = more.0 in
    (omega arith, ap (λ b. cond b (Some e.1) (entry_at id es)) (ne_eqb id e.0 (λ same. omega arith)) ∙ more.1)

abbrev picks_in : ℕ → Option EntryValue → List Pick
picks_in number o = option_map_or (λ entry. map (λ s. record { id = number; source = s.0 }) (sources entry)) o []

among_files : (state : State) (pick : Pick) → NumbersRise state → IsPickAmong state.entries pick → Contains (all_picks state) pick
among_files state pick rises among =
    let entry = among.0 in
    let found = found_at 1 state.entries rises pick.id entry among.1.0 among.1.1 among.1.2 in
    let has = source_among entry pick.source among.2 in
    let named : Contains (picks_in pick.id (Some entry)) pick = mapped (λ s. record { id = pick.id; source = s.0 }) (sources entry) (pick.source, has.0) has.1 in
    flat (λ e. picks_of state e.0) state.entries (pick.id, entry) pick among.1
    (subst (λ o. Contains (picks_in pick.id o) pick) (sym found.1) named)

-- ---- a pick is taken

taken : (settings : List Setting) (state : State) (cells : List CellValue) (cell : CellValue) (plan : List Pick) (pick : Pick)
    → Contains cells cell → answer (placed cell.target settings state) ≡ Plan plan → Contains plan pick
    → list_any (λ answer. takes answer pick) (answers_on settings state cells) ≡ true
taken settings state cells cell plan pick asked planned has =
    any_of (λ answer. takes answer pick) (answers_on settings state cells) (answer (placed cell.target settings state))
    (mapped (λ (c : CellValue). answer (placed c.target settings state)) cells cell asked)
    (ap (λ (a : Answer). takes a pick) planned ∙ any_of (λ one. is_same_pick one pick) plan pick has (same_pick pick))

-- each pick names an entry that stands, and that has its source
abbrev pub PicksStand : Type 0
PicksStand = (state : State) (plan : List Pick) → answer state ≡ Plan plan → All (IsPickAmong state.entries) plan

pub each_pick : PicksStand → (settings : List Setting) (state : State) (cells : List CellValue) (cell : CellValue) (plan : List Pick)
    → NumbersRise state → Contains cells cell → answer (placed cell.target settings state) ≡ Plan plan
    → All (Contains (files_on settings state cells)) plan
each_pick stand settings state cells cell plan rises asked planned =
    let among = stand (placed cell.target settings state) plan planned in
    All-weaker (Contains plan) (Contains (files_on settings state cells))
    (λ pick has. filtered (λ p. list_any (λ answer. takes answer p) (answers_on settings state cells)) (all_picks state) pick
    (among_files state pick rises (All-contains (IsPickAmong state.entries) plan pick among has))
    (taken settings state cells cell plan pick asked planned has))
    plan (All-contains_itself plan)
