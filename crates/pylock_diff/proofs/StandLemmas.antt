-- Each pick of an answer stands for an entry and its source.
use Rattle.std.proofs.Common.{◌≡◌, ◌∙◌, ℕ, zero, suc, ◌+◌, ◌<◌, ◌≤◌, true, cond, List, [], ◌∷◌, All, length, get_or, is_some, map, None, Option, Some, option_map, slice_get, refl, sym, ap, arith, eq-eqb, ne_eqb, length-append}
use Rattle.std.proofs.lemmas.List.{length-map}
use Rattle.std.proofs.lemmas.List.Elements.{All-head, All-tail}
use Rattle.std.specs.Option.{option_map_or}
use Rattle.pylock_readers.specs.Entry.{EntryValue}
use Rattle.pylock_core.specs.Session.Picks.{HasSource, IsPickAmong, SourceValue, source_in}
use Rattle.pylock_core.specs.Session.State.{NumbersRise, Rises, State, entry_at}
use Rattle.pylock_core.specs.declared.answer.Pick.{Pick}
use Rattle.pylock_core.specs.declared.answer.PickSource.{PickSource}
use Rattle.pylock_core.specs.declared.answer.PickSource.TheVariants as source
use Rattle.pylock_diff.specs.Item.{picked_entries, picked_entry}
use Rattle.pylock_diff.specs.SamePlan.{numberless, pick_value}

-- an entry is found by its number
found_at : (n : ℕ) (es : List (ℕ × EntryValue)) → Rises n (map (λ e. e.0) es) → (id : ℕ) (entry : EntryValue) (k : ℕ) → k < length es → get_or es k (id, entry) ≡ (id, entry)
    → (n ≤ id) × (entry_at id es ≡ Some entry)
found_at n [] rises id entry k within is = absurd (omega arith)
found_at n (e ∷ es) rises id entry zero within is =
    let number : e.0 ≡ id = ap (λ (x : ℕ × EntryValue). x.0) is in
    let below = rises.0 in
    (omega arith, ap (λ b. cond b (Some e.1) (entry_at id es)) (eq-eqb id e.0 (sym number)) ∙ ap (λ (x : ℕ × EntryValue). Some x.1) is)
found_at n (e ∷ es) rises id entry (suc k) within is =
    let more = found_at (e.0 + 1) es rises.1 id entry k (omega arith) is in
    let below = rises.0 in
    let above = more.0 in
    (omega arith, ap (λ b. cond b (Some e.1) (entry_at id es)) (ne_eqb id e.0 (λ same. omega arith)) ∙ more.1)

some_at : {X : Type 0} (xs : List X) (k : ℕ) → k < length xs → is_some (slice_get xs k) ≡ true
some_at [] k within = absurd (omega arith)
some_at (x ∷ xs) zero within = refl
some_at (x ∷ xs) (suc k) within = some_at xs k (omega arith)

mapped : {X Y : Type 0} (f : X → Y) (o : Option X) → is_some o ≡ true → is_some (option_map f o) ≡ true
mapped f None some = some
mapped f (Some x) some = refl

source_stands : (name : PickSource) (entry : EntryValue) → HasSource name entry → is_some (source_in entry name) ≡ true
source_stands source.Vcs entry has = mapped _ entry.vcs has
source_stands source.Directory entry has = mapped _ entry.directory has
source_stands source.Archive entry has = mapped _ entry.archive has
source_stands (source.Wheel place) entry has = mapped _ (slice_get entry.wheels place) (some_at entry.wheels place has)
source_stands source.Sdist entry has = mapped _ entry.sdist has

abbrev with_source : EntryValue → Option SourceValue → List (EntryValue × SourceValue)
with_source entry o = option_map_or (λ source. (entry, source) ∷ []) o []

one_source : (entry : EntryValue) (o : Option SourceValue) → is_some o ≡ true → length (with_source entry o) ≡ 1
one_source entry None some = absurd cc
one_source entry (Some s) some = omega arith

one_pick : (state : State) (pick : Pick) → NumbersRise state → IsPickAmong state.entries pick → length (picked_entry state pick) ≡ 1
one_pick state pick rises among =
    let entry = among.0 in
    let found = found_at 1 state.entries rises pick.id entry among.1.0 among.1.1 among.1.2 in
    ap (λ (o : Option EntryValue). length (option_map_or (λ (e : EntryValue). with_source e (source_in e pick.source)) o [])) found.1
    ∙ one_source entry (source_in entry pick.source) (source_stands pick.source entry among.2)

all_picks : (state : State) (plan : List Pick) → NumbersRise state → All (IsPickAmong state.entries) plan → length (picked_entries state plan) ≡ length plan
all_picks state [] rises all = refl
all_picks state (pick ∷ plan) rises all =
    let one = one_pick state pick rises (All-head (IsPickAmong state.entries) pick plan all) in
    let more = all_picks state plan rises (All-tail (IsPickAmong state.entries) pick plan all) in
    let joined = length-append (picked_entry state pick) (picked_entries state plan) in
    omega arith

pub all_values : (state : State) (plan : List Pick) → NumbersRise state → All (IsPickAmong state.entries) plan → length (numberless state plan) ≡ length plan
all_values state plan rises all = length-map (picked_entries state plan) pick_value ∙ all_picks state plan rises all
