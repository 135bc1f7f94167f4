-- What came from OLD to NEW went from NEW to OLD.
use Rattle.std.proofs.Common.{◌≡◌, ◌∙◌, ◌++◌, ◌&&◌, ℕ, Bool, true, false, codes, cond, not, List, [], ◌∷◌, map, Option, Some, option_map, refl, sym, ap}
use Rattle.std.proofs.lemmas.List.{map-append}
use Rattle.std.specs.List.{filter, flat_map}
use Rattle.pylock_core.specs.Session.Picks.{SourceValue, source_hashes}
use Rattle.pylock_core.specs.Session.State.{State}
use Rattle.pylock_core.specs.declared.answer.Answer.{Answer}
use Rattle.pylock_core.specs.declared.answer.Answer.TheVariants.{Plan, Fault}
use Rattle.pylock_compare.proofs.OrderLemmas.{in_order-swap}
use Rattle.pylock_compare.specs.Rows.{Row, in_order, names_of, under_each, values_at}
use Rattle.pylock_compare.specs.Texts.{are_alike}
use Rattle.pylock_diff.specs.Change.{ChangeValue, change_of, comes_or_goes, coming_and_going, if_both, shown_texts, told_where, turned}
use Rattle.pylock_diff.specs.Changes.{answer_changes, item_changes, lock_changes, name_changes, row_changes, shared_changes}
use Rattle.pylock_diff.specs.Compared.{ComparedValue}
use Rattle.pylock_diff.specs.Conditions.{are_same, condition_changes, conditions}
use Rattle.pylock_diff.specs.Files.{files_of, hash_changes, parts_of, place_changes, places_text, places_told}
use Rattle.pylock_diff.specs.Hashes.{are_same_sets, hash_text, hashes_told, label_of, value_changes}
use Rattle.pylock_diff.specs.Head.{HeadKey, first, have_same_value, head_changes, head_rows, is_list_key, key_change, keys_changes, list_keys}
use Rattle.pylock_diff.specs.Item.{ItemValue, entry_items, pick_items}
use Rattle.pylock_diff.specs.Keys.{changes_by, entry_key_changes, is_told, are_same_values, key_changes, placed_rows, source_key_changes}
use Rattle.pylock_diff.specs.Partners.{without_partners}
use Rattle.pylock_diff.specs.Sources.{file_change, file_changes, lone_sources}
use Rattle.pylock_diff.specs.Versions.{version_changes, version_keys, versions_text}
use Rattle.pylock_diff.specs.declared.change.ChangeKind.TheVariants.{Condition, Hash, Head, Place, Version}
use Rattle.pylock_shown.specs.Hidden.{hidden}
use Rattle.pylock_diff.proofs.Same.Lists.{nothing}

taken : (b : Bool) (c : ChangeValue) (cs ds : List ChangeValue) → cond b (c ∷ cs ++ ds) (cs ++ ds) ≡ cond b (c ∷ cs) cs ++ ds
taken true c cs ds = refl
taken false c cs ds = refl

of_joined : (cs ds : List ChangeValue) → coming_and_going (cs ++ ds) ≡ coming_and_going cs ++ coming_and_going ds
of_joined [] ds = refl
of_joined (c ∷ cs) ds =
    ap (λ rest. cond (comes_or_goes c.kind) (c ∷ rest) rest) (of_joined cs ds)
    ∙ taken (comes_or_goes c.kind) c (coming_and_going cs) (coming_and_going ds)

of_each : {X : Type 0} (f : X → List ChangeValue) (xs : List X) → coming_and_going (flat_map f xs) ≡ flat_map (λ x. coming_and_going (f x)) xs
of_each f [] = refl
of_each f (x ∷ xs) = of_joined (f x) (flat_map f xs) ∙ ap (λ rest. coming_and_going (f x) ++ rest) (of_each f xs)

-- ---- what tells of nothing that came or went

abbrev Silent : List ChangeValue → Type 0
Silent changes = coming_and_going changes ≡ []

where_silent : (b : Bool) (c : ChangeValue) → comes_or_goes c.kind ≡ false → Silent (told_where b c)
where_silent true c is = ap (λ b. cond b (c ∷ []) []) is
where_silent false c is = refl

joined_silent : (cs ds : List ChangeValue) → Silent cs → Silent ds → Silent (cs ++ ds)
joined_silent cs ds one other = of_joined cs ds ∙ (λ i. one i ++ other i)

each_silent : {X : Type 0} (f : X → List ChangeValue) → ((x : X) → Silent (f x)) → (xs : List X) → Silent (flat_map f xs)
each_silent f silent xs = of_each f xs ∙ nothing (λ x. coming_and_going (f x)) silent xs

under_silent : {V : Type 0} (told : List ℕ → List V → List V → List ChangeValue) → ((name : List ℕ) (olds news : List V) → Silent (told name olds news))
    → (olds news : List (Row V)) → Silent (under_each told olds news)
under_silent told silent olds news =
    each_silent (λ name. told name (values_at name olds) (values_at name news)) (λ name. silent name _ _) (in_order (names_of olds ++ names_of news))

map_silent : {X : Type 0} (f : X → ChangeValue) → ((x : X) → comes_or_goes (f x).kind ≡ false) → (xs : List X) → Silent (map f xs)
map_silent f silent [] = refl
map_silent f silent (x ∷ xs) = ap (λ b. cond b (f x ∷ coming_and_going (map f xs)) (coming_and_going (map f xs))) (silent x) ∙ map_silent f silent xs

both_silent : {V : Type 0} (told : List V → List V → List ChangeValue) → ((olds news : List V) → Silent (told olds news)) → (olds news : List V) → Silent (if_both told olds news)
both_silent told silent [] news = refl
both_silent told silent (old ∷ olds) [] = refl
both_silent told silent (old ∷ olds) (new ∷ news) = silent (old ∷ olds) (new ∷ news)

told_silent : (name : List ℕ) (olds news : List (Row SourceValue)) → Silent (under_each (λ file. hashes_told name) olds news)
told_silent name = under_silent (λ file. hashes_told name) (λ file.
    both_silent (λ olds news. under_each (value_changes name (label_of olds) (label_of news)) (flat_map source_hashes olds) (flat_map source_hashes news)) (λ olds news.
    under_silent (value_changes name (label_of olds) (label_of news)) (λ algorithm os ns.
    where_silent (not (are_same_sets os ns)) (change_of Hash name (Some (hash_text (label_of olds) algorithm (in_order os))) (Some (hash_text (label_of news) algorithm (in_order ns)))) refl)
    (flat_map source_hashes olds) (flat_map source_hashes news)))

hash_silent : (name : List ℕ) (olds news : List ItemValue) → Silent (hash_changes name olds news)
hash_silent name olds news =
    joined_silent (under_each (λ file. hashes_told name) (files_of false olds) (files_of false news))
    (under_each (λ place. hashes_told name) (files_of true olds) (files_of true news))
    (told_silent name (files_of false olds) (files_of false news)) (told_silent name (files_of true olds) (files_of true news))

file_silent : (name : List ℕ) (olds news : List ItemValue) → Silent (file_changes name olds news)
file_silent name olds news =
    joined_silent (map (file_change name true) (lone_sources olds news)) (map (file_change name false) (lone_sources news olds))
    (map_silent (file_change name true) (λ source. refl) (lone_sources olds news)) (map_silent (file_change name false) (λ source. refl) (lone_sources news olds))

place_silent : (name : List ℕ) (olds news : List ItemValue) → Silent (place_changes name olds news)
place_silent name olds news =
    under_silent (λ file. places_told name) (λ file. both_silent (λ (os ns : List SourceValue).
    told_where (not (are_same_sets (parts_of true os) (parts_of true ns) && are_same_sets (parts_of false os) (parts_of false ns)))
    (change_of Place name (Some (places_text os)) (Some (places_text ns)))) (λ os ns.
    where_silent (not (are_same_sets (parts_of true os) (parts_of true ns) && are_same_sets (parts_of false os) (parts_of false ns)))
    (change_of Place name (Some (places_text os)) (Some (places_text ns))) refl)) (files_of false olds) (files_of false news)

version_silent : (name : List ℕ) (olds news : List ItemValue) → Silent (version_changes name olds news)
version_silent name olds news =
    where_silent (not (are_alike (version_keys olds) (version_keys news))) (change_of Version name (versions_text olds) (versions_text news)) refl

condition_silent : (name : List ℕ) (olds news : List ItemValue) → Silent (condition_changes name olds news)
condition_silent name olds news =
    where_silent (not (are_same (conditions olds) (conditions news)))
    (change_of Condition name (shown_texts (codes " | ") (conditions olds)) (shown_texts (codes " | ") (conditions news))) refl

keys_silent : (of_sources : Bool) (name : List ℕ) (told : List ChangeValue) (olds news : List ItemValue) → Silent (changes_by of_sources name told olds news)
keys_silent of_sources name told olds news =
    under_silent (key_changes name told) (λ key os ns. where_silent (not (is_told told key) && not (are_same_values os ns)) _ refl)
    (placed_rows of_sources 0 olds) (placed_rows of_sources 0 news)

row_silent : (name : List ℕ) (olds news : List ItemValue) → Silent (row_changes name olds news)
row_silent name olds news =
    let v = version_changes name olds news in
    let h = hash_changes name olds news in
    let f = file_changes name olds news in
    let p = place_changes name olds news in
    let o = condition_changes name olds news in
    let k = source_key_changes name olds news in
    joined_silent (v ++ h ++ f ++ p ++ o) k
    (joined_silent (v ++ h ++ f ++ p) o
    (joined_silent (v ++ h ++ f) p
    (joined_silent (v ++ h) f
    (joined_silent v h (version_silent name olds news) (hash_silent name olds news))
    (file_silent name olds news))
    (place_silent name olds news))
    (condition_silent name olds news))
    (keys_silent true name [] olds news)

shared_silent : (name : List ℕ) (olds news : List ItemValue) → Silent (shared_changes name olds news)
shared_silent name olds news =
    let os = without_partners olds news in
    let ns = without_partners news olds in
    joined_silent (row_changes name os ns) (entry_key_changes name (row_changes name os ns) os ns)
    (row_silent name os ns) (keys_silent false name (row_changes name os ns) os ns)

value_silent : (key : List ℕ) (old new : Option HeadKey) → Silent (key_change key old new)
value_silent key old new =
    where_silent (not (have_same_value old new)) (change_of Head (hidden key) (option_map (λ (k : HeadKey). k.text) old) (option_map (λ (k : HeadKey). k.text) new)) refl

keys_of_head_silent : (olds news : List (Row HeadKey)) (keys : List (List ℕ)) → Silent (keys_changes olds news keys)
keys_of_head_silent olds news keys =
    each_silent (λ key. key_change key (first (values_at key olds)) (first (values_at key news)))
    (λ key. value_silent key (first (values_at key olds)) (first (values_at key news))) keys

head_silent : (old new : List HeadKey) → Silent (head_changes old new)
head_silent old new =
    let olds = head_rows old in
    let news = head_rows new in
    let others = filter (λ key. not (is_list_key key)) (in_order (names_of olds ++ names_of news)) in
    joined_silent (keys_changes olds news list_keys) (keys_changes olds news others) (keys_of_head_silent olds news list_keys) (keys_of_head_silent olds news others)

-- ---- what tells of it

name_turned : (name : List ℕ) (olds news : List ItemValue) → coming_and_going (name_changes name news olds) ≡ map turned (coming_and_going (name_changes name olds news))
name_turned name [] [] = refl
name_turned name [] (new ∷ news) = refl
name_turned name (old ∷ olds) [] = refl
name_turned name (old ∷ olds) (new ∷ news) =
    shared_silent (hidden name) (new ∷ news) (old ∷ olds) ∙ ap (map turned) (sym (shared_silent (hidden name) (old ∷ olds) (new ∷ news)))

map_each : {X Y Z : Type 0} (g : Y → Z) (f : X → List Y) (xs : List X) → flat_map (λ x. map g (f x)) xs ≡ map g (flat_map f xs)
map_each g f [] = refl
map_each g f (x ∷ xs) = ap (λ rest. map g (f x) ++ rest) (map_each g f xs) ∙ sym (map-append g (f x) (flat_map f xs))

items_turned : (olds news : List (Row ItemValue)) → coming_and_going (item_changes news olds) ≡ map turned (coming_and_going (item_changes olds news))
items_turned olds news =
    of_each (λ name. name_changes name (values_at name news) (values_at name olds)) (in_order (names_of news ++ names_of olds))
    ∙ (λ i. flat_map (λ name. name_turned name (values_at name olds) (values_at name news) i) (in_order-swap (names_of news) (names_of olds) i))
    ∙ map_each turned (λ name. coming_and_going (name_changes name (values_at name olds) (values_at name news))) (in_order (names_of olds ++ names_of news))
    ∙ ap (map turned) (sym (of_each (λ name. name_changes name (values_at name olds) (values_at name news)) (in_order (names_of olds ++ names_of news))))

pub lock_turned : (old new : ComparedValue) → coming_and_going (lock_changes new old) ≡ map turned (coming_and_going (lock_changes old new))
lock_turned old new =
    let olds = entry_items old.lock.entries old.entries in
    let news = entry_items new.lock.entries new.entries in
    of_joined (head_changes new.head old.head) (item_changes news olds)
    ∙ ap (λ rest. rest ++ coming_and_going (item_changes news olds)) (head_silent new.head old.head)
    ∙ items_turned olds news
    ∙ ap (map turned) (ap (λ rest. rest ++ coming_and_going (item_changes olds news)) (sym (head_silent old.head new.head)) ∙ sym (of_joined (head_changes old.head new.head) (item_changes olds news)))

pub answer_turned : (old new : State) (before after : Answer) → coming_and_going (answer_changes new old after before) ≡ map turned (coming_and_going (answer_changes old new before after))
answer_turned old new (Plan olds) (Plan news) = items_turned (pick_items old olds) (pick_items new news)
answer_turned old new (Plan olds) (Fault number code) = refl
answer_turned old new (Fault number code) (Plan news) = refl
answer_turned old new (Fault number code) (Fault other why) = refl
