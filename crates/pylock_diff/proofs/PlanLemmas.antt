-- Nothing is told of two answers exactly where both are plans that pick the same.
use Rattle.std.proofs.Common.{◌≡◌, ◌∙◌, ◌++◌, ℕ, ◌+◌, ◌<◌, Bool, true, false, cond, codes, List, [], ◌∷◌, inl, inr, length, map, None, Option, Some, IsPermutation, refl, sym, ap, subst, arith, append-nil}
use Rattle.std.proofs.lemmas.Bool.{cases_Bool, false≢true}
use Rattle.std.proofs.lemmas.List.Sorted.{IsPermutation-map}
use Rattle.std.proofs.lemmas.Slice.Eq.{bytes_eq-Decides}
use Rattle.std.specs.Cmp.{tied_itself}
use Rattle.std.specs.Cmp.Lexicographic.{nat_list_cmp_total, slice_cmp}
use Rattle.std.specs.List.{filter}
use Rattle.std.specs.Option.{option_cmp}
use Rattle.std.specs.Ordering.{is_eq, nat_cmp, ordering_then}
use Rattle.std.specs.Str.{bytes_eq}
use Rattle.toml.specs.Data.{string, table}
use Rattle.pytoml_code.specs.Code.{code}
use Rattle.pylock_compare.proofs.KeyLemmas.{alike_equal}
use Rattle.pylock_compare.proofs.PartnerLemmas.{first_alone, none_alone}
use Rattle.pylock_compare.specs.Counts.{count}
use Rattle.pylock_compare.specs.Partners.{are_alone, where_true}
use Rattle.pylock_compare.specs.Rows.{Row, values_at}
use Rattle.pylock_compare.specs.Texts.{Texts, are_alike}
use Rattle.pylock_readers.specs.Entry.{EntryValue}
use Rattle.pylock_core.specs.Session.Picks.{SourceValue, OfVcs, OfDirectory, OfArchive, OfWheel, OfSdist, source_word}
use Rattle.pylock_core.specs.Session.State.{State}
use Rattle.pylock_core.specs.declared.answer.Answer.{Answer}
use Rattle.pylock_core.specs.declared.answer.Answer.TheVariants.{Plan, Fault}
use Rattle.pylock_core.specs.declared.answer.FaultCode.{FaultCode}
use Rattle.pylock_core.specs.declared.answer.Pick.{Pick}
use Rattle.pylock_diff.specs.Changes.{answer_changes, item_changes, name_changes, rest_changes, row_changes}
use Rattle.pylock_diff.specs.Codes.{Rows}
use Rattle.pylock_diff.specs.Item.{ItemValue, pick_items, picked_entries, picked_row}
use Rattle.pylock_diff.specs.Keys.{are_same_values, entry_key_changes, key_changes, placed_rows}
use Rattle.pylock_diff.specs.Partners.{item_key, row_texts, without_partners}
use Rattle.pylock_diff.specs.Picks.{pick_fields, source_members, source_row, version_row}
use Rattle.pylock_diff.specs.SamePlan.{PickTheSame, PickValue, numberless, pick_value}
use Rattle.pylock_shown.specs.Hidden.{hidden}
use Rattle.pylock_diff.proofs.CountLemmas.{counts_permute, permuted_count}
use Rattle.pylock_diff.proofs.Same.Lists.{at_append, back_none, front_none, none_under, under_none, untold}
use Rattle.pylock_diff.proofs.Same.Names.{name_same}
use Rattle.pylock_diff.proofs.Same.Places.{first_none, first_same, same_values}
use Rattle.pylock_diff.proofs.PickLemmas.{fields_exact, fields_row, row_seen}

abbrev pub Picked : Type 0
Picked = EntryValue × SourceValue

abbrev item_of : Picked → ItemValue
item_of pick = (picked_row pick).1

abbrev key_of : Picked → Texts
key_of pick = item_key (item_of pick)

-- a row by its name and its key
abbrev row_key : Row ItemValue → Texts
row_key row = Some row.0 ∷ item_key row.1

abbrev pub whole_key : Picked → Texts
whole_key pick = row_key (picked_row pick)

-- ---- keys of picks

rows_exact : (xs ys : Rows) → row_texts xs ≡ row_texts ys → xs ≡ ys
rows_exact [] [] same = refl
rows_exact [] (y ∷ ys) same = absurd cc
rows_exact (x ∷ xs) [] same = absurd cc
rows_exact (x ∷ xs) (y ∷ ys) same =
    let key : x.0 ≡ y.0 = cc in
    let value : x.1 ≡ y.1 = cc in
    let more : row_texts xs ≡ row_texts ys = cc in
    λ i. (key i, value i) ∷ rows_exact xs ys more i

pub value_exact : (p q : Picked) → whole_key p ≡ whole_key q → pick_value p ≡ pick_value q
value_exact p q same =
    let name : p.0.name ≡ q.0.name = cc in
    let texts : item_key (item_of p) ≡ item_key (item_of q) = cc in
    let fields = fields_exact p.0.version q.0.version p.1 q.1 (rows_exact (pick_fields p.0 p.1) (pick_fields q.0 q.1) texts) in
    λ i. record { name = name i; version = fields.0 i; source = fields.1 i }

-- the key as the fields make it
abbrev key_by : PickValue → Texts
key_by pick = Some pick.name ∷ row_texts (version_row pick.version ++ fields_row pick.source)

key_seen : (p : Picked) → whole_key p ≡ key_by (pick_value p)
key_seen p = ap (λ rows. Some p.0.name ∷ row_texts (version_row p.0.version ++ rows)) (row_seen p.1)

keys_seen : (ps : List Picked) → map whole_key ps ≡ map key_by (map pick_value ps)
keys_seen [] = refl
keys_seen (p ∷ ps) = λ i. key_seen p i ∷ keys_seen ps i

keys_of_rows : (ps : List Picked) → map row_key (map picked_row ps) ≡ map whole_key ps
keys_of_rows [] = refl
keys_of_rows (p ∷ ps) = ap (λ more. whole_key p ∷ more) (keys_of_rows ps)

-- ---- picks of a name

text_alike : (n : List ℕ) (rest key : Texts) → are_alike (Some n ∷ rest) (Some n ∷ key) ≡ are_alike rest key
text_alike n rest key = ap (λ o. is_eq (ordering_then o (slice_cmp (option_cmp (slice_cmp nat_cmp)) rest key))) (tied_itself nat_list_cmp_total n)

apart_alike : (name n : List ℕ) (rest key : Texts) → bytes_eq name n ≡ false → are_alike (Some name ∷ rest) (Some n ∷ key) ≡ false
apart_alike name n rest key apart = elim (cases_Bool (are_alike (Some name ∷ rest) (Some n ∷ key))) [
  | inl is ↦ (
      let lists = alike_equal (Some name ∷ rest) (Some n ∷ key) is in
      let same : name ≡ n = cc in
      absurd (false≢true (sym apart ∙ (bytes_eq-Decides name n).1 same)))
  | inr not ↦ not
]

count_at : (name : List ℕ) (rest : Texts) (rows : List (Row ItemValue)) → count (Some name ∷ rest) (map row_key rows) ≡ count rest (map item_key (values_at name rows))
count_at name rest [] = refl
count_at name rest (row ∷ rows) = elim (cases_Bool (bytes_eq name row.0)) [
  | inl is ↦ (λ i. cond (alike is i) 1 0 + count_at name rest rows i)
      ∙ sym (ap (λ b. count rest (map item_key (map (λ (r : Row ItemValue). r.1) (cond b (row ∷ filter (λ r. bytes_eq name r.0) rows) (filter (λ r. bytes_eq name r.0) rows))))) is)
  | inr other ↦ (λ i. cond (apart_alike name row.0 rest (item_key row.1) other i) 1 0 + count_at name rest rows i)
      ∙ (let none : 0 + count rest (map item_key (values_at name rows)) ≡ count rest (map item_key (values_at name rows)) = omega arith in none)
      ∙ sym (ap (λ b. count rest (map item_key (map (λ (r : Row ItemValue). r.1) (cond b (row ∷ filter (λ r. bytes_eq name r.0) rows) (filter (λ r. bytes_eq name r.0) rows))))) other)
]
  where
    alike : bytes_eq name row.0 ≡ true → are_alike (Some name ∷ rest) (row_key row) ≡ are_alike rest (item_key row.1)
    alike is = ap (λ n. are_alike (Some n ∷ rest) (row_key row)) ((bytes_eq-Decides name row.0).0 is) ∙ text_alike row.0 rest (item_key row.1)

-- no row has such a key
count_none : (rest : Texts) (rows : List (Row ItemValue)) → count (None ∷ rest) (map row_key rows) ≡ 0
count_none rest [] = refl
count_none rest (row ∷ rows) = let more = count_none rest rows in omega arith

count_empty : (rows : List (Row ItemValue)) → count [] (map row_key rows) ≡ 0
count_empty [] = refl
count_empty (row ∷ rows) = let more = count_empty rows in omega arith

-- where each key stands as often under each name, it does among all rows
whole_counts : (olds news : List (Row ItemValue)) → ((name : List ℕ) (k : Texts) → count k (map item_key (values_at name olds)) ≡ count k (map item_key (values_at name news)))
    → (k : Texts) → count k (map row_key olds) ≡ count k (map row_key news)
whole_counts olds news same [] = count_empty olds ∙ sym (count_empty news)
whole_counts olds news same (None ∷ rest) = count_none rest olds ∙ sym (count_none rest news)
whole_counts olds news same (Some name ∷ rest) = count_at name rest olds ∙ same name rest ∙ sym (count_at name rest news)

-- ---- one name: what is told of its picks

picks_by : (name : List ℕ) (b : Bool) (p : Picked) (rows : List (Row ItemValue)) (ps : List Picked) → map (λ (r : Row ItemValue). r.1) rows ≡ map item_of ps
    → map (λ (r : Row ItemValue). r.1) (cond b (picked_row p ∷ rows) rows) ≡ map item_of (cond b (p ∷ ps) ps)
picks_by name true p rows ps same = ap (λ more. item_of p ∷ more) same
picks_by name false p rows ps same = same

abbrev named : List ℕ → List Picked → List Picked
named name ps = filter (λ p. bytes_eq name p.0.name) ps

values_named : (name : List ℕ) (ps : List Picked) → values_at name (map picked_row ps) ≡ map item_of (named name ps)
values_named name [] = refl
values_named name (p ∷ ps) = picks_by name (bytes_eq name p.0.name) p (filter (λ r. bytes_eq name r.0) (map picked_row ps)) (named name ps) (values_named name ps)

keys_of_items : (ps : List Picked) → map item_key (map item_of ps) ≡ map key_of ps
keys_of_items [] = refl
keys_of_items (p ∷ ps) = ap (λ more. key_of p ∷ more) (keys_of_items ps)

true_by : (b : Bool) (p : Picked) (items : List ItemValue) (ps : List Picked) → items ≡ map item_of ps → cond b (item_of p ∷ items) items ≡ map item_of (cond b (p ∷ ps) ps)
true_by true p items ps same = ap (λ more. item_of p ∷ more) same
true_by false p items ps same = same

true_items : (flags : List Bool) (ps : List Picked) → where_true flags (map item_of ps) ≡ map item_of (where_true flags ps)
true_items [] ps = refl
true_items (b ∷ flags) [] = refl
true_items (b ∷ flags) (p ∷ ps) = true_by b p (where_true flags (map item_of ps)) (where_true flags ps) (true_items flags ps)

abbrev alone : (ps qs : List Picked) → List Picked
alone ps qs = where_true (are_alone (map key_of ps) (map key_of qs)) ps

alone_seen : (ps qs : List Picked) → without_partners (map item_of ps) (map item_of qs) ≡ map item_of (alone ps qs)
alone_seen ps qs = (λ i. where_true (are_alone (keys_of_items ps i) (keys_of_items qs i)) (map item_of ps)) ∙ true_items _ ps

-- ---- the keys of a pick

by_word : (P : List ℕ → Type 0) → P (codes "vcs") → P (codes "directory") → P (codes "editable") → P (codes "archive") → P (codes "wheel") → P (codes "sdist")
    → (s : SourceValue) → P (source_word s)
by_word P vcs directory editable archive wheel sdist (OfVcs value) = vcs
by_word P vcs directory editable archive wheel sdist (OfDirectory value) = elim value.editable as (λ b. P (cond b (codes "editable") (codes "directory"))) [ true ↦ editable | false ↦ directory ]
by_word P vcs directory editable archive wheel sdist (OfArchive value) = archive
by_word P vcs directory editable archive wheel sdist (OfWheel value) = wheel
by_word P vcs directory editable archive wheel sdist (OfSdist value) = sdist

no_version : (s : SourceValue) → bytes_eq (source_word s) (codes "version") ≡ false
no_version = by_word (λ word. bytes_eq word (codes "version") ≡ false) refl refl refl refl refl refl

version_not : (s : SourceValue) → bytes_eq (codes "version") (source_word s) ≡ false
version_not = by_word (λ word. bytes_eq (codes "version") word ≡ false) refl refl refl refl refl refl

abbrev source_code : SourceValue → List ℕ
source_code s = code (table (source_members s))

none_at_kind : (key : List ℕ) (v : Option (List ℕ)) → bytes_eq key (codes "version") ≡ false → values_at key (version_row v) ≡ []
none_at_kind key None apart = refl
none_at_kind key (Some t) apart = ap (λ b. map (λ (r : Row (List ℕ)). r.1) (cond b ((codes "version", code (string t)) ∷ []) [])) apart

-- what a pick has at a key that is no version
at_kind : (s : SourceValue) (p : Picked) → values_at (source_word s) (pick_fields p.0 p.1) ≡ map (λ (r : Row (List ℕ)). r.1) (cond (bytes_eq (source_word s) (source_word p.1)) (source_row p.1) [])
at_kind s p =
    at_append (source_word s) (version_row p.0.version) (source_row p.1)
    ∙ ap (λ front. front ++ values_at (source_word s) (source_row p.1)) (none_at_kind (source_word s) p.0.version (no_version s))

at_own : (p : Picked) → values_at (source_word p.1) (pick_fields p.0 p.1) ≡ source_code p.1 ∷ []
at_own p = at_kind p.1 p ∙ ap (λ b. map (λ (r : Row (List ℕ)). r.1) (cond b (source_row p.1) [])) ((bytes_eq-Decides (source_word p.1) (source_word p.1)).1 refl)

at_version : (p : Picked) → values_at (codes "version") (pick_fields p.0 p.1) ≡ values_at (codes "version") (version_row p.0.version)
at_version p =
    at_append (codes "version") (version_row p.0.version) (source_row p.1)
    ∙ ap (λ b. values_at (codes "version") (version_row p.0.version) ++ map (λ (r : Row (List ℕ)). r.1) (cond b (source_row p.1) [])) (version_not p.1)
    ∙ append-nil (values_at (codes "version") (version_row p.0.version))

version_same : (v w : Option (List ℕ)) → values_at (codes "version") (version_row v) ≡ values_at (codes "version") (version_row w) → version_row v ≡ version_row w
version_same None None same = refl
version_same None (Some w) same = absurd cc
version_same (Some v) None same = absurd cc
version_same (Some v) (Some w) same = let text : code (string v) ≡ code (string w) = cc in ap (λ c. (codes "version", c) ∷ []) text

source_same : (s t : SourceValue) → source_code s ∷ [] ≡ map (λ (r : Row (List ℕ)). r.1) (cond (bytes_eq (source_word s) (source_word t)) (source_row t) []) → source_row s ≡ source_row t
source_same s t same = elim (cases_Bool (bytes_eq (source_word s) (source_word t))) [
  | inl is ↦ (
      let value = same ∙ ap (λ b. map (λ (r : Row (List ℕ)). r.1) (cond b (source_row t) [])) is in
      let one : source_code s ≡ source_code t = cc in
      λ i. ((bytes_eq-Decides (source_word s) (source_word t)).0 is i, one i) ∷ [])
  | inr not ↦ (
      let value = same ∙ ap (λ b. map (λ (r : Row (List ℕ)). r.1) (cond b (source_row t) [])) not in
      absurd cc)
]

-- picks that have the same at each key
same_fields : (p q : Picked) → ((key : List ℕ) → values_at key (pick_fields p.0 p.1) ≡ values_at key (pick_fields q.0 q.1)) → pick_fields p.0 p.1 ≡ pick_fields q.0 q.1
same_fields p q same =
    let version = version_same p.0.version q.0.version (sym (at_version p) ∙ same (codes "version") ∙ at_version q) in
    let source = source_same p.1 q.1 (sym (at_own p) ∙ same (source_word p.1) ∙ at_kind p.1 q) in
    λ i. version i ++ source i

-- ---- where nothing is told

-- the same values at each key, in the same entries
all_same : (name : List ℕ) (os ns : List ItemValue) → rest_changes name os ns ≡ [] → (key : List ℕ)
    → values_at key (placed_rows false 0 os) ≡ values_at key (placed_rows false 0 ns)
all_same name os ns none key =
    let nothing = front_none (row_changes name os ns) (entry_key_changes name (row_changes name os ns) os ns) none in
    let rest = back_none (row_changes name os ns) (entry_key_changes name (row_changes name os ns) os ns) none in
    let unsaid : entry_key_changes name [] os ns ≡ [] = ap (λ told. entry_key_changes name told os ns) (sym nothing) ∙ rest in
    let here = under_none (key_changes name []) (λ key. refl) (placed_rows false 0 os) (placed_rows false 0 ns) unsaid key in
    same_values _ _ (untold (are_same_values (values_at key (placed_rows false 0 os)) (values_at key (placed_rows false 0 ns))) _ here)

-- an entry has something at its kind
something : (q : Picked) (qs : List Picked) → ((key : List ℕ) → [] ≡ values_at key (placed_rows false 0 (map item_of (q ∷ qs)))) → ⊥
something q qs same =
    let none : values_at (source_word q.1) (pick_fields q.0 q.1) ≡ [] = first_none false (item_of q) (map item_of qs) (source_word q.1) (sym (same (source_word q.1))) in
    let some : source_code q.1 ∷ [] ≡ [] = sym (at_own q) ∙ none in
    absurd cc

-- the first that are left have the same key
no_lone_picks : (ps qs ls rs : List Picked) → alone ps qs ≡ ls → alone qs ps ≡ rs
    → ((key : List ℕ) → values_at key (placed_rows false 0 (map item_of ls)) ≡ values_at key (placed_rows false 0 (map item_of rs)))
    → (ls ≡ []) × (rs ≡ [])
no_lone_picks ps qs [] [] left right same = (refl, refl)
no_lone_picks ps qs [] (b ∷ rs) left right same = absurd (something b rs same)
no_lone_picks ps qs (a ∷ ls) [] left right same = absurd (something a ls (λ key. sym (same key)))
no_lone_picks ps qs (a ∷ ls) (b ∷ rs) left right same =
    let fields = same_fields a b (λ key. first_same false (item_of a) (item_of b) (map item_of ls) (map item_of rs) key (same key)) in
    let key : key_of a ≡ key_of b = ap row_texts fields in
    let one = first_alone key_of ps (map key_of qs) a ls left in
    let two = first_alone key_of qs (map key_of ps) b rs right in
    let turned : count (key_of a) (map key_of ps) < count (key_of a) (map key_of qs) = subst (λ k. count k (map key_of ps) < count k (map key_of qs)) (sym key) two in
    absurd (omega arith)

named_counts : (name : List ℕ) (ps qs : List Picked) → name_changes name (map item_of ps) (map item_of qs) ≡ [] → (k : Texts) → count k (map key_of ps) ≡ count k (map key_of qs)
named_counts name [] [] none k = refl
named_counts name [] (q ∷ qs) none k = absurd cc
named_counts name (p ∷ ps) [] none k = absurd cc
named_counts name (p ∷ ps) (q ∷ qs) none k =
    let olds = p ∷ ps in
    let news = q ∷ qs in
    let rest : rest_changes (hidden name) (map item_of (alone olds news)) (map item_of (alone news olds)) ≡ [] =
    sym (λ i. rest_changes (hidden name) (alone_seen olds news i) (alone_seen news olds i)) ∙ none in
    let nones = no_lone_picks olds news (alone olds news) (alone news olds) refl refl (all_same (hidden name) (map item_of (alone olds news)) (map item_of (alone news olds)) rest) in
    let few = none_alone key_of olds (map key_of news) nones.0 k in
    let more = none_alone key_of news (map key_of olds) nones.1 k in
    omega arith

picks_counts : (ps qs : List Picked) → item_changes (map picked_row ps) (map picked_row qs) ≡ [] → (k : Texts) → count k (map whole_key ps) ≡ count k (map whole_key qs)
picks_counts ps qs none k =
    ap (count k) (sym (keys_of_rows ps))
    ∙ whole_counts (map picked_row ps) (map picked_row qs) (λ name k.
    seen name ps k
    ∙ named_counts name (named name ps) (named name qs)
    (sym (λ i. name_changes name (values_named name ps i) (values_named name qs i)) ∙ under_none name_changes (λ name. refl) (map picked_row ps) (map picked_row qs) none name) k
    ∙ sym (seen name qs k)) k
    ∙ ap (count k) (keys_of_rows qs)
  where
    seen : (name : List ℕ) (ps : List Picked) (k : Texts) → count k (map item_key (values_at name (map picked_row ps))) ≡ count k (map key_of (named name ps))
    seen name ps k = ap (λ items. count k (map item_key items)) (values_named name ps) ∙ ap (count k) (keys_of_items (named name ps))

-- ---- where the picks are the same

items_none : (olds news : List (Row ItemValue)) → ((k : Texts) → count k (map row_key olds) ≡ count k (map row_key news)) → item_changes olds news ≡ []
items_none olds news same =
    none_under name_changes olds news
    (λ name. name_same name (values_at name olds) (values_at name news) (λ k. sym (count_at name k olds) ∙ same (Some name ∷ k) ∙ count_at name k news))

-- ---- two plans

plans_told : (old new : State) (olds news : List Pick) → item_changes (pick_items old olds) (pick_items new news) ≡ [] → IsPermutation (numberless old olds) (numberless new news)
plans_told old new olds news none =
    let ps = picked_entries old olds in
    let qs = picked_entries new news in
    counts_permute whole_key pick_value value_exact ps qs (picks_counts ps qs none)

plans_same : (old new : State) (olds news : List Pick) → IsPermutation (numberless old olds) (numberless new news) → item_changes (pick_items old olds) (pick_items new news) ≡ []
plans_same old new olds news same =
    let ps = picked_entries old olds in
    let qs = picked_entries new news in
    let keys = IsPermutation-map key_by (map pick_value ps) (map pick_value qs) same in
    items_none (map picked_row ps) (map picked_row qs) (λ k.
    ap (count k) (keys_of_rows ps ∙ keys_seen ps) ∙ permuted_count k (map key_by (map pick_value ps)) (map key_by (map pick_value qs)) keys ∙ sym (ap (count k) (keys_of_rows qs ∙ keys_seen qs)))

-- ---- two answers

pub answers_told : (old new : State) (before after : Answer) → answer_changes old new before after ≡ [] → PickTheSame old new before after
answers_told old new (Plan olds) (Plan news) none = plans_told old new olds news none
answers_told old new (Plan olds) (Fault number code) none = absurd cc
answers_told old new (Fault number code) after none = absurd cc

pub answers_same : (old new : State) (before after : Answer) → PickTheSame old new before after → answer_changes old new before after ≡ []
answers_same old new (Plan olds) (Plan news) same = plans_same old new olds news same
answers_same old new (Plan olds) (Fault number code) same = absurd same
answers_same old new (Fault number code) after same = absurd same

pub old_fault : (old new : State) (number : ℕ) (code : FaultCode) (after : Answer) → length (answer_changes old new (Fault number code) after) ≡ 1
old_fault old new number code after = omega arith

pub new_fault : (old new : State) (before : Answer) (number : ℕ) (code : FaultCode) → length (answer_changes old new before (Fault number code)) ≡ 1
new_fault old new (Plan olds) number code = omega arith
new_fault old new (Fault other why) number code = omega arith

pub ruleset faults_alone = (old_fault, new_fault)
