-- The levels of a draft beside the rings that they stand for.
use Rattle.std.proofs.Common.{◌≡◌, ℕ, ◌+◌, ◌-◌, ◌<◌, List, [], ◌∷◌, ◌++◌, map, take, drop, length, get_or, Vec, String, Global, Option, Some, None, option_map, string_bytes, refl, sym, ap, ap₂, subst, ◌∙◌, arith, append-nil}
use Rattle.std.specs.Prelude.{⊤, Result, Ok, Err, OnOk, vec_len}
use Rattle.std.proofs.lemmas.List.{map-append, take-append-drop, length-map, take_all, length-append, take_at, take_more, drop_more, get_or-map}
use Rattle.toml_parser.specs.Reading.{path_view}
use Rattle.toml.specs.Data.{Data, Items, Members, table, array, get_member, push_item}
use Rattle.toml.specs.Tables.{Node, Nodes, no_nodes, open_table, open_array, implicit, insert, get_node, close, close_node, Edit, along_header, at_key, Definition, new_node, std_table, array_table, key_value, value, put, Document, define}
use Rattle.toml.specs.View.{array_view, table_view}
use Rattle.toml.specs.declared.value.Value.{Value}
use Rattle.toml.proofs.NodeLaws.{along_missing, get_node-insert, replace-insert}
use Rattle.toml.proofs.Turns.{at_key_new, at_key_ok}
use Rattle.pytoml.specs.Members.{with_member}
use Rattle.pytoml.specs.Draft.{Opened, in_table, in_array, wrapped, Ring, plug, path_of, IsDraft, Stands, IsKind, IsLevel, AreLevels, Closes, IsClosed, key_of}
use Rattle.pytoml.specs.declared.draft.Draft.{Draft}
use Rattle.pytoml.specs.declared.draft.Kind.{Kind}
use Rattle.pytoml.specs.declared.draft.Kind.TheVariants.{Table, Element}
use Rattle.pytoml.specs.declared.draft.Level.{Level}
use Rattle.pytoml.specs.declared.fault.Unread.{Unread}
use Rattle.pytoml.proofs.Tables.{put-new}
use Rattle.pytoml.proofs.Rings.{close-insert, plug-append, along-plug}

-- an element of an array of tables is open behind those that the level has
pub is_element : (k : Kind) (o : Opened) (done : Vec Value Global) → k ≡ Element done → IsKind k o → o ≡ in_array (array_view done)
is_element k (in_table origin) done e h = absurd (subst (λ x. IsKind x (in_table origin)) e h)
is_element k (in_array items) done e h = ap in_array (subst (λ x. IsKind x (in_array items)) e h)

-- what an open table is once it is put away
pub closed_node : (k : Kind) (o : Opened) (inner : Nodes) (ms : Members) (d : Data) → IsKind k o → close inner ≡ ms → Closes k ms d → d ≡ close_node (wrapped o inner)
closed_node Table (in_table origin) inner ms d kind same closes = closes ∙ ap table (sym same)
closed_node Table (in_array items) inner ms d kind same closes = absurd kind
closed_node (Element done) (in_table origin) inner ms d kind same closes = absurd kind
closed_node (Element done) (in_array items) inner ms d kind same closes =
    closes ∙ ap₂ (λ a b. array (push_item a (table b))) (sym kind) (sym same)

-- one level more, and one less
pub AreLevels-push : (ls : List Level) (rs : List Ring) (l : Level) (r : Ring) → AreLevels ls rs → IsLevel l r → AreLevels (ls ++ l ∷ []) (rs ++ r ∷ [])
AreLevels-push [] [] l r all one = (one, tt)
AreLevels-push [] (s ∷ rs) l r all one = absurd all
AreLevels-push (m ∷ ls) [] l r all one = absurd all
AreLevels-push (m ∷ ls) (s ∷ rs) l r all one = (all.0, AreLevels-push ls rs l r all.1 one)

pub AreLevels-pop : (ls : List Level) (l : Level) (rs : List Ring) → AreLevels (ls ++ l ∷ []) rs
    → (front : List Ring) × (r : Ring) × (rs ≡ front ++ r ∷ []) × AreLevels ls front × IsLevel l r
AreLevels-pop [] l [] all = absurd all
AreLevels-pop [] l (r ∷ []) all = ([], r, refl, tt, all.0)
AreLevels-pop [] l (r ∷ s ∷ rs) all = absurd (all.1)
AreLevels-pop (m ∷ ls) l [] all = absurd all
AreLevels-pop (m ∷ ls) l (s ∷ rs) all =
    let (front, r, same, levels, level) = AreLevels-pop ls l rs all.1 in
    (s ∷ front, r, ap (λ t. s ∷ t) same, (all.0, levels), level)

-- the keys of the levels are the path of the rings
pub keys_are_path : (ls : List Level) (rs : List Ring) → AreLevels ls rs → map key_of ls ≡ path_of rs
keys_are_path [] [] all = refl
keys_are_path [] (r ∷ rs) all = absurd all
keys_are_path (l ∷ ls) [] all = absurd all
keys_are_path (l ∷ ls) (r ∷ rs) all = ap₂ (λ a b. a ∷ b) (sym (all.0.key)) (keys_are_path ls rs all.1)

pub levels_are_many : (ls : List Level) (rs : List Ring) → AreLevels ls rs → length ls ≡ length rs
levels_are_many ls rs all = omega (arith, ap length (keys_are_path ls rs all), length-map ls key_of, length-map rs (λ r. r.key))

pub path-append : (rs qs : List Ring) → path_of (rs ++ qs) ≡ path_of rs ++ path_of qs
path-append rs qs = map-append (λ r. r.key) rs qs

-- the last of some keys, and those before it
pub snoc_same : (xs ys : List (List ℕ)) (x y : List ℕ) → xs ++ x ∷ [] ≡ ys ++ y ∷ [] → (xs ≡ ys) × (x ≡ y)
snoc_same [] [] x y e = (refl, cc)
snoc_same [] (z ∷ []) x y e = absurd (none_longer e)
  where
    none_longer : {a b c : List ℕ} → a ∷ [] ≡ b ∷ c ∷ [] → ⊥
    none_longer e = omega (arith, ap length e)
snoc_same [] (z ∷ w ∷ ys) x y e = absurd (omega (arith, ap length e))
snoc_same (z ∷ []) [] x y e = absurd (omega (arith, ap length e))
snoc_same (z ∷ w ∷ xs) [] x y e = absurd (omega (arith, ap length e))
snoc_same (z ∷ xs) (w ∷ ys) x y e =
    let (front, last) = snoc_same xs ys x y (ap (drop 1) e) in
    (ap₂ (λ a b. a ∷ b) (ap (λ t. get_or t 0 x) e) front, last)

-- ---- a table is put away

-- what putting the innermost open table away leaves
pub last_closed : (all ls : List Level) (l : Level) (inner_members outside_members : Members) (rings : List Ring) (inner : Nodes)
    → all ≡ ls ++ l ∷ [] → AreLevels all rings → close inner ≡ inner_members → IsClosed l inner_members outside_members
    → (fewer : List Ring) × (outside : Nodes) × AreLevels ls fewer × (close outside ≡ outside_members)
    × (plug fewer outside ≡ plug rings inner) × (path_of fewer ≡ take (length all - 1) (path_of rings))
last_closed all ls l inner_members outside_members rings inner split levels same closed =
    let (front, r, rings_are, before, level) = AreLevels-pop ls l rings (subst (λ t. AreLevels t rings) split levels) in
    let (d, closes, put) = closed in
    let x : Node = wrapped r.opened inner in
    let d_is : d ≡ close_node x = closed_node l.kind r.opened inner inner_members d level.kind same closes in
    let outside_closes : close (insert r.key x r.around) ≡ outside_members =
    close-insert r.key x r.around
    ∙ ap₂ (λ k e. with_member k e (close r.around)) level.key (sym d_is)
    ∙ ap (with_member (key_of l) d) level.around ∙ sym put in
    let many : length all - 1 ≡ length (path_of front) =
    omega (arith, ap length split, length-append ls (l ∷ []), levels_are_many ls front before, length-map front (λ s. s.key)) in (
      front,
      insert r.key x r.around,
      before,
      outside_closes,
      sym (ap (λ t. plug t inner) rings_are ∙ plug-append front (r ∷ []) inner),
      sym (ap (take (length all - 1)) (ap path_of rings_are ∙ path-append front (r ∷ []))
          ∙ take_at (path_of front) (r.key ∷ []) (length all - 1) (sym many)),
    )

pub no_path : (rings : List Ring) → path_of rings ≡ [] → rings ≡ []
no_path [] none = refl
no_path (r ∷ rings) none = absurd (omega (arith, ap length none))

-- the levels are none where pairs go into the root
pub at_root : (d : Draft) (doc : Document) → vec_len d.levels ≡ 0 → Stands d doc → doc.1 ≡ []
at_root d doc none stands =
    let (rings, inner, draft, is) = stands in
    ap (λ t. t.1) is ∙ sym (keys_are_path d.levels.items rings draft.levels) ∙ no_keys d.levels.items (omega (arith, none, d.levels.ok))
  where
    no_keys : (ls : List Level) → length ls ≡ 0 → map key_of ls ≡ []
    no_keys [] none = refl
    no_keys (l ∷ ls) none = absurd (omega (arith, none))

pub no_levels : (d : Draft) (doc : Document) → doc.1 ≡ [] → Stands d doc → vec_len d.levels ≡ 0
no_levels d doc none stands =
    let (rings, inner, draft, is) = stands in
    let no_rings = ap length (no_path rings (ap (λ t. t.1) (sym is) ∙ none)) in
    omega (arith, d.levels.ok, levels_are_many d.levels.items rings draft.levels, no_rings)

-- ---- a table is opened

-- a header that goes on into a key that isn't there makes a table for it
pub along_opened : (rings : List Ring) (inner : Nodes) (k : List ℕ) (ps : List (List ℕ)) (e : Edit) → get_node k inner ≡ None
    → option_map (plug rings) (along_header (k ∷ ps) e inner)
    ≡ option_map (plug (rings ++ record { around = inner; key = k; opened = in_table implicit } ∷ [])) (along_header ps e no_nodes)
along_opened rings inner k ps e none =
    ap (option_map (plug rings)) (along_missing k ps e inner none) ∙ each (along_header ps e no_nodes)
  where
    each : (o : Option Nodes)
        → option_map (plug rings) (option_map (λ new. insert k (open_table implicit new) inner) o)
        ≡ option_map (plug (rings ++ record { around = inner; key = k; opened = in_table implicit } ∷ [])) o
    each None = refl
    each (Some new) = ap Some (sym (plug-append rings (record { around = inner; key = k; opened = in_table implicit } ∷ []) new))

-- the innermost open table was put away
pub kept_last : (old new : Draft) (result : Result ⊤ Unread) (l : Level) (rings : List Ring) (inner : Nodes) → IsDraft old rings inner
    → old.levels.items ≡ new.levels.items ++ l ∷ [] → OnOk result (IsClosed l (table_view old.table) (table_view new.table))
    → OnOk result ((fewer : List Ring) × (outside : Nodes) × IsDraft new fewer outside
    × (plug fewer outside ≡ plug rings inner) × (path_of fewer ≡ take (vec_len old.levels - 1) (path_of rings)))
kept_last old new (Err e) l rings inner h split closed = tt
kept_last old new (Ok u) l rings inner h split closed =
    let (fewer, outside, levels, same, plugs, path) = last_closed old.levels.items new.levels.items l (table_view old.table) (table_view new.table) rings inner split h.levels h.table closed in
    let many : length old.levels.items - 1 ≡ vec_len old.levels - 1 = omega (arith, old.levels.ok) in
    (fewer, outside, record { levels = levels; table = same }, plugs, path ∙ ap (λ n. take n (path_of rings)) many)

-- all the tables that are open
pub whole_path : (d : Draft) (rings : List Ring) (inner : Nodes) → IsDraft d rings inner → path_of rings ≡ take (vec_len d.levels) (path_of rings)
whole_path d rings inner h =
    sym (take_all (vec_len d.levels) (path_of rings) (omega (arith, d.levels.ok, levels_are_many d.levels.items rings h.levels, length-map rings (λ r. r.key))))

-- the key at a place, behind those before it
pub next_key : {A : Type 0} (f : A → List ℕ) (xs : List A) (at : ℕ) (d : A) → at < length xs → take (at + 1) (map f xs) ≡ take at (map f xs) ++ f (get_or xs at d) ∷ []
next_key f xs at d within =
    take_more (map f xs) at (f d) (omega (arith, length-map xs f))
    ∙ ap (λ k. take at (map f xs) ++ k ∷ []) (get_or-map f xs at d (f d) within)

pub drop_part : (ps : List (String Global)) (at : ℕ) (d : String Global) → at < length ps → drop at (path_view ps) ≡ string_bytes (get_or ps at d) ∷ drop (at + 1) (path_view ps)
drop_part ps at d within =
    drop_more (path_view ps) at (string_bytes d) (omega (arith, length-map ps string_bytes))
    ∙ ap (λ k. k ∷ drop (at + 1) (path_view ps)) (get_or-map string_bytes ps at d (string_bytes d) within)

-- the part of a header's path that goes through open tables
pub shared_path : (d : Draft) (rings : List Ring) (inner : Nodes) (n : ℕ) (p q : List (List ℕ)) → IsDraft d rings inner → q ≡ p
    → take n q ≡ take n (map key_of d.levels.items) → take n (path_of rings) ≡ take n p
shared_path d rings inner n p q draft same shared =
    ap (take n) (sym (keys_are_path d.levels.items rings draft.levels)) ∙ sym shared ∙ ap (take n) same

-- ---- headers

pub along_none : (e : Edit) (ns : Nodes) → along_header [] e ns ≡ e ns
unfolding along_header
along_none e ns = refl

pub define_table : (doc : Document) (p : List (List ℕ)) (k : List ℕ) (root : Nodes) → along_header p (at_key k std_table) doc.0 ≡ Some root
    → define doc ((p, k), std_table) ≡ Some (root, p ++ k ∷ [])
unfolding define
define_table doc p k root made = ap (option_map (λ r. (r, p ++ k ∷ []))) made

pub define_element : (doc : Document) (p : List (List ℕ)) (k : List ℕ) (root : Nodes) → along_header p (at_key k array_table) doc.0 ≡ Some root
    → define doc ((p, k), array_table) ≡ Some (root, p ++ k ∷ [])
unfolding define
define_element doc p k root made = ap (option_map (λ r. (r, p ++ k ∷ []))) made

-- what the steps of a header that opens a new table lead to: some are put away, some are opened on the way
pub record Leads (p : List (List ℕ)) (n : ℕ) (rings : List Ring) (inner : Nodes) (more : List Ring) (top : Nodes) : Type 0 where
  pub fewer : List Ring
  pub outside : Nodes
  pub plugs : plug fewer outside ≡ plug rings inner
  pub shared : path_of fewer ≡ take n p
  pub path : path_of more ≡ path_of fewer ++ drop n p
  pub along : (edit : Edit) → option_map (plug fewer) (along_header (drop n p) edit outside) ≡ option_map (plug more) (edit top)

-- it is given in the slices q and r of the path
pub header_leads : (d : Draft) (rings fewer more : List Ring) (inner outside top : Nodes) (n : ℕ) (p q r : List (List ℕ)) → IsDraft d rings inner → q ≡ p → r ≡ p
    → take n q ≡ take n (map key_of d.levels.items) → plug fewer outside ≡ plug rings inner → path_of fewer ≡ take n (path_of rings)
    → path_of more ≡ path_of fewer ++ drop n r → ((edit : Edit) → option_map (plug fewer) (along_header (drop n r) edit outside) ≡ option_map (plug more) (edit top))
    → Leads p n rings inner more top
header_leads d rings fewer more inner outside top n p q r draft first second shared plugs path ways along = record {
  fewer = fewer;
  outside = outside;
  plugs = plugs;
  shared = path ∙ shared_path d rings inner n p q draft first shared;
  path = ways ∙ ap (λ t. path_of fewer ++ drop n t) second;
  along = λ edit. ap (λ t. option_map (plug fewer) (along_header (drop n t) edit outside)) (sym second) ∙ along edit;
}

leads_along : (p : List (List ℕ)) (n : ℕ) (rings more : List Ring) (inner top : Nodes) → Leads p n rings inner more top → (e : Edit)
    → along_header p e (plug rings inner) ≡ option_map (plug more) (e top)
leads_along p n rings more inner top h e =
    ap₂ (λ q ns. along_header q e ns) (sym (ap (λ t. t ++ drop n p) h.shared ∙ take-append-drop n p)) (sym h.plugs)
    ∙ along-plug h.fewer (drop n p) e h.outside ∙ h.along e

leads_path : (p : List (List ℕ)) (n : ℕ) (rings more : List Ring) (inner top : Nodes) → Leads p n rings inner more top → path_of more ≡ p
leads_path p n rings more inner top h = h.path ∙ ap (λ t. t ++ drop n p) h.shared ∙ take-append-drop n p

opened_along : (p : List (List ℕ)) (k : List ℕ) (n : ℕ) (rings more : List Ring) (inner top : Nodes) (what : Definition) (opened : Opened)
    → Leads p n rings inner more top → get_node k top ≡ None → new_node what ≡ wrapped opened no_nodes
    → along_header p (at_key k what) (plug rings inner) ≡ Some (plug (more ++ record { around = top; key = k; opened = opened } ∷ []) no_nodes)
opened_along p k n rings more inner top what opened h none new =
    leads_along p n rings more inner top h (at_key k what)
    ∙ ap (option_map (plug more)) (at_key_new k what top none ∙ ap (λ x. Some (insert k x top)) new)
    ∙ ap Some (sym (plug-append more (record { around = top; key = k; opened = opened } ∷ []) no_nodes))

opened_path : (p : List (List ℕ)) (k : List ℕ) (n : ℕ) (rings more : List Ring) (inner top : Nodes) (opened : Opened)
    → Leads p n rings inner more top → path_of (more ++ record { around = top; key = k; opened = opened } ∷ []) ≡ p ++ k ∷ []
opened_path p k n rings more inner top opened h = path-append more _ ∙ ap (λ t. t ++ k ∷ []) (leads_path p n rings more inner top h)

-- a header opens a table, or the first element of an array of tables
pub header_opened : (p : List (List ℕ)) (k : List ℕ) (n : ℕ) (d : Draft) (doc : Document) (rings more : List Ring) (inner top : Nodes) (what : Definition) (opened : Opened)
    → ((root : Nodes) → along_header p (at_key k what) doc.0 ≡ Some root → define doc ((p, k), what) ≡ Some (root, p ++ k ∷ []))
    → new_node what ≡ wrapped opened no_nodes → doc ≡ (plug rings inner, path_of rings) → Leads p n rings inner more top → get_node k top ≡ None
    → IsDraft d (more ++ record { around = top; key = k; opened = opened } ∷ []) no_nodes
    → (next : Document) × (define doc ((p, k), what) ≡ Some next) × Stands d next
header_opened p k n d doc rings more inner top what opened defines new is h none draft =
    let all : List Ring = more ++ record { around = top; key = k; opened = opened } ∷ [] in
    let made = opened_along p k n rings more inner top what opened h none new in (
      (plug all no_nodes, p ++ k ∷ []),
      defines (plug all no_nodes) (ap (λ t. along_header p (at_key k what) t.0) is ∙ made),
      (all, no_nodes, draft, ap (λ t. (plug all no_nodes, t)) (sym (opened_path p k n rings more inner top opened h))),
    )

-- the next element of an array of tables, in the nodes around it
pub next_in_array : (k : List ℕ) (done : Items) (inner around : Nodes)
    → at_key k array_table (insert k (open_array done inner) around) ≡ Some (insert k (open_array (push_item done (table (close inner))) no_nodes) around)
next_in_array k done inner around =
    at_key_ok k array_table (insert k (open_array done inner) around) _ (open_array done inner) (open_array (push_item done (table (close inner))) no_nodes)
    (get_node-insert k (open_array done inner) around) refl (sym (replace-insert k (open_array done inner) _ around))

turned_along : (front : List Ring) (r : Ring) (done : Items) (inner : Nodes) → r.opened ≡ in_array done
    → along_header (path_of front) (at_key r.key array_table) (plug (front ++ r ∷ []) inner)
    ≡ Some (plug (front ++ record r { opened = in_array (push_item done (table (close inner))) } ∷ []) no_nodes)
turned_along front r done inner opened =
    let r' : Ring = record r { opened = in_array (push_item done (table (close inner))) } in
    ap₂ (λ q ns. along_header q (at_key r.key array_table) ns) (sym (append-nil (path_of front)))
    (plug-append front (r ∷ []) inner ∙ ap (λ o. plug front (insert r.key (wrapped o inner) r.around)) opened)
    ∙ along-plug front [] (at_key r.key array_table) (insert r.key (open_array done inner) r.around)
    ∙ ap (option_map (plug front)) (along_none (at_key r.key array_table) _ ∙ next_in_array r.key done inner r.around)
    ∙ ap Some (sym (plug-append front (r' ∷ []) no_nodes))

-- a header ends an element of an array of tables and begins the next
pub element_turned : (p : List (List ℕ)) (k : List ℕ) (d : Draft) (doc : Document) (rings fewer front : List Ring) (inner outside : Nodes) (r : Ring) (done : Items)
    → doc ≡ (plug rings inner, path_of rings) → plug fewer outside ≡ plug rings inner → path_of fewer ≡ p ++ k ∷ []
    → fewer ≡ front ++ r ∷ [] → r.opened ≡ in_array done
    → IsDraft d (front ++ record r { opened = in_array (push_item done (table (close outside))) } ∷ []) no_nodes
    → (next : Document) × (define doc ((p, k), array_table) ≡ Some next) × Stands d next
element_turned p k d doc rings fewer front inner outside r done is plugs path split opened draft =
    let r' : Ring = record r { opened = in_array (push_item done (table (close outside))) } in
    let all : List Ring = front ++ r' ∷ [] in
    let (before, last) = snoc_same (path_of front) p r.key k (sym (path-append front (r ∷ [])) ∙ ap path_of (sym split) ∙ path) in
    let root : doc.0 ≡ plug (front ++ r ∷ []) outside = ap (λ t. t.0) is ∙ sym plugs ∙ ap (λ t. plug t outside) split in
    let made : along_header p (at_key k array_table) doc.0 ≡ Some (plug all no_nodes) =
    ap (along_header p (at_key k array_table)) root
    ∙ ap₂ (λ q l. along_header q (at_key l array_table) (plug (front ++ r ∷ []) outside)) (sym before) (sym last)
    ∙ turned_along front r done outside opened in (
      (plug all no_nodes, p ++ k ∷ []),
      define_element doc p k (plug all no_nodes) made,
      (all, no_nodes, draft, ap (λ t. (plug all no_nodes, t)) (sym (path-append front (r' ∷ []) ∙ ap₂ (λ a b. a ++ b ∷ []) before last))),
    )

-- ---- pairs

define_pair : (doc : Document) (k : List ℕ) (d : Data) (root : Nodes) → along_header doc.1 (put ([], k) d) doc.0 ≡ Some root
    → define doc (([], k), key_value d) ≡ Some (root, doc.1)
unfolding define
define_pair doc k d root made = ap (option_map (λ r. (r, doc.1))) made

put_along : (rings : List Ring) (k : List ℕ) (d : Data) (inner : Nodes) → put ([], k) d inner ≡ Some (insert k (value d) inner)
    → along_header (path_of rings) (put ([], k) d) (plug rings inner) ≡ Some (plug rings (insert k (value d) inner))
put_along rings k d inner placed =
    ap (λ q. along_header q (put ([], k) d) (plug rings inner)) (sym (append-nil (path_of rings)))
    ∙ along-plug rings [] (put ([], k) d) inner
    ∙ ap (option_map (plug rings)) (along_none (put ([], k) d) inner ∙ placed)

-- a pair is put into the innermost open table
pub pair_put : (old new : Draft) (doc : Document) (k : List ℕ) (d : Data) → Stands old doc → new.levels ≡ old.levels
    → get_member k (table_view old.table) ≡ None → table_view new.table ≡ with_member k d (table_view old.table)
    → (next : Document) × (define doc (([], k), key_value d) ≡ Some next) × Stands new next
pair_put old new doc k d stands levels absent written =
    let (rings, inner, draft, is) = stands in
    let (placed, closes) = put-new k d inner (table_view old.table) (table_view new.table) draft.table absent written in
    let root : Nodes = plug rings (insert k (value d) inner) in
    let made : along_header doc.1 (put ([], k) d) doc.0 ≡ Some root =
    ap (λ t. along_header t.1 (put ([], k) d) t.0) is ∙ put_along rings k d inner placed in
    let stay : AreLevels new.levels.items rings = subst (λ v. AreLevels v.items rings) (sym levels) draft.levels in (
      (root, doc.1),
      define_pair doc k d root made,
      (rings, insert k (value d) inner, record { levels = stay; table = closes }, ap (λ t. (root, t.1)) is),
    )
