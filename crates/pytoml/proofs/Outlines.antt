-- What lines do to a document from which elements are handed out.
use Rattle.std.proofs.Common.{◌≡◌, ℕ, Bool, ◌&&◌, ◌==◌, true, false, List, [], ◌∷◌, ◌++◌, length, Option, Some, None, option_map, String, Global, refl, sym, ap, ap₂, subst, ◌∙◌}
use Rattle.std.specs.Prelude.{⊤, Result, IfOk, OnOk, vec_len}
use Rattle.std.specs.Borrow.{Bor}
use Rattle.std.proofs.lemmas.Result.{IfOk-weaker}
use Rattle.std.proofs.lemmas.Bool.{eq-eqb, eqb-true, true≢false}
use Rattle.toml_parser.specs.Strings.{Key, recursion_limit}
use Rattle.toml_parser.specs.Reading.{path_view}
use Rattle.toml.specs.Parse.{val}
use Rattle.toml.specs.Data.{Data, Items, no_items, item, Members, array, get_member, push_item, same_key, table}
use Rattle.toml.specs.Tables.{Node, Nodes, no_nodes, open_table, open_array, implicit, insert, replace, get_node, close, close_node, value, Edit, header_node, by_header, along_header, at_found, at_key, redefine, new_node, Definition, std_table, array_table, key_value, put, Document, define}
use Rattle.toml.proofs.Turns.{at_key_new}
use Rattle.pytoml.specs.Draft.{Defines, Puts, Ring, Stands, in_array, plug}
use Rattle.pytoml.specs.Elements.{LacksElements, has_elements}
use Rattle.pytoml.specs.Members.{with_elements, with_member}
use Rattle.pytoml.specs.Outline.{AreSome, IsApart, IsAround, IsBefore, IsBehind, IsElsewhere, IsInline, IsLeft, IsOther, IsWithin, LacksArray, StandsAt, StandsBy, first_part}
use Rattle.pytoml.specs.declared.draft.Draft.{Draft}
use Rattle.pytoml.specs.declared.fault.Unread.{Unread}
use Rattle.pytoml.specs.declared.outline.Place.{Place}
use Rattle.pytoml.specs.declared.outline.Place.TheVariants.{Before, Within, Behind, Inline}
use Rattle.pytoml.proofs.Levels.{along_none, next_in_array, no_levels}
use Rattle.pytoml.proofs.Inlines.{push_some}
use Rattle.pytoml.proofs.Lacking.{IsPlain, lacks_along, lacks_at}
use Rattle.pytoml.proofs.Others.{get_node-insert_other, get_node-replace_other, insert-other, other_turned, replace-insert_other, same_is}
use Rattle.pytoml.proofs.Results.{made_of, none_made, on_ok_then}
use Rattle.pytoml.proofs.Rings.{along-plug, close-get, close-insert}

-- ---- an edit at another key

other_along : (key q : List ℕ) (qs : List (List ℕ)) (e : Edit) (n : Node) (rest : Nodes) → same_key q key ≡ false
    → along_header (q ∷ qs) e (insert key n rest) ≡ option_map (insert key n) (along_header (q ∷ qs) e rest)
unfolding along_header
other_along key q qs e n rest other =
    ap (by_header q (along_header qs e) (insert key n rest)) (get_node-insert_other q key n rest other) ∙ by (get_node q rest)
  where
    made : (o : Option Nodes) → option_map (λ new. insert q (open_table implicit new) (insert key n rest)) o
        ≡ option_map (insert key n) (option_map (λ new. insert q (open_table implicit new) rest) o)
    made None = refl
    made (Some new) = ap Some (insert-other q key (open_table implicit new) n rest other)

    changed : (o : Option Node) → option_map (λ new. replace q new (insert key n rest)) o ≡ option_map (insert key n) (option_map (λ new. replace q new rest) o)
    changed None = refl
    changed (Some new) = ap Some (replace-insert_other q key new n rest other)

    by : (found : Option Node) → by_header q (along_header qs e) (insert key n rest) found ≡ option_map (insert key n) (by_header q (along_header qs e) rest found)
    by None = made (along_header qs e no_nodes)
    by (Some x) = changed (header_node (along_header qs e) x)

other_at_key : (key k : List ℕ) (what : Definition) (n : Node) (rest : Nodes) → same_key k key ≡ false
    → at_key k what (insert key n rest) ≡ option_map (insert key n) (at_key k what rest)
unfolding at_key
other_at_key key k what n rest other =
    ap (at_found k what (insert key n rest)) (get_node-insert_other k key n rest other) ∙ by (get_node k rest)
  where
    changed : (o : Option Node) → option_map (λ new. replace k new (insert key n rest)) o ≡ option_map (insert key n) (option_map (λ new. replace k new rest) o)
    changed None = refl
    changed (Some new) = ap Some (replace-insert_other k key new n rest other)

    by : (found : Option Node) → at_found k what (insert key n rest) found ≡ option_map (insert key n) (at_found k what rest found)
    by None = ap Some (insert-other k key (new_node what) n rest other)
    by (Some x) = changed (redefine what x)

absent_along : (key q : List ℕ) (qs : List (List ℕ)) (e : Edit) (rest made : Nodes) → same_key q key ≡ false → get_node key rest ≡ None
    → along_header (q ∷ qs) e rest ≡ Some made → get_node key made ≡ None
unfolding along_header
absent_along key q qs e rest made other absent is = by (get_node q rest) is
  where
    new : (o : Option Nodes) → option_map (λ new. insert q (open_table implicit new) rest) o ≡ Some made → get_node key made ≡ None
    new None is = none_made made is
    new (Some inner) is =
        made_of (λ ns. get_node key ns ≡ None) _ made is (get_node-insert_other key q (open_table implicit inner) rest (other_turned q key other) ∙ absent)

    changed : (o : Option Node) → option_map (λ new. replace q new rest) o ≡ Some made → get_node key made ≡ None
    changed None is = none_made made is
    changed (Some x) is = made_of (λ ns. get_node key ns ≡ None) _ made is (get_node-replace_other key q x rest (other_turned q key other) ∙ absent)

    by : (found : Option Node) → by_header q (along_header qs e) rest found ≡ Some made → get_node key made ≡ None
    by None is = new (along_header qs e no_nodes) is
    by (Some x) is = changed (header_node (along_header qs e) x) is

absent_at_key : (key k : List ℕ) (what : Definition) (rest made : Nodes) → same_key k key ≡ false → get_node key rest ≡ None
    → at_key k what rest ≡ Some made → get_node key made ≡ None
unfolding at_key
absent_at_key key k what rest made other absent is = by (get_node k rest) is
  where
    changed : (o : Option Node) → option_map (λ new. replace k new rest) o ≡ Some made → get_node key made ≡ None
    changed None is = none_made made is
    changed (Some x) is = made_of (λ ns. get_node key ns ≡ None) _ made is (get_node-replace_other key k x rest (other_turned k key other) ∙ absent)

    by : (found : Option Node) → at_found k what rest found ≡ Some made → get_node key made ≡ None
    by None is = made_of (λ ns. get_node key ns ≡ None) _ made is (get_node-insert_other key k (new_node what) rest (other_turned k key other) ∙ absent)
    by (Some x) is = changed (redefine what x) is

-- ---- headers

abbrev header_edit : Key → Definition → Nodes → Option Nodes
header_edit e what = along_header e.0 (at_key e.1 what)

abbrev pub IsHeader : Definition → Type 0
IsHeader what = (doc : Document) (e : Key) → define doc (e, what) ≡ option_map (λ root. (root, e.0 ++ e.1 ∷ [])) (header_edit e what doc.0)

pub of_table : IsHeader std_table
unfolding define
of_table doc e = refl

pub of_array : IsHeader array_table
unfolding define
of_array doc e = refl

header_other : (key : List ℕ) (e : Key) (what : Definition) (n : Node) (rest : Nodes) → same_key (first_part e) key ≡ false
    → header_edit e what (insert key n rest) ≡ option_map (insert key n) (header_edit e what rest)
header_other key ([], k) what n rest other =
    along_none (at_key k what) (insert key n rest) ∙ other_at_key key k what n rest other
    ∙ ap (option_map (insert key n)) (sym (along_none (at_key k what) rest))
header_other key (q ∷ qs, k) what n rest other = other_along key q qs (at_key k what) n rest other

header_absent : (key : List ℕ) (e : Key) (what : Definition) (rest made : Nodes) → same_key (first_part e) key ≡ false → get_node key rest ≡ None
    → header_edit e what rest ≡ Some made → get_node key made ≡ None
header_absent key ([], k) what rest made other absent is = absent_at_key key k what rest made other absent (sym (along_none (at_key k what) rest) ∙ is)
header_absent key (q ∷ qs, k) what rest made other absent is = absent_along key q qs (at_key k what) rest made other absent is

header_path : (key : List ℕ) (e : Key) → same_key (first_part e) key ≡ false → IsOther key (e.0 ++ e.1 ∷ [])
header_path key ([], k) other = other
header_path key (q ∷ qs, k) other = other

-- what a header makes of the nodes, and the path that it leads to
header_made : (path : List (List ℕ)) (o : Option Nodes) (next : Document) → option_map (λ root. (root, path)) o ≡ Some next → (o ≡ Some next.0) × (path ≡ next.1)
header_made path None next is = none_made next is
header_made path (Some root) next is =
    (made_of (λ d. Some root ≡ Some d.0) (root, path) next is refl, made_of (λ d. path ≡ d.1) (root, path) next is refl)

-- beside what stands at the key
elsewhere : (what : Definition) → IsHeader what → (key : List ℕ) (x : Node) (old new : Draft) (doc : Document) (b : IsApart key x old doc.0) (e : Key)
    → same_key (first_part e) key ≡ false → (next : Document) → define (b.rest, b.path) (e, what) ≡ Some next → Stands new next
    → (after : Document) × (define doc (e, what) ≡ Some after) × (apart : IsApart key x new after.0) × (after.1 ≡ apart.path) × IsOther key after.1
elsewhere what is key x old new doc b e other next defined stands =
    let path : List (List ℕ) = e.0 ++ e.1 ∷ [] in
    let (made, leads) = header_made path (header_edit e what b.rest) next (sym (is (b.rest, b.path) e) ∙ defined) in
    let along : header_edit e what doc.0 ≡ Some (insert key x next.0) =
    ap (header_edit e what) b.is ∙ header_other key e what x b.rest other ∙ ap (option_map (insert key x)) made in (
      (insert key x next.0, path),
      is doc e ∙ ap (option_map (λ root. (root, path))) along,
      record { rest = next.0; path = next.1; stands = stands; absent = header_absent key e what b.rest next.0 other b.absent made; is = refl },
      leads,
      header_path key e other,
    )

around_other : (key : List ℕ) (path : List (List ℕ)) → IsOther key path → IsAround key path
around_other key [] other = absurd other
around_other key (q ∷ qs) other = other

-- ---- headers where no element was met

-- the header puts no array at the key
abbrev pub IsSparing : List ℕ → Key → Definition → Type 0
IsSparing key ([], k) what = same_key k key ≡ true → IsPlain (new_node what)
IsSparing key (q ∷ qs, k) what = ⊤

sparing_other : (key : List ℕ) (e : Key) (what : Definition) → same_key (first_part e) key ≡ false → IsSparing key e what
sparing_other key ([], k) what other = λ same. absurd (true≢false (sym same ∙ other))
sparing_other key (q ∷ qs, k) what other = tt

pub sparing_table : (key : List ℕ) (e : Key) → IsSparing key e std_table
sparing_table key ([], k) = λ same. refl
sparing_table key (q ∷ qs, k) = tt

pub sparing_path : (key last : List ℕ) (path : List (String Global)) (what : Definition) → (length path == 0) ≡ false → IsSparing key (path_view path, last) what
sparing_path key last [] what some = absurd (true≢false some)
sparing_path key last (p ∷ ps) what some = tt

header_lacks : (key : List ℕ) (e : Key) (what : Definition) (ns made : Nodes) → IsSparing key e what → LacksArray key ns → header_edit e what ns ≡ Some made → LacksArray key made
header_lacks key ([], k) what ns made sparing lacks is = lacks_at key k what ns made sparing lacks (sym (along_none (at_key k what) ns) ∙ is)
header_lacks key (q ∷ qs, k) what ns made sparing lacks is = lacks_along key q qs (at_key k what) ns made lacks is

pub before_defined : (what : Definition) → IsHeader what → (key : List ℕ) (taken : Items) (old new : Draft) (result : Result ⊤ Unread) (e : Key) (doc : Document)
    → IsBefore key taken old doc → IsSparing key e what → Defines Stands old new result (e, what)
    → OnOk result ((next : Document) × (define doc (e, what) ≡ Some next) × IsBefore key taken new next)
before_defined what is key taken old new result e doc before sparing defines =
    on_ok_then result (λ made.
    let (next, defined, stands) = made in
    let (nodes, leads) = header_made (e.0 ++ e.1 ∷ []) (header_edit e what doc.0) next (sym (is doc e) ∙ defined) in
    (next, defined, (before.0, stands, header_lacks key e what doc.0 next.0 sparing before.2 nodes))) (defines doc before.1)

-- a header that doesn't go through the key, where no element is open
pub left_defined : (what : Definition) → IsHeader what → (key : List ℕ) (taken : Items) (place : Place) (old new : Draft) (result : Result ⊤ Unread) (e : Key) (doc : Document)
    → IsLeft key taken old place doc → same_key (first_part e) key ≡ false → Defines Stands old new result (e, what)
    → OnOk result ((next : Document) × (define doc (e, what) ≡ Some next) × StandsAt key taken new place next)
left_defined what is key taken Before old new result e doc left other defines = before_defined what is key taken old new result e doc left (sparing_other key e what other) defines
left_defined what is key taken (Within element) old new result e doc left other defines = absurd left
left_defined what is key taken Behind old new result e doc left other defines =
    on_ok_then result (λ made.
    let (after, defined, apart, path, away) = elsewhere what is key (open_array left.done left.last) old new doc left.apart e other made.0 made.1 made.2 in
    (after, defined, (record { done = left.done; last = left.last; apart = apart; all = left.all }, path, away))) (defines (left.apart.rest, left.apart.path) left.apart.stands)
left_defined what is key taken Inline old new result e doc left other defines =
    on_ok_then result (λ made.
    let (after, defined, apart, path, away) = elsewhere what is key (value (array taken)) old new doc left.apart e other made.0 made.1 made.2 in
    (after, defined, record { apart = apart; path = path; around = around_other key after.1 away; some = left.some })) (defines (left.apart.rest, left.apart.path) left.apart.stands)

-- ---- within an element

abbrev ring_of : List ℕ → Items → Nodes → Ring
ring_of key taken rest = record { around = rest; key = key; opened = in_array taken }

-- a header that goes on below the key
pub within_defined : (what : Definition) → IsHeader what → (key : List ℕ) (taken : Items) (root old new : Draft) (result : Result ⊤ Unread) (e : Key) (doc : Document)
    → IsWithin key taken root old doc → Defines Stands old new result (e, what)
    → OnOk result ((next : Document) × (define doc ((key ∷ e.0, e.1), what) ≡ Some next) × IsWithin key taken root new next)
within_defined what is key taken root old new result e doc w defines =
    on_ok_then result (λ made.
    let (next, defined, stands) = made in
    let r = ring_of key taken w.rest in
    let (nodes, leads) = header_made (e.0 ++ e.1 ∷ []) (header_edit e what w.inner) next (sym (is (w.inner, w.path) e) ∙ defined) in
    let along : header_edit (key ∷ e.0, e.1) what doc.0 ≡ Some (plug (r ∷ []) next.0) =
    ap (λ d. header_edit (key ∷ e.0, e.1) what d.0) w.is ∙ along-plug (r ∷ []) e.0 (at_key e.1 what) w.inner ∙ ap (option_map (plug (r ∷ []))) nodes in (
      (plug (r ∷ []) next.0, key ∷ e.0 ++ e.1 ∷ []),
      is doc (key ∷ e.0, e.1) ∙ ap (option_map (λ root. (root, key ∷ e.0 ++ e.1 ∷ []))) along,
      record { rest = w.rest; rest_path = w.rest_path; inner = next.0; path = next.1; stands = w.stands; absent = w.absent; inside = stands; is = ap (λ p. (plug (r ∷ []) next.0, key ∷ p)) leads },
    )) (defines (w.inner, w.path) w.inside)

abbrev pair_edit : Document → List ℕ → Data → Option Nodes
pair_edit doc k d = along_header doc.1 (put ([], k) d) doc.0

of_pair : (doc : Document) (k : List ℕ) (d : Data) → define doc (([], k), key_value d) ≡ option_map (λ root. (root, doc.1)) (pair_edit doc k d)
unfolding define
of_pair doc k d = refl

-- a pair
within_put : (key : List ℕ) (taken : Items) (root old new : Draft) (k : List ℕ) (d : Data) (doc : Document) (w : IsWithin key taken root old doc) (next : Document)
    → define (w.inner, w.path) (([], k), key_value d) ≡ Some next → Stands new next
    → (after : Document) × (define doc (([], k), key_value d) ≡ Some after) × IsWithin key taken root new after
within_put key taken root old new k d doc w next defined stands =
    let r = ring_of key taken w.rest in
    let (nodes, leads) = header_made w.path (pair_edit (w.inner, w.path) k d) next (sym (of_pair (w.inner, w.path) k d) ∙ defined) in
    let along : pair_edit doc k d ≡ Some (plug (r ∷ []) next.0) =
    ap (λ t. pair_edit t k d) w.is ∙ along-plug (r ∷ []) w.path (put ([], k) d) w.inner ∙ ap (option_map (plug (r ∷ []))) nodes in (
      (plug (r ∷ []) next.0, doc.1),
      of_pair doc k d ∙ ap (option_map (λ root. (root, doc.1))) along,
      record {
        rest = w.rest;
        rest_path = w.rest_path;
        inner = next.0;
        path = next.1;
        stands = w.stands;
        absent = w.absent;
        inside = stands;
        is = ap (λ t. (plug (r ∷ []) next.0, t.1)) w.is ∙ ap (λ p. (plug (r ∷ []) next.0, key ∷ p)) leads;
      },
    )

-- ---- a pair beside what stands at the key

-- a pair of another key at the root, or below a header that doesn't go through the key
abbrev IsFree : List ℕ → List (List ℕ) → List ℕ → Type 0
IsFree key [] k = same_key k key ≡ false
IsFree key (q ∷ qs) k = same_key q key ≡ false

free_other : (key k : List ℕ) (path : List (List ℕ)) → IsOther key path → IsFree key path k
free_other key k [] other = absurd other
free_other key k (q ∷ qs) other = other

free_around : (key k : List ℕ) (path : List (List ℕ)) → IsAround key path → (path ≡ [] → same_key k key ≡ false) → IsFree key path k
free_around key k [] around at_root = at_root refl
free_around key k (q ∷ qs) around at_root = around

put_root : (k : List ℕ) (d : Data) (ns : Nodes) → along_header [] (put ([], k) d) ns ≡ at_key k (key_value d) ns
unfolding Rattle.toml.specs.Tables.along_dots
put_root k d ns = along_none (put ([], k) d) ns

pair_other : (key : List ℕ) (path : List (List ℕ)) (k : List ℕ) (d : Data) (x : Node) (rest : Nodes) → IsFree key path k
    → along_header path (put ([], k) d) (insert key x rest) ≡ option_map (insert key x) (along_header path (put ([], k) d) rest)
pair_other key [] k d x rest free =
    put_root k d (insert key x rest) ∙ other_at_key key k (key_value d) x rest free ∙ ap (option_map (insert key x)) (sym (put_root k d rest))
pair_other key (q ∷ qs) k d x rest free = other_along key q qs (put ([], k) d) x rest free

pair_absent : (key : List ℕ) (path : List (List ℕ)) (k : List ℕ) (d : Data) (rest made : Nodes) → IsFree key path k → get_node key rest ≡ None
    → along_header path (put ([], k) d) rest ≡ Some made → get_node key made ≡ None
pair_absent key [] k d rest made free absent is = absent_at_key key k (key_value d) rest made free absent (sym (put_root k d rest) ∙ is)
pair_absent key (q ∷ qs) k d rest made free absent is = absent_along key q qs (put ([], k) d) rest made free absent is

apart_put : (key k : List ℕ) (x : Node) (old new : Draft) (d : Data) (doc : Document) (b : IsApart key x old doc.0) → doc.1 ≡ b.path → IsFree key b.path k → (next : Document)
    → define (b.rest, b.path) (([], k), key_value d) ≡ Some next → Stands new next
    → (after : Document) × (define doc (([], k), key_value d) ≡ Some after) × (apart : IsApart key x new after.0) × (after.1 ≡ apart.path) × (doc.1 ≡ after.1)
apart_put key k x old new d doc b same free next defined stands =
    let (nodes, leads) = header_made b.path (pair_edit (b.rest, b.path) k d) next (sym (of_pair (b.rest, b.path) k d) ∙ defined) in
    let along : pair_edit doc k d ≡ Some (insert key x next.0) =
    ap₂ (λ p ns. along_header p (put ([], k) d) ns) same b.is ∙ pair_other key b.path k d x b.rest free ∙ ap (option_map (insert key x)) nodes in (
      (insert key x next.0, doc.1),
      of_pair doc k d ∙ ap (option_map (λ root. (root, doc.1))) along,
      record { rest = next.0; path = next.1; stands = stands; absent = pair_absent key b.path k d b.rest next.0 free b.absent nodes; is = refl },
      same ∙ leads,
      refl,
    )

-- ---- pairs, over some elements that may have been taken

-- the pair was put
abbrev pub IsPut : (Items → Type 0) → List ℕ → List ℕ → List ℕ → Draft → Place → Document → Result (Bor (List ℕ)) Unread → Type 0
IsPut holds key k text root place doc result =
    IfOk result (λ rest. (d : Data) × (next : Document) × (val recursion_limit text ≡ Some (d, rest.now)) × (define doc (([], k), key_value d) ≡ Some next) × StandsBy holds key root place next)

-- a pair, by what it makes of another document
put_over : (holds : Items → Type 0) (key k text : List ℕ) (taken : Items) (root : Draft) (place : Place) (doc other : Document) (S : Document → Type 0) (result : Result (Bor (List ℕ)) Unread) → holds taken
    → ((d : Data) (rest : List ℕ) (next : Document) → val recursion_limit text ≡ Some (d, rest) → define other (([], k), key_value d) ≡ Some next → S next
    → (after : Document) × (define doc (([], k), key_value d) ≡ Some after) × StandsAt key taken root place after)
    → IfOk result (λ rest. (d : Data) × (next : Document) × (val recursion_limit text ≡ Some (d, rest.now)) × (define other (([], k), key_value d) ≡ Some next) × S next)
    → IsPut holds key k text root place doc result
put_over holds key k text taken root place doc other S result h step puts =
    IfOk-weaker result _ _ (λ rest made.
    let (d, next, read, defined, stands) = made in
    let (after, now, at) = step d rest.now next read defined stands in
    (d, after, read, now, (taken, h, at))) puts

-- in an element
pub put_within : (holds : Items → Type 0) (key k text : List ℕ) (taken : Items) (root old new : Draft) (doc : Document) (result : Result (Bor (List ℕ)) Unread) → holds taken
    → IsWithin key taken root old doc → Puts Stands old new result k text → IsPut holds key k text root (Within new) doc result
put_within holds key k text taken root old new doc result h w puts =
    put_over holds key k text taken root (Within new) doc (w.inner, w.path) (Stands new) result h
    (λ d rest next read defined stands. within_put key taken root old new k d doc w next defined stands) (puts (w.inner, w.path) w.inside)

-- a pair puts no array with elements at the key
pair_lacks : (key : List ℕ) (path : List (List ℕ)) (k : List ℕ) (d : Data) (ns made : Nodes) → (path ≡ [] → same_key k key ≡ true → IsPlain (value d)) → LacksArray key ns
    → along_header path (put ([], k) d) ns ≡ Some made → LacksArray key made
pair_lacks key [] k d ns made plain lacks is = lacks_at key k (key_value d) ns made (plain refl) lacks (sym (put_root k d ns) ∙ is)
pair_lacks key (q ∷ qs) k d ns made plain lacks is = lacks_along key q qs (put ([], k) d) ns made lacks is

-- where no element was met
pub put_before : (holds : Items → Type 0) (key k text : List ℕ) (taken : Items) (old new : Draft) (doc : Document) (result : Result (Bor (List ℕ)) Unread) → holds taken
    → ((d : Data) (rest : List ℕ) → val recursion_limit text ≡ Some (d, rest) → doc.1 ≡ [] → same_key k key ≡ true → IsPlain (value d))
    → IsBefore key taken old doc → Puts Stands old new result k text → IsPut holds key k text new Before doc result
put_before holds key k text taken old new doc result h plain before puts =
    put_over holds key k text taken new Before doc doc (Stands new) result h
    (λ d rest next read defined stands.
    let (nodes, leads) = header_made doc.1 (pair_edit doc k d) next (sym (of_pair doc k d) ∙ defined) in
    (next, defined, (before.0, stands, pair_lacks key doc.1 k d doc.0 next.0 (plain d rest read) before.2 nodes))) (puts doc before.1)

put_behind : (holds : Items → Type 0) (key k text : List ℕ) (taken : Items) (old new : Draft) (doc : Document) (result : Result (Bor (List ℕ)) Unread) → holds taken
    → IsElsewhere key taken old doc → Puts Stands old new result k text → IsPut holds key k text new Behind doc result
put_behind holds key k text taken old new doc result h at puts =
    let (b, same, other) = at in
    let x : Node = open_array b.done b.last in
    let free : IsFree key b.apart.path k = free_other key k b.apart.path (subst (IsOther key) same other) in
    put_over holds key k text taken new Behind doc (b.apart.rest, b.apart.path) (Stands new) result h
    (λ d rest next read defined stands.
    let (after, now, apart, path, stays) = apart_put key k x old new d doc b.apart same free next defined stands in
    (after, now, (record { done = b.done; last = b.last; apart = apart; all = b.all }, path, subst (IsOther key) stays other))) (puts (b.apart.rest, b.apart.path) b.apart.stands)

-- a pair isn't the array's: it stands in a table, or has another key
abbrev IsNotOurs : List ℕ → List ℕ → Draft → Type 0
IsNotOurs key k root = ((vec_len root.levels == 0) && same_key k key) ≡ false

not_ours : (key k : List ℕ) (root : Draft) (doc : Document) → IsNotOurs key k root → Stands root doc → doc.1 ≡ [] → same_key k key ≡ false
not_ours key k root doc other stands none =
    let empty : (vec_len root.levels == 0) ≡ true = eq-eqb (vec_len root.levels) 0 (no_levels root doc none stands) in
    rw empty at other

both : (a b : Bool) → (a && b) ≡ true → (a ≡ true) × (b ≡ true)
both true b is = (refl, is)
both false b is = absurd (true≢false (sym is))

pub at_ours : (n : ℕ) (k key : List ℕ) → ((n == 0) && same_key k key) ≡ true → (n ≡ 0) × (k ≡ key)
at_ours n k key is =
    let (none, same) = both (n == 0) (same_key k key) is in
    (eqb-true n 0 none, same_is k key same)

put_inline : (holds : Items → Type 0) (key k text : List ℕ) (taken : Items) (old new : Draft) (doc : Document) (result : Result (Bor (List ℕ)) Unread) → holds taken
    → IsNotOurs key k old → IsInline key taken old doc → Puts Stands old new result k text → IsPut holds key k text new Inline doc result
put_inline holds key k text taken old new doc result h other i puts =
    let b = i.apart in
    let free : IsFree key b.path k =
    free_around key k b.path (subst (IsAround key) i.path i.around) (not_ours key k old (b.rest, b.path) other b.stands) in
    put_over holds key k text taken new Inline doc (b.rest, b.path) (Stands new) result h
    (λ d rest next read defined stands.
    let (after, now, apart, path, stays) = apart_put key k (value (array taken)) old new d doc b i.path free next defined stands in
    (after, now, record { apart = apart; path = path; around = subst (IsAround key) stays i.around; some = i.some })) (puts (b.rest, b.path) b.stands)

-- where no element is open
pub put_rest : (holds : Items → Type 0) (key k text : List ℕ) (taken : Items) (place : Place) (old new : Draft) (doc : Document) (result : Result (Bor (List ℕ)) Unread) → holds taken
    → ((element : Draft) → place ≡ Within element → ⊥) → IsNotOurs key k old → StandsAt key taken old place doc → Puts Stands old new result k text
    → IsPut holds key k text new place doc result
put_rest holds key k text taken Before old new doc result h none other at puts =
    put_before holds key k text taken old new doc result h (λ d rest read root same. absurd (true≢false (sym same ∙ not_ours key k old doc other at.1 root))) at puts
put_rest holds key k text taken (Within element) old new doc result h none other at puts = absurd (none element refl)
put_rest holds key k text taken Behind old new doc result h none other at puts = put_behind holds key k text taken old new doc result h at puts
put_rest holds key k text taken Inline old new doc result h none other at puts = put_inline holds key k text taken old new doc result h other at puts

-- the array that is one value
pub array_put : (key : List ℕ) (taken : Items) (root : Draft) (doc : Document) → doc.1 ≡ [] → Stands root (doc.0, []) → get_node key doc.0 ≡ None → AreSome taken
    → (next : Document) × (define doc (([], key), key_value (array taken)) ≡ Some next) × IsInline key taken root next
array_put key taken root doc at_root stands absent some =
    let x : Node = value (array taken) in
    let along : pair_edit doc key (array taken) ≡ Some (insert key x doc.0) =
    ap (λ p. along_header p (put ([], key) (array taken)) doc.0) at_root ∙ put_root key (array taken) doc.0 ∙ at_key_new key (key_value (array taken)) doc.0 absent in (
      (insert key x doc.0, doc.1),
      of_pair doc key (array taken) ∙ ap (option_map (λ root. (root, doc.1))) along,
      record {
        apart = record { rest = doc.0; path = []; stands = stands; absent = absent; is = refl };
        path = at_root;
        around = subst (IsAround key) (sym at_root) tt;
        some = some;
      },
    )

-- ---- over some elements that may have been taken

-- the document that is made stands, with the elements as they were
pub over : (holds : Items → Type 0) (key : List ℕ) (taken : Items) (root : Draft) (place : Place) (next : Option Document) → holds taken
    → (made : Document) × (next ≡ Some made) × StandsAt key taken root place made → (made : Document) × (next ≡ Some made) × StandsBy holds key root place made
over holds key taken root place next h made = (made.0, made.1, (taken, h, made.2))

pub on_ok_over : (holds : Items → Type 0) (key : List ℕ) (taken : Items) (root : Draft) (place : Place) (next : Option Document) (result : Result ⊤ Unread) → holds taken
    → OnOk result ((made : Document) × (next ≡ Some made) × StandsAt key taken root place made)
    → OnOk result ((made : Document) × (next ≡ Some made) × StandsBy holds key root place made)
on_ok_over holds key taken root place next result h made = on_ok_then result (over holds key taken root place next h) made

-- ---- the elements

-- the element that was open was taken
pub left_behind : (key : List ℕ) (old new : Items) (root element : Draft) (doc : Document) (ms : Members) → IsWithin key old root element doc
    → ((d : Document) → Stands element d → ms ≡ close d.0) → new ≡ push_item old (table ms) → IsBehind key new root doc.0
left_behind key old new root element doc ms w closes pushed = record {
  done = old;
  last = w.inner;
  apart = record { rest = w.rest; path = w.rest_path; stands = w.stands; absent = w.absent; is = ap (λ t. t.0) w.is };
  all = pushed ∙ ap (λ t. push_item old (table t)) (closes (w.inner, w.path) w.inside);
}

pub behind_left : (key : List ℕ) (taken : Items) (place : Place) (root : Draft) (doc : Document) → (place ≡ Before → ⊥) → (place ≡ Inline → ⊥) → IsLeft key taken root place doc → IsBehind key taken root doc.0
behind_left key taken Before root doc some lines left = absurd (some refl)
behind_left key taken (Within element) root doc some lines left = absurd left
behind_left key taken Behind root doc some lines left = left
behind_left key taken Inline root doc some lines left = absurd (lines refl)

-- the first element begins
pub first_begun : (key : List ℕ) (taken : Items) (root element : Draft) (doc : Document) → taken ≡ no_items → Stands root (doc.0, []) → get_node key doc.0 ≡ None
    → Stands element (no_nodes, []) → (next : Document) × (define doc (([], key), array_table) ≡ Some next) × IsWithin key taken root element next
first_begun key taken root element doc none stands absent empty =
    let n : Node = open_array taken no_nodes in
    let along : header_edit ([], key) array_table doc.0 ≡ Some (insert key n doc.0) =
    along_none (at_key key array_table) doc.0 ∙ at_key_new key array_table doc.0 absent ∙ ap (λ t. Some (insert key (open_array t no_nodes) doc.0)) (sym none) in (
      (insert key n doc.0, key ∷ []),
      of_array doc ([], key) ∙ ap (option_map (λ root. (root, key ∷ []))) along,
      record { rest = doc.0; rest_path = []; inner = no_nodes; path = []; stands = stands; absent = absent; inside = empty; is = refl },
    )

-- and the next
pub next_begun : (key : List ℕ) (taken : Items) (root element : Draft) (doc : Document) → IsBehind key taken root doc.0
    → Stands element (no_nodes, []) → (next : Document) × (define doc (([], key), array_table) ≡ Some next) × IsWithin key taken root element next
next_begun key taken root element doc b empty =
    let n : Node = open_array taken no_nodes in
    let rest = b.apart.rest in
    let along : header_edit ([], key) array_table doc.0 ≡ Some (insert key n rest) =
    ap (header_edit ([], key) array_table) b.apart.is ∙ along_none (at_key key array_table) (insert key (open_array b.done b.last) rest)
    ∙ next_in_array key b.done b.last rest ∙ ap (λ t. Some (insert key (open_array t no_nodes) rest)) (sym b.all) in (
      (insert key n rest, key ∷ []),
      of_array doc ([], key) ∙ ap (option_map (λ root. (root, key ∷ []))) along,
      record { rest = rest; rest_path = b.apart.path; inner = no_nodes; path = []; stands = b.apart.stands; absent = b.apart.absent; inside = empty; is = refl },
    )

some_elements : (key : List ℕ) (taken : Items) (ms : Members) → AreSome taken → with_member key (array taken) ms ≡ with_elements key taken ms
some_elements key no_items ms some = absurd some
some_elements key (item e es) ms some = refl

apart_closed : (key : List ℕ) (taken : Items) (x : Node) (root : Draft) (doc : Document) (ms : Members) → IsApart key x root doc.0 → close_node x ≡ array taken → AreSome taken
    → ((d : Document) → Stands root d → ms ≡ close d.0) → close doc.0 ≡ with_elements key taken ms
apart_closed key taken x root doc ms b same some closes =
    ap close b.is ∙ close-insert key x b.rest ∙ ap₂ (with_member key) same (sym (closes (b.rest, b.path) b.stands)) ∙ some_elements key taken ms some

-- the document, where no element is open
pub left_closed : (key : List ℕ) (taken : Items) (place : Place) (root : Draft) (doc : Document) (ms : Members) → IsLeft key taken root place doc
    → ((d : Document) → Stands root d → ms ≡ close d.0) → close doc.0 ≡ with_elements key taken ms
left_closed key taken Before root doc ms left closes = sym (closes doc left.1) ∙ ap (λ t. with_elements key t ms) (sym left.0)
left_closed key taken (Within element) root doc ms left closes = absurd left
left_closed key taken Behind root doc ms b closes =
    apart_closed key taken (open_array b.done b.last) root doc ms b.apart (ap array (sym b.all)) (subst AreSome (sym b.all) (push_some b.done (table (close b.last)))) closes
left_closed key taken Inline root doc ms i closes = apart_closed key taken (value (array taken)) root doc ms i.apart refl i.some closes

-- ---- what is left at the key

absent_lacks : (key : List ℕ) (taken : Items) (ms : Members) → get_member key ms ≡ None → LacksElements key taken ms
absent_lacks key no_items ms absent = ap has_elements absent
absent_lacks key (item d ds) ms absent = absent

apart_lacks : (key : List ℕ) (taken : Items) (x : Node) (root : Draft) (doc : Document) (ms : Members) → IsApart key x root doc.0
    → ((d : Document) → Stands root d → ms ≡ close d.0) → LacksElements key taken ms
apart_lacks key taken x root doc ms b closes =
    absent_lacks key taken ms (ap (get_member key) (closes (b.rest, b.path) b.stands) ∙ sym (close-get key b.rest) ∙ ap (option_map close_node) b.absent)

pub left_lacks : (key : List ℕ) (taken : Items) (place : Place) (root : Draft) (doc : Document) (ms : Members) → IsLeft key taken root place doc
    → ((d : Document) → Stands root d → ms ≡ close d.0) → LacksElements key taken ms
left_lacks key taken Before root doc ms left closes =
    subst (λ t. LacksElements key t ms) (sym left.0) (ap (λ m. has_elements (get_member key m)) (closes doc left.1) ∙ ap has_elements (sym (close-get key doc.0)) ∙ left.2)
left_lacks key taken (Within element) root doc ms left closes = absurd left
left_lacks key taken Behind root doc ms b closes = apart_lacks key taken (open_array b.done b.last) root doc ms b.apart closes
left_lacks key taken Inline root doc ms i closes = apart_lacks key taken (value (array taken)) root doc ms i.apart closes
