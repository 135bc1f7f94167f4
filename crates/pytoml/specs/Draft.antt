-- How the tables of a document that is being read stand to the nodes of TOML's rules. Only private
-- clauses cite these words.
use Rattle.std.specs.Prelude.{◌≡◌, ℕ, suc, ◌+◌, ◌<◌, length, List, [], ◌∷◌, ◌++◌, map, take, drop}
use Rattle.std.specs.Prelude.{Some, None, ⊤, option_map, option_and_then}
use Rattle.std.specs.Prelude.{Result, IfOk, OnOk, string_bytes}
use Rattle.std.specs.Borrow.{Bor}
use Rattle.toml_parser.specs.Lexical.{Read, right_bracket}
use Rattle.toml_parser.specs.Strings.{recursion_limit}
use Rattle.toml.specs.Data.{Data, table, array, Items, Members, push_item}
use Rattle.toml.specs.Parse.{header_key, after_byte, lines, skip_bom, val}
use Rattle.toml.specs.Tables.{Origin, Node, Nodes, no_nodes, open_table, open_array, insert}
use Rattle.toml.specs.Tables.{get_node, close, Edit, along_header, array_table, Document}
use Rattle.toml.specs.Tables.{Expression, define, key_value}
use Rattle.toml.specs.View.{array_view, table_view}
use Rattle.pytoml.specs.Members.{with_member}
use Rattle.pytoml.specs.declared.draft.Draft.{Draft}
use Rattle.pytoml.specs.declared.draft.Kind.{Kind}
use Rattle.pytoml.specs.declared.draft.Kind.TheVariants.{Table, Element}
use Rattle.pytoml.specs.declared.draft.Level.{Level}
use Rattle.pytoml.specs.declared.fault.Unread.{Unread}

-- ---- the nodes, with the tables that are open taken apart

-- how an open table stands at its key: as a table of some origin, or as the last element of an
-- array of tables, behind these
pub data Opened : Type 0 where
  in_table : Origin → Opened
  in_array : Items → Opened

abbrev pub wrapped : Opened → Nodes → Node
wrapped (in_table origin) inner = open_table origin inner
wrapped (in_array done) inner = open_array done inner

-- the nodes around an open table
pub record Ring : Type 0 where
  pub around : Nodes
  pub key : List ℕ
  pub opened : Opened

-- the nodes of the root, from the rings around an open table and its nodes
abbrev pub plug : List Ring → Nodes → Nodes
plug [] inner = inner
plug (r ∷ rs) inner = insert r.key (wrapped r.opened (plug rs inner)) r.around

-- the keys of the open tables
abbrev pub path_of : List Ring → List (List ℕ)
path_of rs = map (λ r. r.key) rs

-- ---- the draft of a document

-- an open table stands as the code has it
abbrev pub IsKind : Kind → Opened → Type 0
IsKind Table (in_table origin) = ⊤
IsKind Table (in_array items) = ⊥
IsKind (Element done) (in_table origin) = ⊥
IsKind (Element done) (in_array items) = items ≡ array_view done

pub record IsLevel (l : Level) (r : Ring) : Type 0 where
  pub around : close r.around ≡ table_view l.around
  pub key : r.key ≡ string_bytes l.key
  pub kind : IsKind l.kind r.opened

abbrev pub AreLevels : List Level → List Ring → Type 0
AreLevels [] [] = ⊤
AreLevels [] (r ∷ rs) = ⊥
AreLevels (l ∷ ls) [] = ⊥
AreLevels (l ∷ ls) (r ∷ rs) = IsLevel l r × AreLevels ls rs

-- the draft has what these rings and nodes close to
pub record IsDraft (d : Draft) (rings : List Ring) (inner : Nodes) : Type 0 where
  pub levels : AreLevels d.levels.items rings
  pub table : close inner ≡ table_view d.table

-- the draft stands for a document, and its last header is the innermost open table
abbrev pub Stands : Draft → Document → Type 0
Stands d doc =
    (rings : List Ring) × (inner : Nodes) × IsDraft d rings inner
    × (doc ≡ (plug rings inner, path_of rings))

-- ---- what the steps do

-- what lines are added to stands for the document with this expression added
abbrev pub Defines : {D : Type 0} → (D → Document → Type 0) → D → D → Result ⊤ Unread → Expression
    → Type 0
Defines stands old new result e =
    (doc : Document) → stands old doc
    → OnOk result ((next : Document) × (define doc e ≡ Some next) × stands new next)

-- an expression was read, and it stands for the document with that added
abbrev pub Adds : {D : Type 0} → (D → Document → Type 0) → D → D → Result (Bor (List ℕ)) Unread
    → Read Expression → Type 0
Adds stands old new result expected =
    (doc : Document) → stands old doc
    → IfOk result (λ rest. (e : Expression) × (next : Document)
    × (expected ≡ Some (e, rest.now)) × (define doc e ≡ Some next) × stands new next)

-- the value of a pair was read, and it stands for the document with that pair added
abbrev pub Puts : {D : Type 0} → (D → Document → Type 0) → D → D → Result (Bor (List ℕ)) Unread
    → List ℕ → List ℕ → Type 0
Puts stands old new result key text =
    (doc : Document) → stands old doc
    → IfOk result (λ rest. (d : Data) × (next : Document)
    × (val recursion_limit text ≡ Some (d, rest.now))
    × (define doc (([], key), key_value d) ≡ Some next) × stands new next)

-- the lines of the text make this document
abbrev pub IsDocument : List ℕ → Document → Type 0
IsDocument text doc = lines (suc (length text)) (no_nodes, []) (skip_bom text) ≡ Some doc

-- the rest of a header in double brackets
abbrev pub array_header : List ℕ → Read Expression
array_header text =
    option_and_then
    (λ k. option_map (λ rest. ((k.0, array_table), rest)) (after_byte right_bracket k.1))
    (header_key text)

abbrev pub key_of : Level → List ℕ
key_of l = string_bytes l.key

-- behind so many levels stands one of this key
abbrev pub HasKey : List Level → ℕ → List ℕ → Type 0
HasKey levels at key =
    (at < length levels)
    × (take (at + 1) (map key_of levels) ≡ take at (map key_of levels) ++ key ∷ [])

-- the document is the same, with so many tables open
abbrev pub Kept : Draft → Draft → Result ⊤ Unread → ℕ → Type 0
Kept old new result count =
    (rings : List Ring) (inner : Nodes) → IsDraft old rings inner
    → OnOk result ((fewer : List Ring) × (outside : Nodes) × IsDraft new fewer outside
    × (plug fewer outside ≡ plug rings inner) × (path_of fewer ≡ take count (path_of rings)))

-- what an open table is once it is put away
abbrev pub Closes : Kind → Members → Data → Type 0
Closes Table inner d = d ≡ table inner
Closes (Element done) inner d = d ≡ array (push_item (array_view done) (table inner))

-- the table was put into what stands around it
abbrev pub IsClosed : Level → Members → Members → Type 0
IsClosed l inner outside =
    (d : Data) × Closes l.kind inner d × (outside ≡ with_member (key_of l) d (table_view l.around))

-- a new table is open at this key of the innermost one
abbrev pub Opens : Draft → Draft → Result ⊤ Unread → List ℕ → Kind → Type 0
Opens old new result key kind =
    (rings : List Ring) (inner : Nodes) (opened : Opened)
    → IsDraft old rings inner → IsKind kind opened
    → OnOk result ((get_node key inner ≡ None)
    × IsDraft new (rings ++ record { around = inner; key = key; opened = opened } ∷ []) no_nodes)

-- new tables are open at the keys of the path from a place on, as a header makes them
abbrev pub OpensPath : Draft → Draft → Result ⊤ Unread → List (List ℕ) → ℕ → Type 0
OpensPath old new result path from =
    (rings : List Ring) (inner : Nodes) → IsDraft old rings inner
    → OnOk result ((more : List Ring) × (top : Nodes) × IsDraft new more top
    × (path_of more ≡ path_of rings ++ drop from path)
    × ((edit : Edit) → option_map (plug rings) (along_header (drop from path) edit inner)
    ≡ option_map (plug more) (edit top)))

-- the level has one element more
abbrev pub HasMore : Level → Members → Level → Type 0
HasMore old element new =
    (r : Ring) → IsLevel old r
    → (done : Items) × (r.opened ≡ in_array done)
    × IsLevel new (record r { opened = in_array (push_item done (table element)) })

-- the innermost open table, an element of an array of tables, has ended, and the next has begun
abbrev pub Turns : Draft → Draft → Result ⊤ Unread → Type 0
Turns old new result =
    (rings : List Ring) (inner : Nodes) → IsDraft old rings inner
    → OnOk result ((front : List Ring) × (r : Ring) × (done : Items)
    × (rings ≡ front ++ r ∷ []) × (r.opened ≡ in_array done)
    × IsDraft new
    (front ++ record r { opened = in_array (push_item done (table (close inner))) } ∷ []) no_nodes)
