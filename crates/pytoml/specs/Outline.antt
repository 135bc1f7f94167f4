-- How a document from which the elements of one array of tables are handed out, at a key of the
-- root, stands to the nodes of TOML's rules. Only private clauses cite these words.
use Rattle.std.specs.Prelude.{◌≡◌, ℕ, List, [], ◌∷◌, false, None, option_map, ⊤}
use Rattle.toml_parser.specs.Strings.{Key}
use Rattle.toml.specs.Data.{Items, no_items, item, push_item, same_key, array, table}
use Rattle.toml.specs.Tables.{Document, Node, Nodes, close, close_node, get_node, insert}
use Rattle.toml.specs.Tables.{open_array, value}
use Rattle.pytoml.specs.Draft.{Stands}
use Rattle.pytoml.specs.Elements.{has_elements}
use Rattle.pytoml.specs.declared.draft.Draft.{Draft}
use Rattle.pytoml.specs.declared.outline.Place.{Place}
use Rattle.pytoml.specs.declared.outline.Place.TheVariants.{Before, Within, Behind, Inline}

-- the first part of a header's key
abbrev pub first_part : Key → List ℕ
first_part ([], last) = last
first_part (k ∷ path, last) = k

-- the path of a header that doesn't go through the key
abbrev pub IsOther : List ℕ → List (List ℕ) → Type 0
IsOther key [] = ⊥
IsOther key (k ∷ path) = same_key k key ≡ false

-- an element is open: the rest and the element have drafts of their own
pub record IsWithin (key : List ℕ) (taken : Items) (root element : Draft) (doc : Document)
    : Type 0 where
  pub rest : Nodes
  pub rest_path : List (List ℕ)
  pub inner : Nodes
  pub path : List (List ℕ)
  pub stands : Stands root (rest, rest_path)
  pub absent : get_node key rest ≡ None
  pub inside : Stands element (inner, path)
  pub is : doc ≡ (insert key (open_array taken inner) rest, key ∷ path)

-- this node stands at the key, beside all that the draft stands for
pub record IsApart (key : List ℕ) (x : Node) (root : Draft) (nodes : Nodes) : Type 0 where
  pub rest : Nodes
  pub path : List (List ℕ)
  pub stands : Stands root (rest, path)
  pub absent : get_node key rest ≡ None
  pub is : nodes ≡ insert key x rest

-- the last element of an array of tables was taken
pub record IsBehind (key : List ℕ) (taken : Items) (root : Draft) (nodes : Nodes) : Type 0 where
  pub done : Items
  pub last : Nodes
  pub apart : IsApart key (open_array done last) root nodes
  pub all : taken ≡ push_item done (table (close last))

-- the same, where the header that was read last leads elsewhere
abbrev pub IsElsewhere : List ℕ → Items → Draft → Document → Type 0
IsElsewhere key taken root doc =
    (behind : IsBehind key taken root doc.0) × (doc.1 ≡ behind.apart.path) × IsOther key doc.1

-- the path of the root, or of a header that doesn't go through the key
abbrev pub IsAround : List ℕ → List (List ℕ) → Type 0
IsAround key [] = ⊤
IsAround key (k ∷ path) = same_key k key ≡ false

-- there are some elements
abbrev pub AreSome : Items → Type 0
AreSome no_items = ⊥
AreSome (item d ds) = ⊤

-- the elements of an array that is one value were taken
pub record IsInline (key : List ℕ) (taken : Items) (root : Draft) (doc : Document) : Type 0 where
  pub apart : IsApart key (value (array taken)) root doc.0
  pub path : doc.1 ≡ apart.path
  pub around : IsAround key doc.1
  pub some : AreSome taken

-- no array that has elements stands at the key
abbrev pub LacksArray : List ℕ → Nodes → Type 0
LacksArray key nodes = has_elements (option_map close_node (get_node key nodes)) ≡ false

-- no element was met, and none taken
abbrev pub IsBefore : List ℕ → Items → Draft → Document → Type 0
IsBefore key taken root doc = (taken ≡ no_items) × Stands root doc × LacksArray key doc.0

-- a document, by the place that its reading has come to
abbrev pub StandsAt : List ℕ → Items → Draft → Place → Document → Type 0
StandsAt key taken root Before doc = IsBefore key taken root doc
StandsAt key taken root (Within element) doc = IsWithin key taken root element doc
StandsAt key taken root Behind doc = IsElsewhere key taken root doc
StandsAt key taken root Inline doc = IsInline key taken root doc

-- the same, where no element is open
abbrev pub IsLeft : List ℕ → Items → Draft → Place → Document → Type 0
IsLeft key taken root Before doc = IsBefore key taken root doc
IsLeft key taken root (Within element) doc = ⊥
IsLeft key taken root Behind doc = IsBehind key taken root doc.0
IsLeft key taken root Inline doc = IsInline key taken root doc

-- the same two, over some elements that may have been taken
abbrev pub StandsBy : (Items → Type 0) → List ℕ → Draft → Place → Document → Type 0
StandsBy holds key root place doc =
    (taken : Items) × holds taken × StandsAt key taken root place doc

abbrev pub LeftBy : (Items → Type 0) → List ℕ → Draft → Place → Document → Type 0
LeftBy holds key root place doc = (taken : Items) × holds taken × IsLeft key taken root place doc
