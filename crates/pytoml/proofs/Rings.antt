-- What headers and pairs do to the nodes of a document whose open tables are taken apart.
use Rattle.std.proofs.Common.{◌≡◌, ℕ, cond, List, [], ◌∷◌, ◌++◌, Option, Some, None, option_map, nat_cmp, Ordering, Less, Equal, Greater, refl, sym, ap, ◌∙◌}
use Rattle.std.specs.Ordering.{match_ordering}
use Rattle.std.specs.Cmp.Lexicographic.{slice_cmp}
use Rattle.std.proofs.lemmas.Option.{none-some}
use Rattle.toml.specs.Data.{Data, get_member}
use Rattle.toml.specs.Tables.{Node, Nodes, no_nodes, node, insert, get_node, replace, close, close_node, Edit, header_node, along_header}
use Rattle.toml.proofs.NodeLaws.{along_found, get_node-insert, replace-insert}
use Rattle.pytoml.specs.Members.{with_member}
use Rattle.pytoml.specs.Draft.{Opened, in_table, in_array, wrapped, Ring, plug, path_of}

-- ---- nodes and the members that they close to

pub match_through : {A B : Type 0} (f : A → B) (o : Ordering) (a b c : A) → f (match_ordering o a b c) ≡ match_ordering o (f a) (f b) (f c)
match_through f Less a b c = refl
match_through f Equal a b c = refl
match_through f Greater a b c = refl

pub close-insert : (k : List ℕ) (x : Node) (ns : Nodes) → close (insert k x ns) ≡ with_member k (close_node x) (close ns)
close-insert k x no_nodes = refl
close-insert k x (node l y ns) = match_through close (slice_cmp nat_cmp k l) _ _ _ ∙ rw (close-insert k x ns)

node_or : (o : Ordering) (x : Node) (rest : Option Node) (d : Option Data) → option_map close_node rest ≡ d
    → option_map close_node (match_ordering o rest (Some x) rest) ≡ match_ordering o d (Some (close_node x)) d
node_or Less x rest d e = e
node_or Equal x rest d e = refl
node_or Greater x rest d e = e

cond_is_match : {A : Type 0} (o : Ordering) (x rest : A) → cond (Rattle.std.specs.Ordering.is_eq o) x rest ≡ match_ordering o rest x rest
cond_is_match Less x rest = refl
cond_is_match Equal x rest = refl
cond_is_match Greater x rest = refl

pub close-get : (k : List ℕ) (ns : Nodes) → option_map close_node (get_node k ns) ≡ get_member k (close ns)
close-get k no_nodes = refl
close-get k (node l x ns) =
    ap (option_map close_node) (cond_is_match (slice_cmp nat_cmp k l) (Some x) (get_node k ns))
    ∙ node_or (slice_cmp nat_cmp k l) x (get_node k ns) _ (close-get k ns)

none_from_map : {A B : Type 0} (f : A → B) (o : Option A) → option_map f o ≡ None → o ≡ None
none_from_map f None h = refl
none_from_map f (Some x) h = absurd (none-some (f x) (sym h))

-- a key that the members don't have, the nodes don't have
pub absent_node : (k : List ℕ) (ns : Nodes) → get_member k (close ns) ≡ None → get_node k ns ≡ None
absent_node k ns none = none_from_map close_node (get_node k ns) (close-get k ns ∙ none)

-- ---- rings

pub plug-append : (rs qs : List Ring) (inner : Nodes) → plug (rs ++ qs) inner ≡ plug rs (plug qs inner)
plug-append [] qs inner = refl
plug-append (r ∷ rs) qs inner = ap (λ t. insert r.key (wrapped r.opened t) r.around) (plug-append rs qs inner)

header_node-wrapped : (o : Opened) (e : Edit) (inner : Nodes) → header_node e (wrapped o inner) ≡ option_map (wrapped o) (e inner)
header_node-wrapped (in_table origin) e inner = refl
header_node-wrapped (in_array done) e inner = refl

plug_step : (r : Ring) (rs : List Ring) (x : Node) (o : Option Nodes)
    → option_map (λ new. replace r.key new (insert r.key x r.around)) (option_map (wrapped r.opened) (option_map (plug rs) o))
    ≡ option_map (plug (r ∷ rs)) o
plug_step r rs x None = refl
plug_step r rs x (Some t) = ap Some (replace-insert r.key x (wrapped r.opened (plug rs t)) r.around)

-- a header that goes through the open tables works inside the innermost
pub along-plug : (rs : List Ring) (rest : List (List ℕ)) (e : Edit) (inner : Nodes)
    → along_header (path_of rs ++ rest) e (plug rs inner) ≡ option_map (plug rs) (along_header rest e inner)
along-plug [] rest e inner = map_id (along_header rest e inner)
  where
    map_id : (o : Option Nodes) → o ≡ option_map (plug []) o
    map_id None = refl
    map_id (Some x) = refl
along-plug (r ∷ rs) rest e inner =
    let x : Node = wrapped r.opened (plug rs inner) in
    along_found r.key (path_of rs ++ rest) e (insert r.key x r.around) x (get_node-insert r.key x r.around)
    ∙ ap (option_map (λ new. replace r.key new (insert r.key x r.around)))
    (header_node-wrapped r.opened (along_header (path_of rs ++ rest) e) (plug rs inner)
    ∙ ap (option_map (wrapped r.opened)) (along-plug rs rest e inner))
    ∙ plug_step r rs x (along_header rest e inner)
