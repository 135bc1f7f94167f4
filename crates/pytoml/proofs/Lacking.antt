-- That no array with elements comes to stand at a key by edits elsewhere, nor by those that put no such array there.
use Rattle.std.proofs.Common.{◌≡◌, ℕ, Bool, true, false, List, ◌∷◌, Option, Some, None, option_map, refl, sym, ap, ◌∙◌}
use Rattle.std.proofs.lemmas.Bool.{true≢false}
use Rattle.toml.specs.Data.{Data, Items, no_items, item, array, push_item, same_key, table}
use Rattle.toml.specs.Tables.{Node, Nodes, no_nodes, implicit, dotted, header, open_table, open_array, value, insert, replace, get_node, close, close_node}
use Rattle.toml.specs.Tables.{Edit, header_node, by_header, along_header, at_found, at_key, redefine, new_node, Definition, std_table, array_table, key_value}
use Rattle.toml.proofs.NodeLaws.{get_node-insert, get_node-replace}
use Rattle.pytoml.specs.Elements.{has_elements}
use Rattle.pytoml.specs.Outline.{LacksArray}
use Rattle.pytoml.proofs.Others.{get_node-insert_other, get_node-replace_other, other_turned, same_is}
use Rattle.pytoml.proofs.Results.{made_of, none_made}

-- no array with elements
abbrev pub IsPlain : Node → Type 0
IsPlain x = has_elements (Some (close_node x)) ≡ false

abbrev node_elements : Option Node → Bool
node_elements o = has_elements (option_map close_node o)

pushed_elements : (done : Items) (d : Data) → has_elements (Some (array (push_item done d))) ≡ true
pushed_elements no_items d = refl
pushed_elements (item e es) d = refl

-- at this key an array of tables would be one
no_array : {P : Type 0} (key q : List ℕ) (done : Items) (last ns : Nodes) → same_key q key ≡ true → get_node q ns ≡ Some (open_array done last) → LacksArray key ns → P
no_array key q done last ns same found lacks =
    let here : get_node key ns ≡ Some (open_array done last) = ap (λ k. get_node k ns) (sym (same_is q key same)) ∙ found in
    absurd (true≢false (sym (pushed_elements done (table (close last))) ∙ ap node_elements (sym here) ∙ lacks))

-- ---- one node

lacks_inserted : (key k : List ℕ) (x : Node) (ns : Nodes) → (same_key k key ≡ true → IsPlain x) → LacksArray key ns → LacksArray key (insert k x ns)
lacks_inserted key k x ns plain lacks = by (same_key k key) refl
  where
    by : (b : Bool) → same_key k key ≡ b → LacksArray key (insert k x ns)
    by true same = ap node_elements (ap (λ l. get_node l (insert k x ns)) (sym (same_is k key same)) ∙ get_node-insert k x ns) ∙ plain same
    by false other = ap node_elements (get_node-insert_other key k x ns (other_turned k key other)) ∙ lacks

lacks_replaced : (key k : List ℕ) (x y : Node) (ns : Nodes) → get_node k ns ≡ Some x → (same_key k key ≡ true → IsPlain y) → LacksArray key ns → LacksArray key (replace k y ns)
lacks_replaced key k x y ns found plain lacks = by (same_key k key) refl
  where
    by : (b : Bool) → same_key k key ≡ b → LacksArray key (replace k y ns)
    by true same = ap node_elements (ap (λ l. get_node l (replace k y ns)) (sym (same_is k key same)) ∙ get_node-replace k y ns x found) ∙ plain same
    by false other = ap node_elements (get_node-replace_other key k y ns (other_turned k key other)) ∙ lacks

-- ---- edits

-- below a key, be it this one
pub lacks_along : (key q : List ℕ) (qs : List (List ℕ)) (e : Edit) (ns made : Nodes) → LacksArray key ns → along_header (q ∷ qs) e ns ≡ Some made → LacksArray key made
unfolding along_header
lacks_along key q qs e ns made lacks is = by (get_node q ns) refl is
  where
    new : (o : Option Nodes) → option_map (λ new. insert q (open_table implicit new) ns) o ≡ Some made → LacksArray key made
    new None is = none_made made is
    new (Some inner) is = made_of (LacksArray key) _ made is (lacks_inserted key q (open_table implicit inner) ns (λ same. refl) lacks)

    changed : (x : Node) (wrap : Nodes → Node) → get_node q ns ≡ Some x → ((inner : Nodes) → same_key q key ≡ true → IsPlain (wrap inner)) → (o : Option Nodes)
        → option_map (λ new. replace q new ns) (option_map wrap o) ≡ Some made → LacksArray key made
    changed x wrap found plain None is = none_made made is
    changed x wrap found plain (Some inner) is = made_of (LacksArray key) _ made is (lacks_replaced key q x (wrap inner) ns found (plain inner) lacks)

    through : (x : Node) → get_node q ns ≡ Some x → option_map (λ new. replace q new ns) (header_node (along_header qs e) x) ≡ Some made → LacksArray key made
    through (value d) found is = none_made made is
    through (open_table origin inner) found is = changed (open_table origin inner) (open_table origin) found (λ new same. refl) (along_header qs e inner) is
    through (open_array done last) found is =
        changed (open_array done last) (open_array done) found (λ new same. no_array key q done last ns same found lacks) (along_header qs e last) is

    by : (found : Option Node) → get_node q ns ≡ found → by_header q (along_header qs e) ns found ≡ Some made → LacksArray key made
    by None none is = new (along_header qs e no_nodes) is
    by (Some x) found is = through x found is

-- at a key; where it is this one, what is new there is no such array
pub lacks_at : (key k : List ℕ) (what : Definition) (ns made : Nodes) → (same_key k key ≡ true → IsPlain (new_node what)) → LacksArray key ns → at_key k what ns ≡ Some made → LacksArray key made
unfolding at_key
lacks_at key k what ns made plain lacks is = by (get_node k ns) refl is
  where
    again : (x y : Node) → get_node k ns ≡ Some x → (same_key k key ≡ true → IsPlain y) → Some (replace k y ns) ≡ Some made → LacksArray key made
    again x y found plain is = made_of (LacksArray key) _ made is (lacks_replaced key k x y ns found plain lacks)

    changed : (what : Definition) (x : Node) → get_node k ns ≡ Some x → option_map (λ new. replace k new ns) (redefine what x) ≡ Some made → LacksArray key made
    changed (key_value d) x found is = none_made made is
    changed std_table (value d) found is = none_made made is
    changed std_table (open_table implicit inner) found is = again (open_table implicit inner) (open_table header inner) found (λ same. refl) is
    changed std_table (open_table dotted inner) found is = none_made made is
    changed std_table (open_table header inner) found is = none_made made is
    changed std_table (open_array done last) found is = none_made made is
    changed array_table (value d) found is = none_made made is
    changed array_table (open_table origin inner) found is = none_made made is
    changed array_table (open_array done last) found is =
        again (open_array done last) (open_array (push_item done (table (close last))) no_nodes) found (λ same. no_array key k done last ns same found lacks) is

    by : (found : Option Node) → get_node k ns ≡ found → at_found k what ns found ≡ Some made → LacksArray key made
    by None none is = made_of (LacksArray key) _ made is (lacks_inserted key k (new_node what) ns plain lacks)
    by (Some x) found is = changed what x found is
