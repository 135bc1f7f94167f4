-- A table as a map of its entries, and as the members that it stands for.
use Rattle.std.proofs.Common.{◌≡◌, ℕ, false, nat_cmp, is_some, List, [], ◌∷◌, Option, Some, None, option_map, String, Global, BTreeMap, string_bytes, refl, sym, ap, ◌∙◌}
use Rattle.std.specs.String.{string_cmp}
use Rattle.std.proofs.lemmas.Bool.{true≢false}
use Rattle.std.specs.BTreeMap.{insert_entry, is_at, get}
use Rattle.std.specs.Cmp.Lexicographic.{slice_cmp}
use Rattle.std.specs.Map.{lookup}
use Rattle.toml.specs.Data.{Data, Members, get_member}
use Rattle.toml.specs.Tables.{Nodes, close, insert, put, value, key_value}
use Rattle.toml.specs.View.{view, members_view, table_view}
use Rattle.toml.specs.declared.value.Value.{Value}
use Rattle.toml.proofs.Views.{Entry, view-lookup}
use Rattle.toml.proofs.Turns.{at_key_new}
use Rattle.pytoml.specs.Members.{with_member}
use Rattle.pytoml.proofs.Rings.{absent_node, close-insert, match_through}

-- what an insert leaves in the members
pub members_view-insert_entry : (es : List Entry) (k : String Global) (v : Value) → members_view (insert_entry string_cmp es k v) ≡ with_member (string_bytes k) (view v) (members_view es)
members_view-insert_entry [] k v = refl
members_view-insert_entry (e ∷ es) k v = match_through members_view (string_cmp k e.0) _ _ _ ∙ rw (members_view-insert_entry es k v)

-- what an insert found
pub get_member-get : (k : String Global) (m : BTreeMap (String Global) Value) (found : Option Value) → found ≡ get string_cmp m k → option_map view found ≡ get_member (string_bytes k) (table_view m)
get_member-get k m found e = ap (option_map view) e ∙ view-lookup (string_bytes k) m.entries

-- a pair at a key that a table has not
pub put-new : (k : List ℕ) (d : Data) (ns : Nodes) (ms next : Members) → close ns ≡ ms → get_member k ms ≡ None → next ≡ with_member k d ms
    → (put ([], k) d ns ≡ Some (insert k (value d) ns)) × (close (insert k (value d) ns) ≡ next)
unfolding Rattle.toml.specs.Tables.along_dots
put-new k d ns ms next seen none written = (
  at_key_new k (key_value d) ns (absent_node k ns (ap (get_member k) seen ∙ none)),
  close-insert k (value d) ns ∙ ap (with_member k d) seen ∙ sym written,
)

none_found : (o : Option Value) → is_some o ≡ false → option_map view o ≡ None
none_found None h = refl
none_found (Some v) h = absurd (true≢false h)

-- a key that a table doesn't have
pub absent_key : (k : List ℕ) (es : List Entry) → is_some (lookup (is_at (λ x. slice_cmp nat_cmp k (string_bytes x))) es) ≡ false → get_member k (members_view es) ≡ None
absent_key k es none = sym (view-lookup k es) ∙ none_found _ none
