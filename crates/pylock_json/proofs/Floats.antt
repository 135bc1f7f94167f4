-- What is made of parts without floats has none.
use Rattle.std.proofs.Common.{◌≡◌, ℕ, false, List, [], ◌∷◌, ◌++◌, refl, Less, Equal, Greater}
use Rattle.std.proofs.lemmas.Bool.{or_from, or_parts}
use Rattle.std.proofs.lemmas.List.Elements.{All-head, All-tail}
use Rattle.std.specs.Prelude.{All, Some, None}
use Rattle.std.specs.Cmp.Lexicographic.{slice_cmp}
use Rattle.std.specs.Ordering.{match_ordering, nat_cmp}
use Rattle.std.specs.declared.cmp.Ordering.{Ordering}
use Rattle.pylock_json.specs.Json.{HasNone, Row, items_of, list_of, object_of, texts_of, with_row, with_rows}
use Rattle.serde_json.specs.Data.{Data, Members, no_members, member, put}
use Rattle.serde_json.specs.View.{items_view, view}
use Rattle.serde_json.specs.Written.{has_float, items_have_float, members_have_float}
use Rattle.serde_json.specs.declared.value.Value.{Value}

ordered : (o : Ordering) (a b c : Members) → members_have_float a ≡ false
    → members_have_float b ≡ false → members_have_float c ≡ false
    → members_have_float (match_ordering o a b c) ≡ false
ordered Less a b c ha hb hc = ha
ordered Equal a b c ha hb hc = hb
ordered Greater a b c ha hb hc = hc

-- a value is put at a key
pub put_has_none : (k : List ℕ) (d : Data) (ms : Members) → has_float d ≡ false
    → members_have_float ms ≡ false → members_have_float (put k d ms) ≡ false
put_has_none k d no_members value members = or_from (has_float d) false value refl
put_has_none k d (member l e ms) value members =
    let (first, rest) = or_parts (has_float e) (members_have_float ms) members in
    ordered (slice_cmp nat_cmp k l) (member k d (member l e ms)) (member l d ms)
    (member l e (put k d ms))
    (or_from (has_float d) (members_have_float (member l e ms)) value members)
    (or_from (has_float d) (members_have_float ms) value rest)
    (or_from (has_float e) (members_have_float (put k d ms)) first (put_has_none k d ms value rest))

-- a value is pushed after a list
pub push_has_none : (vs : List Value) (v : Value) → items_have_float (items_view vs) ≡ false
    → has_float (view v) ≡ false → items_have_float (items_view (vs ++ v ∷ [])) ≡ false
push_has_none [] v items value = or_from (has_float (view v)) false value refl
push_has_none (first ∷ vs) v items value =
    let (one, rest) = or_parts (has_float (view first)) _ items in
    or_from (has_float (view first)) _ one (push_has_none vs v rest value)

-- a row is put, and rows are
row_has_none : (row : Row) (ms : Members) → HasNone row → members_have_float ms ≡ false
    → members_have_float (with_row row ms) ≡ false
row_has_none (k, None) ms value members = members
row_has_none (k, Some d) ms value members = put_has_none k d ms value members

pub rows_have_none : (rows : List Row) (ms : Members) → All HasNone rows
    → members_have_float ms ≡ false → members_have_float (with_rows rows ms) ≡ false
rows_have_none [] ms values members = members
rows_have_none (row ∷ rows) ms values members =
    rows_have_none rows (with_row row ms) (All-tail HasNone row rows values)
    (row_has_none row ms (All-head HasNone row rows values) members)

pub object_has_none : (rows : List Row) → All HasNone rows → has_float (object_of rows) ≡ false
object_has_none rows values = rows_have_none rows no_members values refl

pub list_has_none : (ds : List Data) → All (λ d. has_float d ≡ false) ds
    → has_float (list_of ds) ≡ false
list_has_none [] values = refl
list_has_none (d ∷ ds) values =
    or_from (has_float d) (items_have_float (items_of ds)) (All-head (λ (x : Data). has_float x ≡ false) d ds values)
    (list_has_none ds (All-tail (λ (x : Data). has_float x ≡ false) d ds values))

pub texts_have_none : (texts : List (List ℕ)) → has_float (texts_of texts) ≡ false
texts_have_none [] = refl
texts_have_none (text ∷ texts) = texts_have_none texts

pub ruleset made = (object_has_none, list_has_none, texts_have_none)
