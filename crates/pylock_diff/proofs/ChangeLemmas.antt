-- What is told where OLD and NEW are the same.
use Rattle.std.proofs.Common.{◌≡◌, ◌++◌, ℕ, true, not, List, [], ◌∷◌, map, None, Option, Some, option_map, refl, ap, arith}
use Rattle.std.specs.List.{filter}
use Rattle.pylock_core.specs.Session.State.{State}
use Rattle.pylock_core.specs.declared.answer.Answer.TheVariants.{Plan}
use Rattle.pylock_core.specs.declared.answer.Pick.{Pick}
use Rattle.pylock_compare.proofs.PartnerLemmas.{no_lone}
use Rattle.pylock_compare.specs.Rows.{Row, in_order, names_of, values_at}
use Rattle.pylock_diff.specs.Change.{change_of, told_where}
use Rattle.pylock_diff.specs.Changes.{answer_changes, item_changes, lock_changes, name_changes, rest_changes, shared_changes}
use Rattle.pylock_diff.specs.Compared.{ComparedValue}
use Rattle.pylock_diff.specs.Head.{HeadKey, first, have_same_value, head_changes, head_rows, is_list_key, key_change, list_keys}
use Rattle.pylock_diff.specs.Item.{ItemValue, entry_items, pick_items}
use Rattle.pylock_diff.specs.Partners.{item_key, without_partners}
use Rattle.pylock_diff.specs.declared.change.ChangeKind.TheVariants.{Head}
use Rattle.pylock_shown.specs.Hidden.{hidden}
use Rattle.pylock_diff.proofs.Same.Lists.{bytes_itself, none_under, nothing}

-- ---- names

-- each item is the partner of itself
pub no_rest : (items : List ItemValue) → without_partners items items ≡ []
no_rest items = no_lone item_key items (map item_key items) (λ k. omega arith)

pub shared_itself : (name : List ℕ) (items : List ItemValue) → shared_changes name items items ≡ []
shared_itself name items = λ i. rest_changes name (no_rest items i) (no_rest items i)

pub name_itself : (name : List ℕ) (items : List ItemValue) → name_changes name items items ≡ []
name_itself name [] = refl
name_itself name (item ∷ items) = shared_itself (hidden name) (item ∷ items)

pub items_itself : (rows : List (Row ItemValue)) → item_changes rows rows ≡ []
items_itself rows = none_under name_changes rows rows (λ name. name_itself name (values_at name rows))

-- ---- the head

same_value : (one : Option HeadKey) → have_same_value one one ≡ true
same_value None = refl
same_value (Some one) = bytes_itself one.code

value_itself : (key : List ℕ) (one : Option HeadKey) → key_change key one one ≡ []
value_itself key one =
    ap (λ same. told_where (not same) (change_of Head (hidden key) (option_map (λ (k : HeadKey). k.text) one) (option_map (λ (k : HeadKey). k.text) one))) (same_value one)

key_itself : (rows : List (Row HeadKey)) (key : List ℕ) → key_change key (first (values_at key rows)) (first (values_at key rows)) ≡ []
key_itself rows key = value_itself key (first (values_at key rows))

pub head_itself : (head : List HeadKey) → head_changes head head ≡ []
head_itself head =
    let rows = head_rows head in
    let others = filter (λ key. not (is_list_key key)) (in_order (names_of rows ++ names_of rows)) in
    let one = λ (key : List ℕ). key_change key (first (values_at key rows)) (first (values_at key rows)) in
    λ i. nothing one (key_itself rows) list_keys i ++ nothing one (key_itself rows) others i

-- ---- locks and plans

pub lock_itself : (lock : ComparedValue) → lock_changes lock lock ≡ []
lock_itself lock = λ i. head_itself lock.head i ++ items_itself (entry_items lock.lock.entries lock.entries) i

pub plan_itself : (state : State) (picks : List Pick) → answer_changes state state (Plan picks) (Plan picks) ≡ []
plan_itself state picks = items_itself (pick_items state picks)
