-- Partners among items, and what is told where each item has one.
use Rattle.std.proofs.Common.{◌≡◌, ◌∙◌, ◌++◌, ℕ, ◌+◌, ◌<◌, Bool, true, false, List, [], ◌∷◌, length, get_or, map, take, Result, Ok, Err, IfOk, Vec, Global, refl, sym, ap, arith}
use Rattle.std.proofs.lemmas.List.{take_more}
use Rattle.pylock_compare.proofs.PartnerLemmas.{no_lone}
use Rattle.pylock_compare.specs.Counts.{count}
use Rattle.pylock_compare.specs.Partners.{where_true}
use Rattle.pylock_compare.specs.Texts.{Texts}
use Rattle.pylock_diff.specs.Changes.{name_changes, rest_changes}
use Rattle.pylock_diff.specs.Inner.Lent.{lent_item, lent_items}
use Rattle.pylock_diff.specs.Item.{ItemValue}
use Rattle.pylock_diff.specs.Partners.{item_key, row_texts, without_partners}
use Rattle.pylock_diff.specs.declared.item.Item.{Item}
use Rattle.pylock_shown.specs.Hidden.{hidden}

-- the keys of items that are lent
abbrev pub keys_of : List Item → List Texts
keys_of items = map item_key (lent_items items)

keys_push : (items : List Item) (one : Item) → keys_of (items ++ one ∷ []) ≡ keys_of items ++ item_key (lent_item one) ∷ []
keys_push [] one = refl
keys_push (item ∷ items) one = ap (λ more. item_key (lent_item item) ∷ more) (keys_push items one)

keys_front : (items : List Item) (i : ℕ) (one : Item) → i < length items → one ≡ get_or items i one
    → keys_of (take (i + 1) items) ≡ keys_of (take i items) ++ item_key (lent_item one) ∷ []
keys_front items i one within is =
    ap keys_of (take_more items i one within) ∙ ap (λ x. keys_of (take i items ++ x ∷ [])) (sym is) ∙ keys_push (take i items) one

-- the fronts of two lists have the same keys, with one item more
pub same_more : (olds news : List Item) (i : ℕ) (old new : Item) → i < length olds → old ≡ get_or olds i old → i < length news → new ≡ get_or news i new
    → (lent_item old).keys ≡ (lent_item new).keys → keys_of (take i olds) ≡ keys_of (take i news)
    → keys_of (take (i + 1) olds) ≡ keys_of (take (i + 1) news)
same_more olds news i old new within is capacity got same so_far =
    keys_front olds i old within is
    ∙ (λ j. so_far j ++ row_texts (same j) ∷ [])
    ∙ sym (keys_front news i new capacity got)

lent_where : (flags : List Bool) (items : List Item) → lent_items (where_true flags items) ≡ where_true flags (lent_items items)
lent_where [] items = refl
lent_where (flag ∷ flags) [] = refl
lent_where (true ∷ flags) (item ∷ items) = ap (λ more. lent_item item ∷ more) (lent_where flags items)
lent_where (false ∷ flags) (item ∷ items) = lent_where flags items

-- the items at whose places it is true, as they are lent
pub where_lent : {E : Type 0} (r : Result (Vec Item Global) E) (flags found : List Bool) (items : List Item) → flags ≡ found
    → IfOk r (λ list. list.items ≡ where_true flags items) → IfOk r (λ list. lent_items list.items ≡ where_true found (lent_items items))
where_lent (Ok list) flags found items same is = ap lent_items is ∙ lent_where flags items ∙ ap (λ flags. where_true flags (lent_items items)) same
where_lent (Err e) flags found items same is = tt

-- ---- where the keys are the same, one by one

each_has_one : (items others : List ItemValue) → map item_key items ≡ map item_key others → without_partners items others ≡ []
each_has_one items others same =
    no_lone item_key items (map item_key others)
    (λ k. let as_often : count k (map item_key items) ≡ count k (map item_key others) = ap (count k) same in omega arith)

pub same_untold : (name : List ℕ) (olds news : List ItemValue) → map item_key olds ≡ map item_key news → name_changes name olds news ≡ []
same_untold name [] [] same = refl
same_untold name [] (new ∷ news) same = cc
same_untold name (old ∷ olds) [] same = cc
same_untold name (old ∷ olds) (new ∷ news) same =
    λ i. rest_changes (hidden name) (each_has_one (old ∷ olds) (new ∷ news) same i) (each_has_one (new ∷ news) (old ∷ olds) (sym same) i)
