-- Entries without a partner: where nothing is told of any of their keys, there is none.
use Rattle.std.proofs.Common.{◌≡◌, ◌∙◌, ℕ, ◌<◌, Bool, true, false, codes, List, [], ◌∷◌, map, refl, sym, ap, subst, arith}
use Rattle.std.specs.List.{AllByRecursion}
use Rattle.toml.specs.Data.{Members}
use Rattle.pylock_compare.specs.Counts.{count}
use Rattle.pylock_compare.specs.Partners.{are_alone, where_true}
use Rattle.pylock_compare.specs.Rows.{values_at}
use Rattle.pylock_compare.proofs.PartnerLemmas.{first_alone}
use Rattle.pytoml_code.specs.Proper.{HasProper}
use Rattle.pylock_diff.specs.Codes.{member_rows}
use Rattle.pylock_diff.specs.Item.{ItemValue}
use Rattle.pylock_diff.specs.Keys.{placed_rows}
use Rattle.pylock_diff.specs.Partners.{item_key, row_texts, without_partners}
use Rattle.pylock_diff.proofs.Same.Places.{first_none, first_same}
use Rattle.pylock_diff.proofs.Same.Tables.{same_rows}

-- an item of an entry's table, which has a name
pub record IsOfTable (item : ItemValue) : Type 0 where
  pub members : Members
  pub proper : HasProper members
  pub keys : item.keys ≡ member_rows members
  pub named : values_at (codes "name") item.keys ≡ [] → ⊥

pub kept : {V : Type 0} (P : V → Type 0) (bs : List Bool) (vs : List V) → AllByRecursion P vs → AllByRecursion P (where_true bs vs)
kept P [] vs all = tt
kept P (b ∷ bs) [] all = tt
kept P (true ∷ bs) (v ∷ vs) all = (all.0, kept P bs vs all.1)
kept P (false ∷ bs) (v ∷ vs) all = kept P bs vs all.1

-- the same values at each key, place by place
abbrev pub AreSame : List ItemValue → List ItemValue → Type 0
AreSame olds news =
    (key : List ℕ) → values_at key (placed_rows false 0 olds) ≡ values_at key (placed_rows false 0 news)

same_keys : (old new : ItemValue) → IsOfTable old → IsOfTable new → ((key : List ℕ) → values_at key old.keys ≡ values_at key new.keys) → item_key old ≡ item_key new
same_keys old new one other same =
    ap row_texts (one.keys ∙ same_rows one.members other.members one.proper other.proper (λ key. ap (values_at key) (sym one.keys) ∙ same key ∙ ap (values_at key) other.keys) ∙ sym other.keys)

none_left : (olds news rest others : List ItemValue) → without_partners olds news ≡ rest → without_partners news olds ≡ others → AllByRecursion IsOfTable rest → AllByRecursion IsOfTable others
    → AreSame rest others → rest ≡ []
none_left olds news [] others left right all too same = refl
none_left olds news (old ∷ rest) [] left right all too same =
    absurd (all.0.named (first_none false old rest (codes "name") (same (codes "name"))))
none_left olds news (old ∷ rest) (new ∷ others) left right all too same =
    let key : item_key old ≡ item_key new = same_keys old new all.0 too.0 (λ key. first_same false old new rest others key (same key)) in
    let fewer = first_alone item_key olds (map item_key news) old rest left in
    let less = first_alone item_key news (map item_key olds) new others right in
    let more : count (item_key old) (map item_key olds) < count (item_key old) (map item_key news) = subst (λ k. count k (map item_key olds) < count k (map item_key news)) (sym key) less in
    absurd (omega arith)

pub no_rest : (olds news : List ItemValue) → AllByRecursion IsOfTable olds → AllByRecursion IsOfTable news → AreSame (without_partners olds news) (without_partners news olds) → without_partners olds news ≡ []
no_rest olds news all too same =
    none_left olds news (without_partners olds news) (without_partners news olds) refl refl
    (kept IsOfTable (are_alone (map item_key olds) (map item_key news)) olds all)
    (kept IsOfTable (are_alone (map item_key news) (map item_key olds)) news too) same
