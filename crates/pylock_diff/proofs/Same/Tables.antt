-- A table by its keys and the codes of their values.
use Rattle.std.proofs.Common.{Ordering, Less, Equal, Greater, ◌≡◌, ◌∙◌, ℕ, true, false, List, [], ◌∷◌, inl, inr, Option, Some, refl, sym, ap}
use Rattle.std.proofs.lemmas.Bool.{cases_Bool, false≢true}
use Rattle.std.proofs.lemmas.Map.Text.{is_eq-slice_cmp}
use Rattle.std.specs.Cmp.Lexicographic.{bytes_decides, nat_list_cmp_total, slice_cmp}
use Rattle.std.specs.FinSet.{nat_cmp-IsAntisymmetric, slice_cmp-IsAntisymmetric}
use Rattle.std.specs.Ordering.{is_eq, is_lt, match_ordering, nat_cmp, ordering_reverse}
use Rattle.std.specs.Str.{bytes_eq}
use Rattle.toml.specs.Data.{Data, Members, get_member, is_before, member, no_members}
use Rattle.pylock_compare.specs.Rows.{values_at}
use Rattle.pytoml_code.specs.Code.{code}
use Rattle.pytoml_code.specs.Proper.{HasProper, IsProper, IfThere}
use Rattle.pytoml_code.proofs.CodeLemmas.{equal_codes}
use Rattle.pylock_diff.specs.Codes.{Rows, member_rows}
use Rattle.pylock_diff.specs.Partners.{row_texts}
use Rattle.pylock_diff.proofs.Same.Lists.{at_other, at_same, bytes_itself, heads, not_none, tails}

-- ---- the value at a key

found_by : (r : Ordering) (found : Option Data) (d : Data) → is_eq r ≡ true → match_ordering r found (Some d) found ≡ Some d
found_by Less found d is = absurd (false≢true is)
found_by Equal found d is = refl
found_by Greater found d is = absurd (false≢true is)

passed_by : (r : Ordering) (found : Option Data) (d : Data) → is_eq r ≡ false → match_ordering r found (Some d) found ≡ found
passed_by Less found d is = refl
passed_by Equal found d is = absurd (false≢true (sym is))
passed_by Greater found d is = refl

pub get_same : (key other : List ℕ) (d : Data) (ds : Members) → bytes_eq key other ≡ true → get_member key (member other d ds) ≡ Some d
get_same key other d ds is = found_by (slice_cmp nat_cmp key other) (get_member key ds) d (is_eq-slice_cmp key other ∙ is)

pub get_other : (key other : List ℕ) (d : Data) (ds : Members) → bytes_eq key other ≡ false → get_member key (member other d ds) ≡ get_member key ds
get_other key other d ds is = passed_by (slice_cmp nat_cmp key other) (get_member key ds) d (is_eq-slice_cmp key other ∙ is)

pub proper_at : (key : List ℕ) (ds : Members) → HasProper ds → IfThere IsProper (get_member key ds)
proper_at key no_members proper = tt
proper_at key (member l d ds) proper =
    elim (slice_cmp nat_cmp key l) as (λ r. IfThere IsProper (match_ordering r (get_member key ds) (Some d) (get_member key ds))) [
      | Less ↦ proper_at key ds proper.2
      | Equal ↦ proper.1
      | Greater ↦ proper_at key ds proper.2
    ]

-- a key that is there has a row
pub has_row : (key : List ℕ) (d : Data) (ds : Members) → get_member key ds ≡ Some d → values_at key (member_rows ds) ≡ [] → ⊥
has_row key d no_members there none = absurd cc
has_row key d (member l e ds) there none = elim (cases_Bool (bytes_eq key l)) [
  | inl is ↦ not_none (code e) (values_at key (member_rows ds)) (sym (at_same key l (code e) (member_rows ds) is) ∙ none)
  | inr other ↦ has_row key d ds (sym (get_other key l e ds other) ∙ there) (sym (at_other key l (code e) (member_rows ds) other) ∙ none)
]

-- ---- tables with the same keys and codes

pub same_texts : (ds es : Members) → HasProper ds → HasProper es → row_texts (member_rows ds) ≡ row_texts (member_rows es) → ds ≡ es
same_texts no_members no_members p q same = refl
same_texts no_members (member l e es) p q same = absurd cc
same_texts (member k d ds) no_members p q same = absurd cc
same_texts (member k d ds) (member l e es) p q same =
    let key : k ≡ l = cc in
    let one : code d ≡ code e = cc in
    let more : row_texts (member_rows ds) ≡ row_texts (member_rows es) = cc in
    let value = equal_codes d e p.1 q.1 one in
    let rest = same_texts ds es p.2 q.2 more in
    λ i. member (key i) (value i) (rest i)

-- ---- tables whose keys have the same values, one by one

less_from : (r : Ordering) → is_lt r ≡ true → r ≡ Less
less_from Less is = refl
less_from Equal is = absurd (false≢true is)
less_from Greater is = absurd (false≢true is)

before_rest : (key l : List ℕ) (ds : Members) → slice_cmp nat_cmp key l ≡ Less → is_before l ds ≡ true → is_before key ds ≡ true
before_rest key l no_members below before = refl
before_rest key l (member m d ds) below before =
    ap is_lt (nat_list_cmp_total.trans key l m below (less_from (slice_cmp nat_cmp l m) before))

-- no row has a key before all of them
absent : (key : List ℕ) (ds : Members) → HasProper ds → is_before key ds ≡ true → values_at key (member_rows ds) ≡ []
absent key no_members proper before = refl
absent key (member l d ds) proper before =
    let below = less_from (slice_cmp nat_cmp key l) before in
    at_other key l (code d) (member_rows ds) (sym (is_eq-slice_cmp key l) ∙ ap is_eq below)
    ∙ absent key ds proper.2 (before_rest key l ds below proper.0)

-- behind a key that both have, the other keys have the same values too
rest_same : (key : List ℕ) (c : List ℕ) (xs ys : Rows) → ((q : List ℕ) → values_at q ((key, c) ∷ xs) ≡ values_at q ((key, c) ∷ ys)) → (q : List ℕ) → values_at q xs ≡ values_at q ys
rest_same key c xs ys same q = elim (cases_Bool (bytes_eq q key)) [
  | inl is ↦ tails c c (values_at q xs) (values_at q ys) (sym (at_same q key c xs is) ∙ same q ∙ at_same q key c ys is)
  | inr other ↦ sym (at_other q key c xs other) ∙ same q ∙ at_other q key c ys other
]

pub same_rows : (ds es : Members) → HasProper ds → HasProper es → ((key : List ℕ) → values_at key (member_rows ds) ≡ values_at key (member_rows es)) → member_rows ds ≡ member_rows es
same_rows no_members no_members p q same = refl
same_rows no_members (member l e es) p q same =
    absurd (not_none (code e) (values_at l (member_rows es)) (sym (at_same l l (code e) (member_rows es) (bytes_itself l)) ∙ sym (same l)))
same_rows (member k d ds) no_members p q same =
    absurd (not_none (code d) (values_at k (member_rows ds)) (sym (at_same k k (code d) (member_rows ds) (bytes_itself k)) ∙ same k))
same_rows (member k d ds) (member l e es) p q same =
    elim (slice_cmp nat_cmp k l) as (λ r. slice_cmp nat_cmp k l ≡ r → (k, code d) ∷ member_rows ds ≡ (l, code e) ∷ member_rows es) [
      | Less ↦ λ below. absurd (not_none (code d) (values_at k (member_rows ds))
          (sym (at_same k k (code d) (member_rows ds) (bytes_itself k)) ∙ same k ∙ absent k (member l e es) q (ap is_lt below)))
      | Equal ↦ λ is. both (λ more. same_rows ds es p.2 q.2 more) (slice_cmp-IsAntisymmetric nat_cmp-IsAntisymmetric k l is)
      | Greater ↦ λ above. absurd (not_none (code e) (values_at l (member_rows es))
          (sym (at_same l l (code e) (member_rows es) (bytes_itself l)) ∙ sym (same l)
          ∙ absent l (member k d ds) p (ap is_lt (nat_list_cmp_total.antisymm l k ∙ ap ordering_reverse above))))
    ] refl
  where
    both : (((key : List ℕ) → values_at key (member_rows ds) ≡ values_at key (member_rows es)) → member_rows ds ≡ member_rows es) → k ≡ l → (k, code d) ∷ member_rows ds ≡ (l, code e) ∷ member_rows es
    both others key =
        let one : code d ≡ code e = heads (code d) (code e) (values_at k (member_rows ds)) (values_at k (member_rows es))
        (sym (at_same k k (code d) (member_rows ds) (bytes_itself k)) ∙ same k ∙ at_same k l (code e) (member_rows es) ((bytes_decides k l).1 key)) in
        let rest = others (rest_same k (code d) (member_rows ds) (member_rows es)
        (λ q. same q ∙ (λ i. values_at q ((sym key i, sym one i) ∷ member_rows es)))) in
        λ i. (key i, one i) ∷ rest i
