-- Lemmas on tables of a TOML document, out of which values are taken.
use Rattle.std.proofs.Common.{◌≡◌, ◌∙◌, ℕ, Bool, true, false, List, [], ◌∷◌, Option, Some, None, Ordering, Less, Equal, Greater, String, Global, string_bytes, nat_cmp, is_eq, option_map, refl, ap, sym, inl, inr}
use Rattle.std.proofs.lemmas.Bool.{cases_Bool, cond-true, cond-false, false≢true}
use Rattle.std.proofs.lemmas.Map.Text.{is_eq-slice_cmp}
use Rattle.std.proofs.lemmas.Option.{none-some}
use Rattle.std.proofs.lemmas.Slice.Eq.{bytes_eq-Decides}
use Rattle.std.specs.BTreeMap.{is_at}
use Rattle.std.specs.Cmp.Lexicographic.{slice_cmp}
use Rattle.std.specs.Map.{lookup, set_value}
use Rattle.std.specs.Ordering.{match_ordering}
use Rattle.toml.proofs.Views.{view-Boolean, view-lookup}
use Rattle.toml.specs.Data.{Members, no_members, member, boolean, get_member, same_key}
use Rattle.toml.specs.View.{view, members_view}
use Rattle.toml.specs.declared.value.Value.{Value, Boolean}
use Rattle.pylock_readers.specs.Inner.Tables.{table_without}

-- the value that was taken out of a table is the member of the key
pub taken_member : (taken : Option Value) (key : List ℕ) (es : List (String Global × Value))
    → taken ≡ lookup (is_at (λ k. slice_cmp nat_cmp key (string_bytes k))) es
    → option_map view taken ≡ get_member key (members_view es)
taken_member taken key es found = ap (option_map view) found ∙ view-lookup key es

-- keys that are the same are equal
pub same_key_is : (k l : List ℕ) → same_key k l ≡ true → k ≡ l
same_key_is k l same = (bytes_eq-Decides k l).0 (sym (is_eq-slice_cmp k l) ∙ same)

-- a comparison that finds no tie chooses between equals
same_both : {A : Type 0} (o : Ordering) (x y : A) → is_eq o ≡ false → match_ordering o x y x ≡ x
same_both Less x y other = refl
same_both Equal x y other = absurd (false≢true (sym other))
same_both Greater x y other = refl

-- a look-up that finds nothing changes nothing
set_none : {K X : Type 0} (test : K → Bool) (es : List (K × X)) (w : X) → lookup test es ≡ None → set_value test es w ≡ es
set_none test [] w none = refl
set_none test (e ∷ es) w none =
    elim (cases_Bool (test e.0)) [
      | inl found ↦ absurd (none-some e.1 (sym none ∙ cond-true _ _ _ found))
      | inr other ↦ rw other (ap (λ rest. e ∷ rest) (set_none test es w (sym (cond-false _ _ _ other) ∙ none)))
    ]

-- what is left where a value was taken out
pub left_behind : (key : List ℕ) (es : List (String Global × Value))
    → members_view (set_value (is_at (λ k. slice_cmp nat_cmp key (string_bytes k))) es (Boolean false)) ≡ table_without key (members_view es)
unfolding table_without
left_behind key [] = refl
left_behind key (e ∷ es) =
    elim (cases_Bool (same_key key (string_bytes e.0))) [
      | inl same ↦ rw (same, view-Boolean)
      | inr other ↦ rw (other, left_behind key es)
    ]

-- the same where there was none
pub nothing_left : (key : List ℕ) (es : List (String Global × Value)) → lookup (is_at (λ k. slice_cmp nat_cmp key (string_bytes k))) es ≡ None
    → members_view es ≡ table_without key (members_view es)
nothing_left key es none = ap members_view (sym (set_none (is_at (λ k. slice_cmp nat_cmp key (string_bytes k))) es (Boolean false) none)) ∙ left_behind key es

-- what a key has where nothing is taken
pub ruleset taken = (taken_member, nothing_left)

-- the other keys have what they had
pub kept : (other key : List ℕ) (ms : Members) → same_key other key ≡ false → get_member other (table_without key ms) ≡ get_member other ms
unfolding table_without
kept other key no_members differs = refl
kept other key (member k d ms) differs =
    elim (cases_Bool (same_key key k)) [
      | inl same ↦
          let apart : is_eq (slice_cmp nat_cmp other k) ≡ false = ap (same_key other) (sym (same_key_is key k same)) ∙ differs in
          let there = same_both (slice_cmp nat_cmp other k) (get_member other ms) in
          rw same (there (Some (boolean false)) apart ∙ sym (there (Some d) apart))
      | inr apart ↦ rw (apart, kept other key ms differs)
    ]
