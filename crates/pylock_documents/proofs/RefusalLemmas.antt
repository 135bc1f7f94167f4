-- What the members of a refusal's document are, whatever is told.
use Rattle.std.proofs.Common.{◌≡◌, ◌∙◌, ℕ, false, List, [], ◌∷◌, Option, Some, None, Ordering, Less, Equal, Greater, ap, bytes_eq, codes, is_eq, nat_cmp, refl, sym, true≢false}
use Rattle.std.proofs.lemmas.Bool.{or_parts}
use Rattle.std.proofs.lemmas.Cmp.{nat_list_cmp_total}
use Rattle.std.proofs.lemmas.Map.Text.{is_eq-slice_cmp}
use Rattle.std.specs.Cmp.Lexicographic.{slice_cmp}
use Rattle.std.specs.List.{list_any}
use Rattle.std.specs.Ordering.{match_ordering, ordering_reverse}
use Rattle.serde_json.specs.Data.{Data, Members, no_members, member, put}
use Rattle.serde_json.specs.Find.{get_member}
use Rattle.pylock_json.specs.Json.{Row, members_of, texts_of, with_row, with_rows}
use Rattle.pylock_messages.specs.Diagnostic.{DiagnosticValue}
use Rattle.pylock_documents.specs.Documents.{diagnostic_rows, is_refusal_key, refused_rows}

passed : {X : Type 0} (o : Ordering) (a b : X) → is_eq o ≡ false → match_ordering o a b a ≡ a
passed Less a b apart = refl
passed Equal a b apart = absurd (true≢false apart)
passed Greater a b apart = refl

same_order : (q k l : List ℕ) → slice_cmp nat_cmp k l ≡ Equal → slice_cmp nat_cmp q l ≡ slice_cmp nat_cmp q k
same_order q k l is =
    nat_list_cmp_total.antisymm q l ∙ ap ordering_reverse (sym (nat_list_cmp_total.congr k l q is)) ∙ sym (nat_list_cmp_total.antisymm q k)

-- what is put at a key leaves what stands at another
put_elsewhere : (q k : List ℕ) (d : Data) (ms : Members) → is_eq (slice_cmp nat_cmp q k) ≡ false → get_member q (put k d ms) ≡ get_member q ms
put_elsewhere q k d no_members apart = passed (slice_cmp nat_cmp q k) None (Some d) apart
put_elsewhere q k d (member l e ms) apart = by (put_elsewhere q k d ms apart) (slice_cmp nat_cmp k l) refl
  where
    by : get_member q (put k d ms) ≡ get_member q ms → (o : Ordering) → slice_cmp nat_cmp k l ≡ o
        → get_member q (match_ordering o (member k d (member l e ms)) (member l d ms) (member l e (put k d ms))) ≡ get_member q (member l e ms)
    by later Less is = passed (slice_cmp nat_cmp q k) (get_member q (member l e ms)) (Some d) apart
    by later Equal is =
        let other : is_eq (slice_cmp nat_cmp q l) ≡ false = ap is_eq (same_order q k l is) ∙ apart in
        passed (slice_cmp nat_cmp q l) (get_member q ms) (Some d) other ∙ sym (passed (slice_cmp nat_cmp q l) (get_member q ms) (Some e) other)
    by later Greater is = ap (λ x. match_ordering (slice_cmp nat_cmp q l) x (Some e) x) later

row_elsewhere : (q : List ℕ) (row : Row) (ms : Members) → bytes_eq q row.0 ≡ false → get_member q (with_row row ms) ≡ get_member q ms
row_elsewhere q (k, None) ms apart = refl
row_elsewhere q (k, Some d) ms apart = put_elsewhere q k d ms (is_eq-slice_cmp q k ∙ apart)

rows_elsewhere : (q : List ℕ) (rows : List Row) (ms : Members) → list_any (λ row. bytes_eq q row.0) rows ≡ false → get_member q (with_rows rows ms) ≡ get_member q ms
rows_elsewhere q [] ms apart = refl
rows_elsewhere q (row ∷ rows) ms apart =
    let (first, rest) = or_parts (bytes_eq q row.0) (list_any (λ (r : Row). bytes_eq q r.0) rows) apart in
    rows_elsewhere q rows (with_row row ms) rest ∙ row_elsewhere q row ms first

pub words_stand : (words : List (List ℕ)) (diagnostic : Option DiagnosticValue) → get_member (codes "refused") (members_of (refused_rows words diagnostic)) ≡ Some (texts_of words)
words_stand words None = refl
words_stand words (Some diagnostic) = rows_elsewhere (codes "refused") (diagnostic_rows diagnostic) (members_of (refused_rows words None)) refl

pub no_others : (key : List ℕ) (words : List (List ℕ)) (diagnostic : Option DiagnosticValue) → is_refusal_key key ≡ false → get_member key (members_of (refused_rows words diagnostic)) ≡ None
no_others key words diagnostic other = by diagnostic
  where
    by : (o : Option DiagnosticValue) → get_member key (members_of (refused_rows words o)) ≡ None
    by None =
        let (first, rest) = or_parts (bytes_eq key (codes "refused")) _ other in
        row_elsewhere key (codes "refused", Some (texts_of words)) no_members first
    by (Some d) = rows_elsewhere key (refused_rows words (Some d)) no_members other

pub ruleset laws = (words_stand, no_others)
