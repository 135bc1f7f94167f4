-- Lemmas on tables of what was read already.
use Rattle.std.proofs.Common.{◌≡◌, ◌∙◌, ℕ, List, [], ◌∷◌, Some, unwrap_or, Ordering, Less, Equal, Greater, Result, Ok, String, Global, string_bytes, nat_cmp, is_eq, true, refl, ap, sym}
use Rattle.std.proofs.Math.Logic.{⊎_elim}
use Rattle.std.proofs.lemmas.Option.{none-some}
use Rattle.std.proofs.lemmas.Bool.{cases_Bool, cond-true, cond-false}
use Rattle.std.proofs.lemmas.Map.Text.{is_eq-slice_cmp}
use Rattle.std.proofs.lemmas.Slice.Eq.{bytes_eq-Decides}
use Rattle.std.specs.BTreeMap.{is_at, insert_entry}
use Rattle.std.specs.Cmp.Lexicographic.{slice_cmp}
use Rattle.std.specs.Map.{lookup}
use Rattle.std.specs.Ordering.{match_ordering}
use Rattle.std.specs.String.{string_cmp}
use Rattle.pywheel_core.specs.ReadTable.{AllRead}

-- texts that tie are equal
same_key_is : (k l : List ℕ) → is_eq (slice_cmp nat_cmp k l) ≡ true → k ≡ l
same_key_is k l same = (bytes_eq-Decides k l).0 (sym (is_eq-slice_cmp k l) ∙ same)

-- what is found under a text is what the text is read as
pub found_read : {X V E : Type 0} (read : List ℕ → Result V E) (view : X → V) (text : List ℕ) (x : X) (es : List (String Global × X))
    → AllRead read view es → lookup (is_at (λ k. slice_cmp nat_cmp text (string_bytes k))) es ≡ Some x → read text ≡ Ok (view x)
found_read read view text x [] all found = absurd (none-some x found)
found_read read view text x (e ∷ es) all found =
    ⊎_elim
    (λ tie. ap read (same_key_is text (string_bytes e.0) tie) ∙ all.0 ∙ ap (λ v. Ok (view v)) (ap (λ o. unwrap_or o e.1) (sym (cond-true (is_eq (slice_cmp nat_cmp text (string_bytes e.0))) (Some e.1) (lookup (is_at (λ k. slice_cmp nat_cmp text (string_bytes k))) es) tie) ∙ found)))
    (λ apart. found_read read view text x es all.1 (sym (cond-false (is_eq (slice_cmp nat_cmp text (string_bytes e.0))) (Some e.1) (lookup (is_at (λ k. slice_cmp nat_cmp text (string_bytes k))) es) apart) ∙ found))
    (cases_Bool (is_eq (slice_cmp nat_cmp text (string_bytes e.0))))

-- a table that gained what its text is read as
pub gains_read : {X V E : Type 0} (read : List ℕ → Result V E) (view : X → V) (k : String Global) (x : X) (es : List (String Global × X))
    → AllRead read view es → read (string_bytes k) ≡ Ok (view x) → AllRead read view (insert_entry string_cmp es k x)
gains_read read view k x [] all here = (here, tt)
gains_read {X = X} read view k x (e ∷ es) all here = by (string_cmp k e.0) refl (gains_read read view k x es all.1 here)
  where
    by : (o : Ordering) → string_cmp k e.0 ≡ o → AllRead read view (insert_entry string_cmp es k x)
        → AllRead read view (match_ordering o ((k, x) ∷ e ∷ es) ((e.0, x) ∷ es) (e ∷ insert_entry string_cmp es k x))
    by Less is more = (here, all)
    by Equal is more = (ap read (sym (same_key_is (string_bytes k) (string_bytes e.0) (ap is_eq is))) ∙ here, all.1)
    by Greater is more = (all.0, more)
