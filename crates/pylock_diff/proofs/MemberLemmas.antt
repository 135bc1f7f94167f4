-- Members that are put one after the other: they stand in order, and each is found at its key.
use Rattle.std.proofs.Common.{Ordering, Less, Equal, Greater, ◌≡◌, ◌∙◌, ℕ, true, List, refl, ap}
use Rattle.std.specs.Cmp.Lexicographic.{nat_list_cmp_total, slice_cmp}
use Rattle.std.specs.Ordering.{is_lt, match_ordering, nat_cmp, ordering_reverse}
use Rattle.toml.specs.Data.{Data, Members, is_before, member, no_members}
use Rattle.pytoml.specs.Members.{with_member}
use Rattle.pytoml_code.specs.Proper.{HasProper, IsProper}

abbrev R : List ℕ → List ℕ → Ordering
R = slice_cmp nat_cmp

turned : (x y : List ℕ) (r : Ordering) → R x y ≡ r → R y x ≡ ordering_reverse r
turned x y r e = nat_list_cmp_total.antisymm y x ∙ ap ordering_reverse e

before_by : (k l : List ℕ) (d e : Data) (ms : Members) (key : List ℕ) → is_lt (R key l) ≡ true → is_lt (R key k) ≡ true → (o : Ordering)
    → is_before key (match_ordering o (member k d (member l e ms)) (member l d ms) (member l e (with_member k d ms))) ≡ true
before_by k l d e ms key first here Less = here
before_by k l d e ms key first here Equal = first
before_by k l d e ms key first here Greater = first

-- a key that is before all is so still
before_with : (k : List ℕ) (d : Data) (ms : Members) (key : List ℕ) → is_before key ms ≡ true → is_lt (R key k) ≡ true → is_before key (with_member k d ms) ≡ true
before_with k d no_members key first here = here
before_with k d (member l e ms) key first here = before_by k l d e ms key first here (R k l)

pub proper_with : (k : List ℕ) (d : Data) (ms : Members) → IsProper d → HasProper ms → HasProper (with_member k d ms)
proper_with k d no_members one all = (refl, one, tt)
proper_with k d (member l e ms) one all =
    elim (R k l) as (λ o. R k l ≡ o → HasProper (match_ordering o (member k d (member l e ms)) (member l d ms) (member l e (with_member k d ms)))) [
      | Less ↦ λ is. (ap is_lt is, one, all)
      | Equal ↦ λ is. (all.0, one, all.2)
      | Greater ↦ λ is. (before_with k d ms l all.0 (ap is_lt (turned k l Greater is)), all.1, proper_with k d ms one all.2)
    ] refl
