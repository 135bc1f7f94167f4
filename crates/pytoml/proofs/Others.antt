-- Nodes and members at a key, beside what is done at other keys.
use Rattle.std.proofs.Common.{◌≡◌, ℕ, cond, Bool, true, false, List, Some, nat_cmp, Ordering, Less, Equal, Greater, refl, sym, ap, ◌∙◌, None}
use Rattle.std.specs.Cmp.{tied_itself}
use Rattle.std.proofs.lemmas.Map.Text.{is_eq-slice_cmp}
use Rattle.std.proofs.lemmas.Slice.Eq.{bytes_eq-Decides}
use Rattle.std.proofs.lemmas.Cmp.{nat_list_cmp_total}
use Rattle.std.specs.Cmp.Lexicographic.{slice_cmp}
use Rattle.std.proofs.lemmas.Bool.{true≢false}
use Rattle.std.specs.Ordering.{is_eq, match_ordering, ordering_reverse}
use Rattle.toml.specs.Data.{Data, Items, no_items, item, Members, no_members, member, array, get_member, same_key}
use Rattle.pytoml.specs.Members.{with_elements, with_member}
use Rattle.toml.specs.Tables.{Node, Nodes, no_nodes, node, insert, get_node, replace}

-- ---- the order of keys

turned : (k l : List ℕ) (o : Ordering) → slice_cmp nat_cmp k l ≡ o → slice_cmp nat_cmp l k ≡ ordering_reverse o
turned k l o is = nat_list_cmp_total.antisymm l k ∙ ap ordering_reverse is

same_self : (k : List ℕ) → slice_cmp nat_cmp k k ≡ Equal
same_self k = tied_itself nat_list_cmp_total k

-- a key between two
beyond : (k l m : List ℕ) → slice_cmp nat_cmp k m ≡ Less → slice_cmp nat_cmp l m ≡ Greater → slice_cmp nat_cmp l k ≡ Greater
beyond k l m less greater = turned k l Less (nat_list_cmp_total.trans k m l less (turned l m Greater greater))

equal_to : (k l m : List ℕ) (o : Ordering) → slice_cmp nat_cmp k m ≡ o → slice_cmp nat_cmp l m ≡ Equal → slice_cmp nat_cmp l k ≡ ordering_reverse o
equal_to k l m o is same = nat_list_cmp_total.congr l m k same ∙ turned k m o is

eq_turned : (o : Ordering) → is_eq (ordering_reverse o) ≡ is_eq o
eq_turned Less = refl
eq_turned Equal = refl
eq_turned Greater = refl

pub other_turned : (k l : List ℕ) → same_key k l ≡ false → same_key l k ≡ false
other_turned k l other = ap is_eq (turned k l (slice_cmp nat_cmp k l) refl) ∙ eq_turned (slice_cmp nat_cmp k l) ∙ other

-- a key that another is the same as is other than what that is other than
other_same : (k l m : List ℕ) → same_key k l ≡ false → slice_cmp nat_cmp l m ≡ Equal → same_key k m ≡ false
other_same k l m other same =
    sym (eq_turned (slice_cmp nat_cmp k m))
    ∙ ap is_eq (sym (equal_to k l m (slice_cmp nat_cmp k m) refl same)) ∙ other_turned k l other

pub same_is : (k l : List ℕ) → same_key k l ≡ true → k ≡ l
same_is k l same = (bytes_eq-Decides k l).0 (sym (is_eq-slice_cmp k l) ∙ same)

-- ---- nodes

pub insert-other : (k l : List ℕ) (x y : Node) (ns : Nodes) → same_key k l ≡ false → insert k x (insert l y ns) ≡ insert l y (insert k x ns)
insert-other k l x y no_nodes other = by (slice_cmp nat_cmp k l) refl
  where
    by : (o : Ordering) → slice_cmp nat_cmp k l ≡ o → insert k x (insert l y no_nodes) ≡ insert l y (insert k x no_nodes)
    by Less is = rw (is, turned k l Less is)
    by Equal is = let e : true ≡ false = sym (ap is_eq is) ∙ other in cc
    by Greater is = rw (is, turned k l Greater is)
insert-other k l x y (node m z ns) other = by (insert-other k l x y ns other) (slice_cmp nat_cmp k m) (slice_cmp nat_cmp l m) refl refl
  where
    both_before : (o : Ordering) → slice_cmp nat_cmp k m ≡ Less → slice_cmp nat_cmp l m ≡ Less → slice_cmp nat_cmp k l ≡ o
        → insert k x (insert l y (node m z ns)) ≡ insert l y (insert k x (node m z ns))
    both_before Less a b is = rw (a, b, is, turned k l Less is)
    both_before Equal a b is = let e : true ≡ false = sym (ap is_eq is) ∙ other in cc
    both_before Greater a b is = rw (a, b, is, turned k l Greater is, a)

    by : insert k x (insert l y ns) ≡ insert l y (insert k x ns) → (o p : Ordering) → slice_cmp nat_cmp k m ≡ o → slice_cmp nat_cmp l m ≡ p → insert k x (insert l y (node m z ns)) ≡ insert l y (insert k x (node m z ns))
    by more Less Less a b = both_before (slice_cmp nat_cmp k l) a b refl
    by more Less Equal a b = rw (b, a, equal_to k l m Less a b, b)
    by more Less Greater a b = rw (b, a, beyond k l m a b, b)
    by more Equal Less a b = rw (a, b, equal_to l k m Less b a, a)
    by more Equal Equal a b = let e : true ≡ false = sym (ap is_eq (equal_to l k m Equal b a)) ∙ other in cc
    by more Equal Greater a b = rw (a, b, a)
    by more Greater Less a b = rw (a, b, beyond l k m b a, a)
    by more Greater Equal a b = rw (b, a, b)
    by more Greater Greater a b = rw (b, a, b, more)

pub get_node-insert_other : (k l : List ℕ) (y : Node) (ns : Nodes) → same_key k l ≡ false → get_node k (insert l y ns) ≡ get_node k ns
get_node-insert_other k l y no_nodes other = rw other
get_node-insert_other k l y (node m z ns) other = by (get_node-insert_other k l y ns other) (slice_cmp nat_cmp l m) refl
  where
    by : get_node k (insert l y ns) ≡ get_node k ns → (o : Ordering) → slice_cmp nat_cmp l m ≡ o → get_node k (insert l y (node m z ns)) ≡ get_node k (node m z ns)
    by more Less is = rw (is, other)
    by more Equal is = rw (is, other_same k l m other is)
    by more Greater is = rw is (ap (cond (same_key k m) (Some z)) more)

pub replace-insert_other : (k l : List ℕ) (x y : Node) (ns : Nodes) → same_key k l ≡ false → replace k x (insert l y ns) ≡ insert l y (replace k x ns)
replace-insert_other k l x y no_nodes other = rw other
replace-insert_other k l x y (node m z ns) other = by (replace-insert_other k l x y ns other) (slice_cmp nat_cmp l m) refl
  where
    before : (b : Bool) → slice_cmp nat_cmp l m ≡ Less
        → node l y (cond b (node m x ns) (node m z (replace k x ns))) ≡ insert l y (cond b (node m x ns) (node m z (replace k x ns)))
    before true is = rw is
    before false is = rw is

    behind : replace k x (insert l y ns) ≡ insert l y (replace k x ns) → (b : Bool) → slice_cmp nat_cmp l m ≡ Greater
        → cond b (node m x (insert l y ns)) (node m z (replace k x (insert l y ns))) ≡ insert l y (cond b (node m x ns) (node m z (replace k x ns)))
    behind more true is = rw is
    behind more false is = rw is (ap (node m z) more)

    by : replace k x (insert l y ns) ≡ insert l y (replace k x ns) → (o : Ordering) → slice_cmp nat_cmp l m ≡ o → replace k x (insert l y (node m z ns)) ≡ insert l y (replace k x (node m z ns))
    by more Less is = rw (is, other) (before (same_key k m) is)
    by more Equal is = rw (is, other_same k l m other is, is)
    by more Greater is = rw is (behind more (same_key k m) is)

pub get_node-replace_other : (k l : List ℕ) (x : Node) (ns : Nodes) → same_key k l ≡ false → get_node k (replace l x ns) ≡ get_node k ns
get_node-replace_other k l x no_nodes other = refl
get_node-replace_other k l x (node m z ns) other = by (get_node-replace_other k l x ns other) (slice_cmp nat_cmp l m) refl
  where
    rest : get_node k (replace l x ns) ≡ get_node k ns → get_node k (node m z (replace l x ns)) ≡ get_node k (node m z ns)
    rest more = ap (cond (same_key k m) (Some z)) more

    by : get_node k (replace l x ns) ≡ get_node k ns → (o : Ordering) → slice_cmp nat_cmp l m ≡ o → get_node k (replace l x (node m z ns)) ≡ get_node k (node m z ns)
    by more Less is = rw is (rest more)
    by more Equal is = rw (is, other_same k l m other is)
    by more Greater is = rw is (rest more)

-- ---- members

apart : {A : Type 0} (o : Ordering) (x y : A) → is_eq o ≡ false → match_ordering o x y x ≡ x
apart Less x y other = refl
apart Equal x y other = absurd (true≢false other)
apart Greater x y other = refl

-- the member that was put, and the others
pub with_member-there : (key : List ℕ) (d : Data) (ms : Members) → get_member key (with_member key d ms) ≡ Some d
with_member-there key d no_members = rw (same_self key)
with_member-there key d (member l e ms) = by (with_member-there key d ms) (slice_cmp nat_cmp key l) refl
  where
    by : get_member key (with_member key d ms) ≡ Some d → (o : Ordering) → slice_cmp nat_cmp key l ≡ o → get_member key (with_member key d (member l e ms)) ≡ Some d
    by more Less is = rw (is, same_self key)
    by more Equal is = rw (is, is)
    by more Greater is = rw (is, is) more

pub with_member-other : (other key : List ℕ) (d : Data) (ms : Members) → same_key other key ≡ false → get_member other (with_member key d ms) ≡ get_member other ms
with_member-other other key d no_members differs = apart (slice_cmp nat_cmp other key) None (Some d) differs
with_member-other other key d (member l e ms) differs = by (with_member-other other key d ms differs) (slice_cmp nat_cmp key l) refl
  where
    by : get_member other (with_member key d ms) ≡ get_member other ms → (o : Ordering) → slice_cmp nat_cmp key l ≡ o
        → get_member other (with_member key d (member l e ms)) ≡ get_member other (member l e ms)
    by more Less is = rw is (apart (slice_cmp nat_cmp other key) (get_member other (member l e ms)) (Some d) differs)
    by more Equal is =
        let differs_here : same_key other l ≡ false = other_same other key l differs is in
        rw is (apart (slice_cmp nat_cmp other l) (get_member other ms) (Some d) differs_here ∙ sym (apart (slice_cmp nat_cmp other l) (get_member other ms) (Some e) differs_here))
    by more Greater is = rw is (ap (λ rest. match_ordering (slice_cmp nat_cmp other l) rest (Some e) rest) more)

pub with_elements-other : (other key : List ℕ) (taken : Items) (ms : Members) → same_key other key ≡ false → get_member other (with_elements key taken ms) ≡ get_member other ms
with_elements-other other key no_items ms differs = refl
with_elements-other other key (item d ds) ms differs = with_member-other other key (array (item d ds)) ms differs
