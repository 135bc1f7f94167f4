-- The value of a marker is that which its pieces give, one after the other.
use Rattle.std.proofs.Common.{◌≡◌, Bool, true, false, ◌&&◌, ◌||◌, List, [], ◌∷◌, ◌++◌, None, Result, Ok, Err, refl, sym, ap, ◌∙◌, append_assoc, append-nil}
use Rattle.std.proofs.Math.Bool.{and_assoc, or_assoc}
use Rattle.pytext.specs.Results.{◌>>=◌}
use Rattle.pymark_core.specs.Environment.{EnvironmentValue}
use Rattle.pymark_core.specs.Marker.Pieces.{PieceValue, both, either, closing, tree_pieces, conjunction_pieces, atom_pieces}
use Rattle.pymark_core.specs.Marker.Tree.{Tree, Conjunction, Atom, last, or, only, and, leaf, group}
use Rattle.pymark_core.specs.Marker.Value.{both_values, value_with, conjunction_value, atom_value, marker_value}
use Rattle.pymark_core.specs.declared.fault.EvalFault.{EvalFault}
use Rattle.pymark_clauses.specs.Groups.{GroupValue, empty, with_member, group_value, value_from}

-- what follows a value that may be a fault does so in the same way for values that are the same
same_then : {A B : Type 0} (r : Result A EvalFault) (f g : A → Result B EvalFault) → ((x : A) → f x ≡ g x) → (r >>= f) ≡ (r >>= g)
same_then (Ok x) f g same = same x
same_then (Err m) f g same = refl

-- two parts, one behind the other, are the two with the second behind the first
both_then : {B : Type 0} (join : Bool → Bool → Bool) (first second : Result Bool EvalFault) (f : Bool → Result B EvalFault)
    → (both_values join first second >>= f) ≡ (first >>= λ x. second >>= λ y. f (join x y))
both_then join (Ok x) (Ok y) f = refl
both_then join (Ok x) (Err m) f = refl
both_then join (Err m) second f = refl

-- one more member, and then another
two_members : (g : GroupValue) (x y : Bool) → with_member y (with_member x g) ≡ with_member (x && y) g
two_members g x y = ap (λ v. record { earlier = g.earlier; latest = v }) (and_assoc g.latest x y)

mutual
  atom_passes : (e : EnvironmentValue) (a : Atom) (inner : GroupValue) (outer : List GroupValue) (rest : List PieceValue)
      → value_from e inner outer (atom_pieces a ++ rest) ≡ (atom_value None e a >>= λ v. value_from e (with_member v inner) outer rest)
  atom_passes e (leaf c) inner outer rest = refl
  atom_passes e (group t) inner outer rest =
      ap (value_from e empty (inner ∷ outer)) (append_assoc (tree_pieces t) (closing ∷ []) rest)
      ∙ tree_passes e t false (inner ∷ outer) (closing ∷ rest) (λ v. value_from e (with_member v inner) outer rest) (λ g. refl)

  conjunction_passes : (e : EnvironmentValue) (c : Conjunction) (inner : GroupValue) (outer : List GroupValue) (rest : List PieceValue)
      → value_from e inner outer (conjunction_pieces c ++ rest) ≡ (conjunction_value None e c >>= λ v. value_from e (with_member v inner) outer rest)
  conjunction_passes e (only a) inner outer rest = atom_passes e a inner outer rest
  conjunction_passes e (and a others) inner outer rest =
      ap (value_from e inner outer) (append_assoc (atom_pieces a) (both ∷ conjunction_pieces others) rest)
      ∙ atom_passes e a inner outer (both ∷ (conjunction_pieces others ++ rest))
      ∙ same_then (atom_value None e a) _ _ (λ x. conjunction_passes e others (with_member x inner) outer rest
      ∙ same_then (conjunction_value None e others) _ _ (λ y. ap (λ g. value_from e g outer rest) (two_members inner x y)))
      ∙ sym (both_then (λ x y. x && y) (atom_value None e a) (conjunction_value None e others) (λ v. value_from e (with_member v inner) outer rest))

  -- what is behind a marker takes of it no more than its value
  tree_passes : (e : EnvironmentValue) (t : Tree) (earlier : Bool) (outer : List GroupValue) (rest : List PieceValue) (behind : Bool → Result Bool EvalFault)
      → ((g : GroupValue) → value_from e g outer rest ≡ behind (group_value g))
      → value_from e (record { earlier = earlier; latest = true }) outer (tree_pieces t ++ rest) ≡ (value_with None e t >>= λ v. behind (earlier || v))
  tree_passes e (last c) earlier outer rest behind closes =
      conjunction_passes e c (record { earlier = earlier; latest = true }) outer rest
      ∙ same_then (conjunction_value None e c) _ _ (λ v. closes (record { earlier = earlier; latest = v }))
  tree_passes e (or c others) earlier outer rest behind closes =
      ap (value_from e (record { earlier = earlier; latest = true }) outer) (append_assoc (conjunction_pieces c) (either ∷ tree_pieces others) rest)
      ∙ conjunction_passes e c (record { earlier = earlier; latest = true }) outer (either ∷ (tree_pieces others ++ rest))
      ∙ same_then (conjunction_value None e c) _ _ (λ x. tree_passes e others (earlier || x) outer rest behind closes
      ∙ same_then (value_with None e others) _ _ (λ y. ap behind (or_assoc earlier x y)))
      ∙ sym (both_then (λ x y. x || y) (conjunction_value None e c) (value_with None e others) (λ v. behind (earlier || v)))

then_itself : (r : Result Bool EvalFault) → (r >>= λ v. Ok v) ≡ r
then_itself (Ok v) = refl
then_itself (Err m) = refl

pub value_of_pieces : (e : EnvironmentValue) (t : Tree) → value_from e empty [] (tree_pieces t) ≡ marker_value e t
value_of_pieces e t =
    ap (value_from e empty []) (sym (append-nil (tree_pieces t)))
    ∙ tree_passes e t false [] [] (λ v. Ok v) (λ g. refl)
    ∙ then_itself (value_with None e t)
