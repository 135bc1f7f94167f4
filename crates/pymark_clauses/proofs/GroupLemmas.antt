-- What is told of the groups that are open, from piece to piece.
use Rattle.std.proofs.Common.{◌≡◌, Bool, true, false, not, List, [], ◌∷◌, ◌++◌, length, Option, Some, None, Result, Ok, Err, IfOk, IfSome, refl, sym, ap, subst, ◌∙◌, arith, Vec, Global}
use Rattle.std.proofs.lemmas.List.{length_push, same_from_push}
use Rattle.pytext.specs.Results.{◌>>=◌}
use Rattle.pymark_core.specs.Environment.{EnvironmentValue}
use Rattle.pymark_core.specs.Marker.Comparison.{ComparisonValue}
use Rattle.pymark_core.specs.Marker.Pieces.{PieceValue, comparison, either, opening, closing, tree_pieces}
use Rattle.pymark_core.specs.Marker.Tree.{Tree}
use Rattle.pymark_core.specs.Marker.Value.{comparison_value, marker_value}
use Rattle.pymark_core.specs.declared.fault.EvalFault.{EvalFault}
use Rattle.pymark_clauses.specs.Clauses.{Tells}
use Rattle.pymark_clauses.specs.Groups.{Follows, GroupValue, Reaches, TellsGroup, TellsGroups, behind_or, empty, group_value, value_from, with_member}
use Rattle.pymark_clauses.specs.declared.clauses.Literal.{Literal}
use Rattle.pymark_clauses.specs.declared.groups.Group.{Group}
use Rattle.pymark_clauses.specs.declared.groups.Groups.{Groups}
use Rattle.pymark_clauses.proofs.ValueLemmas.{value_of_pieces}

-- ---- results that have a value

pub found_weaker : {X E : Type 0} (r : Result (Option X) E) (P Q : X → Type 0) → ((x : X) → P x → Q x)
    → IfOk r (λ found. IfSome found P) → IfOk r (λ found. IfSome found Q)
found_weaker (Ok (Some x)) P Q f p = f x p
found_weaker (Ok None) P Q f p = tt
found_weaker (Err e) P Q f p = tt

pub found_of_two : {X E : Type 0} (r : Result (Option X) E) (P P' Q : X → Type 0) → ((x : X) → P x → P' x → Q x)
    → IfOk r (λ found. IfSome found P) → IfOk r (λ found. IfSome found P') → IfOk r (λ found. IfSome found Q)
found_of_two (Ok (Some x)) P P' Q f p q = f x p q
found_of_two (Ok None) P P' Q f p q = tt
found_of_two (Err e) P P' Q f p q = tt

then_ok : {A B : Type 0} (r : Result A EvalFault) (f : A → Result B EvalFault) (b : B) → (r >>= f) ≡ Ok b → (a : A) × (r ≡ Ok a) × (f a ≡ Ok b)
then_ok (Ok a) f b is = (a, refl, is)
then_ok (Err m) f b is = absurd (cc is)

-- ---- pieces

pub comparison_follows : (wanted : Bool) (old next : Groups) (c : ComparisonValue) (member : List (Vec Literal Global))
    → ((e : EnvironmentValue) (v : Bool) → comparison_value None e c ≡ Ok v → Tells e wanted v member)
    → ((e : EnvironmentValue) (value : GroupValue) (more : Bool) → TellsGroup e wanted value old.inner → Tells e wanted more member
    → TellsGroup e wanted (with_member more value) next.inner)
    → next.outer ≡ old.outer → Follows wanted old (comparison c) next
comparison_follows wanted old next c member tells longer outer e rest value reach =
    let step = then_ok (comparison_value None e c) (λ v. value_from e (with_member v reach.inner) reach.outer rest) value reach.reaches in
    record {
      inner = with_member step.0 reach.inner;
      outer = reach.outer;
      tells_inner = longer e reach.inner step.0 reach.tells_inner (tells e step.0 step.1);
      tells_outer = subst (λ (v : Vec Group Global). TellsGroups e wanted reach.outer v.items) (sym outer) reach.tells_outer;
      reaches = step.2;
    }

pub or_follows : (wanted : Bool) (old next : Groups)
    → ((e : EnvironmentValue) (value : GroupValue) → TellsGroup e wanted value old.inner → TellsGroup e wanted (behind_or value) next.inner)
    → next.outer ≡ old.outer → Follows wanted old either next
or_follows wanted old next tells outer e rest value reach =
    record {
      inner = behind_or reach.inner;
      outer = reach.outer;
      tells_inner = tells e reach.inner reach.tells_inner;
      tells_outer = subst (λ (v : Vec Group Global). TellsGroups e wanted reach.outer v.items) (sym outer) reach.tells_outer;
      reaches = reach.reaches;
    }

pub opening_follows : (wanted : Bool) (old next : Groups)
    → ((e : EnvironmentValue) → TellsGroup e wanted empty next.inner)
    → next.outer.items ≡ old.outer.items ++ old.inner ∷ [] → Follows wanted old opening next
opening_follows wanted old next tells outer e rest value reach =
    record {
      inner = empty;
      outer = reach.inner ∷ reach.outer;
      tells_inner = tells e;
      tells_outer = (old.outer.items, old.inner, outer, reach.tells_inner, reach.tells_outer);
      reaches = reach.reaches;
    }

-- what is told behind a `)`, by the groups that are open before it
closing_reaches : (wanted : Bool) (old next : Groups) (outer : List Group) (group : Group) (member : List (Vec Literal Global)) (e : EnvironmentValue)
    (rest : List PieceValue) (value : Bool) (inner : GroupValue) (values : List GroupValue)
    → old.outer.items ≡ outer ++ group ∷ []
    → Tells e wanted (group_value inner) member
    → ((g : GroupValue) (more : Bool) → TellsGroup e wanted g group → Tells e wanted more member → TellsGroup e wanted (with_member more g) next.inner)
    → next.outer.items ≡ outer
    → TellsGroups e wanted values old.outer.items → value_from e inner values (closing ∷ rest) ≡ Ok value
    → Reaches e wanted next rest value
closing_reaches wanted old next outer group member e rest value inner [] is tells longer left none reaches =
    absurd (omega (arith, ap length (sym none ∙ is), length_push outer group))
closing_reaches wanted old next outer group member e rest value inner (g ∷ values) is tells longer left told reaches =
    let same = same_from_push told.0 outer told.1 group (sym told.2 ∙ is) in
    record {
      inner = with_member (group_value inner) g;
      outer = values;
      tells_inner = longer g (group_value inner) (subst (λ (x : Group). TellsGroup e wanted g x) same.1 told.3) tells;
      tells_outer = subst (λ (xs : List Group). TellsGroups e wanted values xs) (same.0 ∙ sym left) told.4;
      reaches = reaches;
    }

pub closing_follows : (wanted : Bool) (old next : Groups) (outer : List Group) (group : Group) (member : List (Vec Literal Global))
    → old.outer.items ≡ outer ++ group ∷ []
    → ((e : EnvironmentValue) (value : GroupValue) → TellsGroup e wanted value old.inner → Tells e wanted (group_value value) member)
    → ((e : EnvironmentValue) (value : GroupValue) (more : Bool) → TellsGroup e wanted value group → Tells e wanted more member
    → TellsGroup e wanted (with_member more value) next.inner)
    → next.outer.items ≡ outer → Follows wanted old closing next
closing_follows wanted old next outer group member is tells longer left e rest value reach =
    closing_reaches wanted old next outer group member e rest value reach.inner reach.outer is (tells e reach.inner reach.tells_inner) (longer e) left
    reach.tells_outer reach.reaches

-- ---- the whole

pub marker_tells : (e : EnvironmentValue) (wanted value : Bool) (tree : Tree) (groups : Groups) (clauses : List (Vec Literal Global)) (pieces : List PieceValue)
    → pieces ≡ tree_pieces tree → marker_value e tree ≡ Ok value
    → ((v : Bool) → value_from e empty [] pieces ≡ Ok v → Reaches e wanted groups [] v)
    → ((g : GroupValue) → TellsGroup e wanted g groups.inner → Tells e wanted (group_value g) clauses)
    → Tells e wanted value clauses
marker_tells e wanted value tree groups clauses pieces is has reaches tells =
    let reach = reaches value (ap (value_from e empty []) is ∙ value_of_pieces e tree ∙ has) in
    let same : group_value reach.inner ≡ value = cc (reach.reaches) in
    subst (λ (v : Bool). Tells e wanted v clauses) same (tells reach.inner reach.tells_inner)

pub not_itself : (b : Bool) → not b ≡ b → ⊥
not_itself true is = cc is
not_itself false is = cc is
