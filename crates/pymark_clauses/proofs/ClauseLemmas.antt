-- Which clauses hold, of lists of clauses that are put together.
use Rattle.std.proofs.Common.{◌≡◌, ◌↔◌, ◌⊎◌, ℕ, zero, suc, ◌<◌, Bool, true, false, ◌&&◌, ◌||◌, List, [], ◌∷◌, ◌++◌, length, get_or, map, refl, sym, ap, subst, ◌∙◌, inl, inr, arith, Vec, Global, None, Ok, not}
use Rattle.std.proofs.lemmas.List.Elements.{All-append, All-cons, All-head, All-nil, All-tail}
use Rattle.std.proofs.lemmas.List.{map-append}
use Rattle.pymark_core.specs.Environment.{EnvironmentValue}
use Rattle.pymark_core.specs.Marker.Value.{comparison_value}
use Rattle.pymark_clauses.specs.Clauses.{ClauseHolds, LiteralHolds, SomeHolds, Tells, lists_of, product}
use Rattle.pymark_clauses.specs.declared.clauses.Literal.{Literal}

-- ---- clauses as lists

-- a clause holds, or a later one
abbrev pub Some : EnvironmentValue → List (List Literal) → Type 0
Some e [] = ⊥
Some e (clause ∷ clauses) = ClauseHolds e clause ⊎ Some e clauses

at_place : (e : EnvironmentValue) (clauses : List (Vec Literal Global)) (k : ℕ) (x : Vec Literal Global)
    → k < length clauses → get_or clauses k x ≡ x → ClauseHolds e x.items → Some e (lists_of clauses)
at_place e [] k x below is holds = absurd (omega arith)
at_place e (c ∷ cs) zero x below is holds = inl (subst (λ (v : Vec Literal Global). ClauseHolds e v.items) (sym is) holds)
at_place e (c ∷ cs) (suc k) x below is holds = inr (at_place e cs k x (omega arith) is holds)

pub to_lists : (e : EnvironmentValue) (clauses : List (Vec Literal Global)) → SomeHolds e clauses → Some e (lists_of clauses)
to_lists e clauses a = at_place e clauses a.0 a.1 a.2 a.3 a.4

pub from_lists : (e : EnvironmentValue) (clauses : List (Vec Literal Global)) → Some e (lists_of clauses) → SomeHolds e clauses
from_lists e [] s = absurd s
from_lists e (c ∷ cs) (inl holds) = (0, c, omega arith, refl, holds)
from_lists e (c ∷ cs) (inr later) = let a = from_lists e cs later in (suc a.0, a.1, omega arith, a.3, a.4)

-- ---- literals put together

front_holds : (e : EnvironmentValue) (front back : List Literal) → ClauseHolds e (front ++ back) → ClauseHolds e front
front_holds e [] back all = All-nil (LiteralHolds e)
front_holds e (l ∷ ls) back all =
    All-cons (LiteralHolds e) l ls (All-head (LiteralHolds e) l (ls ++ back) all) (front_holds e ls back (All-tail (LiteralHolds e) l (ls ++ back) all))

back_holds : (e : EnvironmentValue) (front back : List Literal) → ClauseHolds e (front ++ back) → ClauseHolds e back
back_holds e [] back all = all
back_holds e (l ∷ ls) back all = back_holds e ls back (All-tail (LiteralHolds e) l (ls ++ back) all)

-- ---- clauses put together

appended_to : (e : EnvironmentValue) (ps qs : List (List Literal)) → Some e (ps ++ qs) → Some e ps ⊎ Some e qs
appended_to e [] qs s = inr s
appended_to e (p ∷ ps) qs (inl here) = inl (inl here)
appended_to e (p ∷ ps) qs (inr later) = elim (appended_to e ps qs later) [ inl s ↦ inl (inr s) | inr s ↦ inr s ]

appended_front : (e : EnvironmentValue) (ps qs : List (List Literal)) → Some e ps → Some e (ps ++ qs)
appended_front e [] qs s = absurd s
appended_front e (p ∷ ps) qs (inl here) = inl here
appended_front e (p ∷ ps) qs (inr later) = inr (appended_front e ps qs later)

appended_back : (e : EnvironmentValue) (ps qs : List (List Literal)) → Some e qs → Some e (ps ++ qs)
appended_back e [] qs s = s
appended_back e (p ∷ ps) qs s = inr (appended_back e ps qs s)

each_to : (e : EnvironmentValue) (p : List Literal) (qs : List (List Literal)) → Some e (map (λ q. p ++ q) qs) → ClauseHolds e p × Some e qs
each_to e p [] s = absurd s
each_to e p (q ∷ qs) (inl here) = (front_holds e p q here, inl (back_holds e p q here))
each_to e p (q ∷ qs) (inr later) = let r = each_to e p qs later in (r.0, inr r.1)

each_from : (e : EnvironmentValue) (p : List Literal) (qs : List (List Literal)) → ClauseHolds e p → Some e qs → Some e (map (λ q. p ++ q) qs)
each_from e p [] holds s = absurd s
each_from e p (q ∷ qs) holds (inl here) = inl (All-append (LiteralHolds e) p q holds here)
each_from e p (q ∷ qs) holds (inr later) = inr (each_from e p qs holds later)

pub product_to : (e : EnvironmentValue) (ps qs : List (List Literal)) → Some e (product ps qs) → Some e ps × Some e qs
product_to e [] qs s = absurd s
product_to e (p ∷ ps) qs s =
    elim (appended_to e (map (λ q. p ++ q) qs) (product ps qs) s) [
      | inl here ↦ (let r = each_to e p qs here in (inl r.0, r.1))
      | inr later ↦ (let r = product_to e ps qs later in (inr r.0, r.1))
    ]

pub product_from : (e : EnvironmentValue) (ps qs : List (List Literal)) → Some e ps → Some e qs → Some e (product ps qs)
product_from e [] qs s t = absurd s
product_from e (p ∷ ps) qs (inl here) t = appended_front e (map (λ q. p ++ q) qs) (product ps qs) (each_from e p qs here t)
product_from e (p ∷ ps) qs (inr later) t = appended_back e (map (λ q. p ++ q) qs) (product ps qs) (product_from e ps qs later t)

-- as one list behind the other
joined_lists : (ps qs rs : List (Vec Literal Global)) → rs ≡ ps ++ qs → lists_of rs ≡ lists_of ps ++ lists_of qs
joined_lists ps qs rs is = ap lists_of is ∙ map-append (λ (clause : Vec Literal Global). clause.items) ps qs

-- ---- what they tell

-- both values are wanted exactly where the whole's is
pub product_tells : (e : EnvironmentValue) (wanted x y v : Bool) (ps qs rs : List (Vec Literal Global))
    → (v ≡ wanted) ↔ ((x ≡ wanted) × (y ≡ wanted)) → lists_of rs ≡ product (lists_of ps) (lists_of qs)
    → Tells e wanted x ps → Tells e wanted y qs → Tells e wanted v rs
product_tells e wanted x y v ps qs rs whole is first second =
    let to : v ≡ wanted → SomeHolds e rs = λ w.
    let p = whole.0 w in
    from_lists e rs (subst (Some e) (sym is) (product_from e (lists_of ps) (lists_of qs) (to_lists e ps (first.0 p.0)) (to_lists e qs (second.0 p.1)))) in
    let back : SomeHolds e rs → v ≡ wanted = λ s.
    let r = product_to e (lists_of ps) (lists_of qs) (subst (Some e) is (to_lists e rs s)) in
    whole.1 (first.1 (from_lists e ps r.0), second.1 (from_lists e qs r.1)) in
    (to, back)

-- one of the two is wanted exactly where the whole's is
pub sum_tells : (e : EnvironmentValue) (wanted x y v : Bool) (ps qs rs : List (Vec Literal Global))
    → (v ≡ wanted) ↔ ((x ≡ wanted) ⊎ (y ≡ wanted)) → lists_of rs ≡ lists_of ps ++ lists_of qs
    → Tells e wanted x ps → Tells e wanted y qs → Tells e wanted v rs
sum_tells e wanted x y v ps qs rs whole is first second =
    let to : v ≡ wanted → SomeHolds e rs = λ w.
    from_lists e rs (subst (Some e) (sym is) (elim (whole.0 w) [
      | inl a ↦ appended_front e (lists_of ps) (lists_of qs) (to_lists e ps (first.0 a))
      | inr b ↦ appended_back e (lists_of ps) (lists_of qs) (to_lists e qs (second.0 b))
    ])) in
    let back : SomeHolds e rs → v ≡ wanted = λ s.
    elim (appended_to e (lists_of ps) (lists_of qs) (subst (Some e) is (to_lists e rs s))) [
      | inl a ↦ whole.1 (inl (first.1 (from_lists e ps a)))
      | inr b ↦ whole.1 (inr (second.1 (from_lists e qs b)))
    ] in
    (to, back)

both_true : (x y : Bool) → ((x && y) ≡ true) ↔ ((x ≡ true) × (y ≡ true))
both_true true y = (λ h. (refl, h), λ p. p.1)
both_true false y = (λ h. cc, λ p. cc)

both_false : (x y : Bool) → ((x && y) ≡ false) ↔ ((x ≡ false) ⊎ (y ≡ false))
both_false true y = (λ h. inr h, λ p. elim p [ inl a ↦ cc | inr b ↦ b ])
both_false false y = (λ h. inl refl, λ p. refl)

either_true : (x y : Bool) → ((x || y) ≡ true) ↔ ((x ≡ true) ⊎ (y ≡ true))
either_true true y = (λ h. inl refl, λ p. refl)
either_true false y = (λ h. inr h, λ p. elim p [ inl a ↦ cc | inr b ↦ b ])

either_false : (x y : Bool) → ((x || y) ≡ false) ↔ ((x ≡ false) × (y ≡ false))
either_false true y = (λ h. cc, λ p. cc)
either_false false y = (λ h. (refl, h), λ p. p.1)

pub and_of_product : (e : EnvironmentValue) (wanted x y : Bool) (ps qs rs : List (Vec Literal Global))
    → wanted ≡ true → lists_of rs ≡ product (lists_of ps) (lists_of qs)
    → Tells e wanted x ps → Tells e wanted y qs → Tells e wanted (x && y) rs
and_of_product e true x y ps qs rs _ is first second = product_tells e true x y (x && y) ps qs rs (both_true x y) is first second
and_of_product e false x y ps qs rs other is first second = absurd (cc other)

pub and_of_sum : (e : EnvironmentValue) (wanted x y : Bool) (ps qs rs : List (Vec Literal Global))
    → wanted ≡ false → rs ≡ ps ++ qs
    → Tells e wanted x ps → Tells e wanted y qs → Tells e wanted (x && y) rs
and_of_sum e true x y ps qs rs other is first second = absurd (cc other)
and_of_sum e false x y ps qs rs _ is first second = sum_tells e false x y (x && y) ps qs rs (both_false x y) (joined_lists ps qs rs is) first second

pub or_of_product : (e : EnvironmentValue) (wanted x y : Bool) (ps qs rs : List (Vec Literal Global))
    → wanted ≡ false → lists_of rs ≡ product (lists_of ps) (lists_of qs)
    → Tells e wanted x ps → Tells e wanted y qs → Tells e wanted (x || y) rs
or_of_product e true x y ps qs rs other is first second = absurd (cc other)
or_of_product e false x y ps qs rs _ is first second = product_tells e false x y (x || y) ps qs rs (either_false x y) is first second

pub or_of_sum : (e : EnvironmentValue) (wanted x y : Bool) (ps qs rs : List (Vec Literal Global))
    → wanted ≡ true → rs ≡ ps ++ qs
    → Tells e wanted x ps → Tells e wanted y qs → Tells e wanted (x || y) rs
or_of_sum e true x y ps qs rs _ is first second = sum_tells e true x y (x || y) ps qs rs (either_true x y) (joined_lists ps qs rs is) first second
or_of_sum e false x y ps qs rs other is first second = absurd (cc other)

-- the same of lists of clauses
pub product_holds : (e : EnvironmentValue) (ps qs rs : List (Vec Literal Global)) → lists_of rs ≡ product (lists_of ps) (lists_of qs)
    → SomeHolds e ps → SomeHolds e qs → SomeHolds e rs
product_holds e ps qs rs is first second =
    from_lists e rs (subst (Some e) (sym is) (product_from e (lists_of ps) (lists_of qs) (to_lists e ps first) (to_lists e qs second)))

pub product_only : (e : EnvironmentValue) (ps qs rs : List (Vec Literal Global)) → lists_of rs ≡ product (lists_of ps) (lists_of qs)
    → SomeHolds e rs → SomeHolds e ps × SomeHolds e qs
product_only e ps qs rs is some =
    let r = product_to e (lists_of ps) (lists_of qs) (subst (Some e) is (to_lists e rs some)) in
    (from_lists e ps r.0, from_lists e qs r.1)

-- ---- clauses that are lengthened

-- one more, with one clause
product_push : (ps : List (List Literal)) (p q : List Literal) → product (ps ++ p ∷ []) (q ∷ []) ≡ product ps (q ∷ []) ++ (p ++ q) ∷ []
product_push [] p q = refl
product_push (x ∷ ps) p q = ap (λ rest. (x ++ q) ∷ rest) (product_push ps p q)

pub lengthened_more : (done before all : List (Vec Literal Global)) (clause longer : Vec Literal Global) (literals : List Literal)
    → lists_of done ≡ product (lists_of before) (literals ∷ []) → longer.items ≡ clause.items ++ literals → all ≡ done ++ longer ∷ []
    → lists_of all ≡ product (lists_of (before ++ clause ∷ [])) (literals ∷ [])
lengthened_more done before all clause longer literals so_far is one_more =
    let front = product (lists_of before) (literals ∷ []) in
    joined_lists done (longer ∷ []) all one_more
    ∙ ap (λ (t : List (List Literal)). t ++ longer.items ∷ []) so_far
    ∙ ap (λ (t : List Literal). front ++ t ∷ []) is
    ∙ sym (product_push (lists_of before) clause.items literals)
    ∙ ap (λ (ps : List (List Literal)). product ps (literals ∷ [])) (sym (map-append (λ (v : Vec Literal Global). v.items) before (clause ∷ [])))

-- ---- single clauses

-- one clause without a literal tells of a value that is the wanted one
pub always_tells : (e : EnvironmentValue) (wanted value : Bool) (clause : Vec Literal Global) (clauses : List (Vec Literal Global))
    → value ≡ wanted → clause.items ≡ [] → clauses ≡ clause ∷ [] → Tells e wanted value clauses
always_tells e wanted value clause clauses is none one =
    let holds : ClauseHolds e clause.items = subst (ClauseHolds e) (sym none) (All-nil (LiteralHolds e)) in
    (λ w. subst (SomeHolds e) (sym one) (from_lists e (clause ∷ []) (inl holds)), λ s. is)

-- no clause tells of one that isn't
pub never_tells : (e : EnvironmentValue) (wanted value : Bool) (clauses : List (Vec Literal Global))
    → (value ≡ wanted → ⊥) → clauses ≡ [] → Tells e wanted value clauses
never_tells e wanted value clauses other none = (λ w. absurd (other w), λ s. absurd (to_lists e [] (subst (SomeHolds e) none s)))

-- a literal alone tells of its comparison
pub literal_tells : (e : EnvironmentValue) (value : Bool) (literal : Literal) (clause : Vec Literal Global) (clauses : List (Vec Literal Global))
    → comparison_value None e literal.comparison.now ≡ Ok value → clause.items ≡ literal ∷ [] → clauses ≡ clause ∷ []
    → Tells e literal.wanted value clauses
literal_tells e value literal clause clauses is only one =
    let to : value ≡ literal.wanted → SomeHolds e clauses = λ w.
    let holds : ClauseHolds e clause.items = subst (ClauseHolds e) (sym only) (All-cons (LiteralHolds e) literal [] (is ∙ ap Ok w) (All-nil (LiteralHolds e))) in
    subst (SomeHolds e) (sym one) (from_lists e (clause ∷ []) (inl holds)) in
    let back : SomeHolds e clauses → value ≡ literal.wanted = λ s.
    elim (to_lists e (clause ∷ []) (subst (SomeHolds e) one s)) [
      | inl holds ↦ (let h : LiteralHolds e literal = All-head (LiteralHolds e) literal [] (subst (ClauseHolds e) only holds) in cc)
      | inr never ↦ absurd never
    ] in
    (to, back)

-- what a constant is worth
pub false_wanted : (wanted : Bool) → (false ≡ wanted) ↔ (not wanted ≡ true)
false_wanted true = (λ h. cc, λ h. cc)
false_wanted false = (λ h. refl, λ h. refl)

pub true_wanted : (wanted : Bool) → (true ≡ wanted) ↔ (wanted ≡ true)
true_wanted wanted = (λ h. sym h, λ h. sym h)
