-- The depth of a text, one byte after another.
use Rattle.std.proofs.Common.{◌≡◌, ℕ, zero, suc, ◌+◌, ◌-◌, ◌*◌, ◌<◌, ◌≤◌, Bool, true, false, cond, ◌||◌, List, [], ◌∷◌, map, take, drop, Option, Some, None, refl, sym, ap, ◌∙◌, add_assoc, arith, eq-eqb}
use Rattle.std.specs.Prelude.{count_by, if◌then◌else◌, nat_lt, ◌==◌}
use Rattle.std.specs.List.{list_any, sum_by}
use Rattle.std.specs.Simd.{first_chunks}
use Rattle.pymark_core.specs.Marker.Depth.{prefixes, is_closing, is_deep, is_opening, open_count, outside_quotes_from}
use Rattle.std.proofs.lemmas.Bool.{le-ltb, lt-ltb, ne_eqb}
use Rattle.std.proofs.lemmas.List.{drop-drop}
use Rattle.std.proofs.lemmas.List.Sums.{sum_by-cons, sum_by-take-drop}
use Rattle.pymark_core.specs.Inner.Nesting.{is_deep_after, is_deep_from}
use Rattle.pymark_core.specs.Marker.Token.{is_quote}
use Rattle.pymark_core.specs.declared.marker.depth.Nesting.{Nesting}

pub any_same : {X : Type 0} (p q : X → Bool) → ((x : X) → p x ≡ q x) → (xs : List X) → list_any p xs ≡ list_any q xs
any_same p q same [] = refl
any_same p q same (x ∷ xs) = rw (same x, any_same p q same xs) refl

pub any_map : {X Y : Type 0} (f : X → Y) (p : Y → Bool) (xs : List X) → list_any p (map f xs) ≡ list_any (λ x. p (f x)) xs
any_map f p [] = refl
any_map f p (x ∷ xs) = rw (any_map f p xs) refl

same_difference : (a b c d : ℕ) → a ≡ c → b ≡ d → nat_lt 64 (a - b) ≡ nat_lt 64 (c - d)
same_difference a b c d e f = rw (e, f) refl

counted : (p : ℕ → Bool) (n b : ℕ) (prefix : List ℕ) → n + count_by p (b ∷ prefix) ≡ (n + cond (p b) 1 0) + count_by p prefix
counted p n b prefix =
    let f : ℕ → ℕ = λ x. cond (p x) 1 0 in
    ap (λ k. n + k) (sum_by-cons f b prefix) ∙ sym (add_assoc n (f b) (sum_by f prefix))

pub deep_start : (out : List ℕ) → is_deep_after 0 0 out ≡ list_any (λ prefix. nat_lt 64 (open_count prefix)) (prefixes out)
deep_start out = any_same _ _ (λ prefix. same_difference _ _ _ _ (omega arith) (omega arith)) (prefixes out)

pub deep_more : (opened closed b : ℕ) (out : List ℕ)
    → is_deep_after opened closed (b ∷ out) ≡ (nat_lt 64 (opened - closed) || is_deep_after (opened + cond (is_opening b) 1 0) (closed + cond (is_closing b) 1 0) out)
deep_more opened closed b out =
    let here : nat_lt 64 ((opened + 0) - (closed + 0)) ≡ nat_lt 64 (opened - closed) = same_difference _ _ _ _ (omega arith) (omega arith) in
    let behind = any_map (λ prefix. b ∷ prefix) (λ prefix. nat_lt 64 ((opened + count_by is_opening prefix) - (closed + count_by is_closing prefix))) (prefixes out) in
    let moved = any_same (λ prefix. nat_lt 64 ((opened + count_by is_opening (b ∷ prefix)) - (closed + count_by is_closing (b ∷ prefix))))
    (λ prefix. nat_lt 64 (((opened + cond (is_opening b) 1 0) + count_by is_opening prefix) - ((closed + cond (is_closing b) 1 0) + count_by is_closing prefix)))
    (λ prefix. same_difference _ _ _ _ (counted is_opening opened b prefix) (counted is_closing closed b prefix)) (prefixes out) in
    ap (λ x. x || list_any (λ prefix. nat_lt 64 ((opened + count_by is_opening prefix) - (closed + count_by is_closing prefix))) (map (λ prefix. b ∷ prefix) (prefixes out))) here
    ∙ ap (λ x. nat_lt 64 (opened - closed) || x) (behind ∙ moved)

at_most : (opened closed : ℕ) → opened ≤ closed + 64 → nat_lt 64 (opened - closed) ≡ false
at_most opened closed le = le-ltb 64 (opened - closed) (omega arith)

same_counts : (a b c d : ℕ) (out : List ℕ) → a ≡ c → b ≡ d → is_deep_after a b out ≡ is_deep_after c d out
same_counts a b c d out e f = rw (e, f) refl

-- ---- a byte at a time, with what is left behind it

pub inside_ends : (n : Nesting) (quote b : ℕ) (rest : List ℕ) → n.quote ≡ Some quote → b ≡ quote
    → is_deep_from (record { quote = None; opened = n.opened; closed = n.closed }) rest ≡ is_deep_from n (b ∷ rest)
unfolding is_deep_from
inside_ends n quote b rest is e = rw (is, eq-eqb b quote e) refl

pub inside_stays : (n : Nesting) (quote b : ℕ) (rest : List ℕ) → n.quote ≡ Some quote → (b ≡ quote → ⊥) → is_deep_from n rest ≡ is_deep_from n (b ∷ rest)
unfolding is_deep_from
inside_stays n quote b rest is e = rw (is, ne_eqb b quote e) refl

pub quotation : (n : Nesting) (b : ℕ) (rest : List ℕ) → n.quote ≡ None → is_quote b ≡ true
    → is_deep_from (record { quote = Some b; opened = n.opened; closed = n.closed }) rest ≡ is_deep_from n (b ∷ rest)
unfolding is_deep_from
quotation n b rest is e = rw (is, e) refl

pub one_opened : (n : Nesting) (rest : List ℕ) → n.quote ≡ None → n.opened ≤ n.closed + 64
    → is_deep_from (record { quote = n.quote; opened = n.opened + 1; closed = n.closed }) rest ≡ is_deep_from n (40 ∷ rest)
unfolding is_deep_from
one_opened n rest is le = rw is (sym (deep_more n.opened n.closed 40 (outside_quotes_from None rest) ∙ rw (at_most n.opened n.closed le) (same_counts _ _ _ _ (outside_quotes_from None rest) refl (omega arith))))

pub one_closed : (n : Nesting) (rest : List ℕ) → n.quote ≡ None → n.opened ≤ n.closed + 64
    → is_deep_from (record { quote = n.quote; opened = n.opened; closed = n.closed + 1 }) rest ≡ is_deep_from n (41 ∷ rest)
unfolding is_deep_from
one_closed n rest is le = rw is (sym (deep_more n.opened n.closed 41 (outside_quotes_from None rest) ∙ rw (at_most n.opened n.closed le) (same_counts _ _ _ _ (outside_quotes_from None rest) (omega arith) refl)))

pub passed_over : (n : Nesting) (b : ℕ) (rest : List ℕ) → n.quote ≡ None → n.opened ≤ n.closed + 64
    → (b ≡ 34 → ⊥) → (b ≡ 39 → ⊥) → (b ≡ 40 → ⊥) → (b ≡ 41 → ⊥) → is_deep_from n rest ≡ is_deep_from n (b ∷ rest)
unfolding is_deep_from
passed_over n b rest is le q a o c = rw (is, ne_eqb b 34 q, ne_eqb b 39 a) (sym (deep_more n.opened n.closed b (outside_quotes_from None rest) ∙ rw (at_most n.opened n.closed le, ne_eqb b 40 o, ne_eqb b 41 c) (same_counts _ _ _ _ (outside_quotes_from None rest) (omega arith) (omega arith))))

first_prefix : (opened closed : ℕ) (out : List ℕ) → closed + 64 < opened → is_deep_after opened closed out ≡ true
first_prefix opened closed [] more = rw (lt-ltb 64 ((opened + 0) - (closed + 0)) (omega arith)) refl
first_prefix opened closed (b ∷ out) more = rw (lt-ltb 64 ((opened + 0) - (closed + 0)) (omega arith)) refl

pub deep_here : (n : Nesting) (rest : List ℕ) → n.closed + 64 < n.opened → is_deep_from n rest ≡ true
unfolding is_deep_from
deep_here n rest more = first_prefix n.opened n.closed (outside_quotes_from n.quote rest) more

none_outside : (quote : Option ℕ) → outside_quotes_from quote [] ≡ []
none_outside None = refl
none_outside (Some q) = refl

pub deep_end : (n : Nesting) → n.opened ≤ n.closed + 64 → is_deep_from n [] ≡ false
unfolding is_deep_from
deep_end n le = ap (is_deep_after n.opened n.closed) (none_outside n.quote) ∙ rw (le-ltb 64 ((n.opened + 0) - (n.closed + 0)) (omega arith)) refl

pub deep_whole : (text : List ℕ) → is_deep_from (record { quote = None; opened = 0; closed = 0 }) text ≡ is_deep text
unfolding is_deep_from
deep_whole text = deep_start (outside_quotes_from None text)

-- too deep here, or nowhere
pub ruleset deep_or_flat = (deep_here, deep_end)

-- ---- a text in which few are opened

-- no more are opened outside quotations than in the text
outside_opens : (quote : Option ℕ) (text : List ℕ) → count_by is_opening (outside_quotes_from quote text) ≤ count_by is_opening text
outside_opens None [] = omega arith
outside_opens (Some q) [] = omega arith
outside_opens None (b ∷ rest) =
    elim (is_quote b) as (λ t. count_by is_opening (cond t (outside_quotes_from (Some b) rest) (b ∷ outside_quotes_from None rest)) ≤ count_by is_opening (b ∷ rest)) [
      | true ↦ omega (arith, outside_opens (Some b) rest, counted is_opening 0 b rest)
      | false ↦ omega (arith, outside_opens None rest, counted is_opening 0 b rest, counted is_opening 0 b (outside_quotes_from None rest))
    ]
outside_opens (Some q) (b ∷ rest) = omega (arith, outside_opens (if b == q then None else Some q) rest, counted is_opening 0 b rest)

none_deep : (opened closed : ℕ) (out : List ℕ) → opened + count_by is_opening out ≤ closed + 64 → is_deep_after opened closed out ≡ false
none_deep opened closed [] le = rw (le-ltb 64 ((opened + 0) - (closed + 0)) (omega (arith, le))) refl
none_deep opened closed (b ∷ out) le =
    let step = counted is_opening opened b out in
    deep_more opened closed b out
    ∙ ap (λ t. t || is_deep_after (opened + cond (is_opening b) 1 0) (closed + cond (is_closing b) 1 0) out) (at_most opened closed (omega (arith, le)))
    ∙ none_deep (opened + cond (is_opening b) 1 0) (closed + cond (is_closing b) 1 0) out (omega (arith, le, step))

pub few_opened : (text : List ℕ) → count_by is_opening text ≤ 64 → is_deep text ≡ false
few_opened text le =
    sym (deep_start (outside_quotes_from None text)) ∙ none_deep 0 0 (outside_quotes_from None text) (omega (arith, le, outside_opens None text))

-- ---- a text whose parentheses are counted chunk by chunk

-- chunks and what is left behind them make up the text
sum_chunks : (f : ℕ → ℕ) (size count : ℕ) (text : List ℕ)
    → sum_by (sum_by f) (first_chunks size count text) + sum_by f (drop (count * size) text) ≡ sum_by f text
sum_chunks f size zero text =
    let none : 0 * size ≡ 0 = omega arith in
    omega (arith, ap (λ n. sum_by f (drop n text)) none)
sum_chunks f size (suc count) text =
    let next : suc count * size ≡ size + count * size = omega arith in
    let left : drop (suc count * size) text ≡ drop (count * size) (drop size text)
    = ap (λ n. drop n text) next ∙ sym (drop-drop (count * size) size text) in
    let more = sum_chunks f size count (drop size text) in
    omega (arith, ap (sum_by f) left, more, sum_by-take-drop f text size, sum_by-cons (sum_by f) (take size text) (first_chunks size count (drop size text)))

pub opened_in_chunks : (size count : ℕ) (text rest : List ℕ) (chunks : List (List ℕ))
    → chunks ≡ first_chunks size count text → rest ≡ drop (count * size) text
    → sum_by (count_by is_opening) chunks + count_by is_opening rest ≡ count_by is_opening text
opened_in_chunks size count text rest chunks front back = rw (front, back) (sum_chunks (λ x. cond (is_opening x) 1 0) size count text)

-- one byte more, whatever it is
pub ruleset passed = (inside_ends, inside_stays, quotation, one_opened, one_closed, passed_over)
