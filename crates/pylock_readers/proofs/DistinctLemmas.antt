-- Lemmas on texts without repeats, where those that were seen are the keys of a set.
use Rattle.std.proofs.Common.{◌≡◌, ◌∙◌, ℕ, Bool, true, false, not, ◌&&◌, ◌||◌, cond, List, [], ◌∷◌, ◌++◌, filter, Ordering, Less, Equal, Greater, String, Global, string_bytes, nat_cmp, is_eq, refl, ap, sym, append_assoc}
use Rattle.std.proofs.lemmas.Bool.{false≢true}
use Rattle.std.specs.BTreeSet.{insert_key}
use Rattle.std.specs.Cmp.Lexicographic.{slice_cmp}
use Rattle.std.specs.List.{list_any}
use Rattle.std.specs.Ordering.{match_ordering}
use Rattle.std.specs.Str.{bytes_eq}
use Rattle.std.specs.String.{string_cmp}
use Rattle.std.proofs.lemmas.Map.Text.{is_eq-slice_cmp}
use Rattle.pylock_readers.specs.Text.{has_text, is_text}
use Rattle.pylock_readers.specs.Lock.Head.{distinct_texts}
use Rattle.pylock_readers.proofs.TableLemmas.{same_key_is}

or_same : (b c d : Bool) → b ≡ d → (b || c) ≡ (d || (b || c))
or_same true c true is = refl
or_same true c false is = refl
or_same false c true is = absurd (false≢true is)
or_same false c false is = refl

or_swap : (a b c : Bool) → (a || (b || c)) ≡ (b || (a || c))
or_swap true true c = refl
or_swap true false c = refl
or_swap false b c = refl

-- keys that gained one
gains : (keys : List (String Global)) (k : String Global) (q : List ℕ) → has_text (insert_key string_cmp keys k) q ≡ (is_text q k || has_text keys q)
gains [] k q = refl
gains (y ∷ ys) k q = by (string_cmp k y) refl (gains ys k q)
  where
    by : (o : Ordering) → string_cmp k y ≡ o → has_text (insert_key string_cmp ys k) q ≡ (is_text q k || has_text ys q)
        → has_text (match_ordering o (k ∷ y ∷ ys) (y ∷ ys) (y ∷ insert_key string_cmp ys k)) q ≡ (is_text q k || has_text (y ∷ ys) q)
    by Less is more = refl
    by Equal is more =
        or_same (is_text q y) (has_text ys q) (is_text q k)
        (ap (λ text. is_eq (slice_cmp nat_cmp q text)) (sym (same_key_is (string_bytes k) (string_bytes y) (ap is_eq is))))
    by Greater is more = ap (λ b. is_text q y || b) more ∙ or_swap (is_text q y) (is_text q k) (has_text ys q)

-- the texts that no key has_text
abbrev pub unseen : List (String Global) → List (List ℕ) → List (List ℕ)
unseen keys texts = filter (λ q. not (has_text keys q)) texts

-- two tests in turn are one
filter_both : (p q r : List ℕ → Bool) → ((t : List ℕ) → (p t && q t) ≡ r t) → (ts : List (List ℕ)) → filter p (filter q ts) ≡ filter r ts
filter_both p q r same [] = refl
filter_both p q r same (t ∷ ts) =
    by (q t) (p t) refl (filter_both p q r same ts) ∙ ap (λ b. cond b (t ∷ filter r ts) (filter r ts)) (same t)
  where
    by : (b c : Bool) → p t ≡ c → filter p (filter q ts) ≡ filter r ts
        → filter p (cond b (t ∷ filter q ts) (filter q ts)) ≡ cond (p t && b) (t ∷ filter r ts) (filter r ts)
    by true true is more = rw is (ap (λ rest. t ∷ rest) more)
    by true false is more = rw is more
    by false true is more = rw is more
    by false false is more = rw is more

not_either : (a b c : Bool) → c ≡ (b || a) → (not a && not b) ≡ not c
not_either true true c is = rw is
not_either true false c is = rw is
not_either false true c is = rw is
not_either false false c is = rw is

-- the texts after one that no key of the larger set has_text
unseen_after : (keys : List (String Global)) (k : String Global) (texts : List (List ℕ))
    → unseen keys (filter (λ other. not (bytes_eq other (string_bytes k))) texts) ≡ unseen (insert_key string_cmp keys k) texts
unseen_after keys k texts =
    filter_both (λ q. not (has_text keys q)) (λ q. not (bytes_eq q (string_bytes k))) (λ q. not (has_text (insert_key string_cmp keys k) q))
    (λ q. not_either (has_text keys q) (bytes_eq q (string_bytes k)) (has_text (insert_key string_cmp keys k) q)
    (gains keys k q ∙ ap (λ b. b || has_text keys q) (is_eq-slice_cmp q (string_bytes k)))) texts

-- a new text moves to those that were kept
pub new_text : (once : List (List ℕ)) (keys : List (String Global)) (k : String Global) (rest : List (List ℕ)) → has_text keys (string_bytes k) ≡ false
    → (once ++ string_bytes k ∷ []) ++ unseen (insert_key string_cmp keys k) (distinct_texts rest) ≡ once ++ unseen keys (distinct_texts (string_bytes k ∷ rest))
new_text once keys k rest fresh =
    append_assoc once (string_bytes k ∷ []) (unseen (insert_key string_cmp keys k) (distinct_texts rest))
    ∙ ap (λ more. once ++ string_bytes k ∷ more) (sym (unseen_after keys k (distinct_texts rest)))
    ∙ ap (λ b. once ++ cond (not b) (string_bytes k ∷ left) left) (sym fresh)
  where
    left : List (List ℕ)
    left = unseen keys (filter (λ other. not (bytes_eq other (string_bytes k))) (distinct_texts rest))

-- a repeated text is let go
pub repeated_text : (once : List (List ℕ)) (keys : List (String Global)) (k : String Global) (rest : List (List ℕ)) → has_text keys (string_bytes k) ≡ true
    → once ++ unseen (insert_key string_cmp keys k) (distinct_texts rest) ≡ once ++ unseen keys (distinct_texts (string_bytes k ∷ rest))
repeated_text once keys k rest seen =
    ap (λ more. once ++ more) (sym (unseen_after keys k (distinct_texts rest)))
    ∙ ap (λ b. once ++ cond (not b) (string_bytes k ∷ left) left) (sym seen)
  where
    left : List (List ℕ)
    left = unseen keys (filter (λ other. not (bytes_eq other (string_bytes k))) (distinct_texts rest))

-- where nothing was seen, all are unseen
pub unseen_none : (texts : List (List ℕ)) → unseen [] texts ≡ texts
unseen_none [] = refl
unseen_none (t ∷ ts) = ap (λ rest. t ∷ rest) (unseen_none ts)

-- what a set answers to a text that it didn't have
pub was_new : (had added : Bool) → added ≡ not had → added ≡ true → had ≡ false
was_new true added is new = sym (sym is ∙ new)
was_new false added is new = refl

-- ---- what the set has

any_more : (p : List ℕ → Bool) (xs : List (List ℕ)) (x : List ℕ) → list_any p (xs ++ x ∷ []) ≡ (p x || list_any p xs)
any_more p [] x = refl
any_more p (y ∷ ys) x = ap (λ b. p y || b) (any_more p ys x) ∙ or_swap (p y) (p x) (list_any p ys)

-- a set of some texts
abbrev pub Holds : List (String Global) → List (List ℕ) → Type 0
Holds keys texts = (q : List ℕ) → has_text keys q ≡ list_any (bytes_eq q) texts

pub holds_new : (keys : List (String Global)) (k : String Global) (texts : List (List ℕ)) → Holds keys texts → Holds (insert_key string_cmp keys k) (texts ++ string_bytes k ∷ [])
holds_new keys k texts holds q =
    gains keys k q ∙ ap (λ b. b || has_text keys q) (is_eq-slice_cmp q (string_bytes k))
    ∙ ap (λ b. bytes_eq q (string_bytes k) || b) (holds q) ∙ sym (any_more (bytes_eq q) texts (string_bytes k))

pub holds_there : (keys : List (String Global)) (k : String Global) (texts : List (List ℕ)) → has_text keys (string_bytes k) ≡ true → Holds keys texts → Holds (insert_key string_cmp keys k) texts
holds_there keys k texts had holds q = gains keys k q ∙ by (is_text q k) refl ∙ holds q
  where
    by : (b : Bool) → is_text q k ≡ b → (b || has_text keys q) ≡ has_text keys q
    by true is = sym (ap (has_text keys) (same_key_is q (string_bytes k) is) ∙ had)
    by false is = refl

-- texts without repeats, and the set of them
pub ruleset once_each = (unseen_none, repeated_text, holds_there)
