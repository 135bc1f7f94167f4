-- The tokens of a text, one after another.
use Rattle.std.proofs.Common.{length-drop, ◌≡◌, ℕ, zero, suc, ◌+◌, ◌-◌, ◌<◌, ◌≤◌, true, false, List, [], ◌∷◌, length, drop, take, Option, Some, None, Ok, Err, ok_or, refl, ap, sym, ◌∙◌, arith, inl, inr}
use Rattle.std.specs.Prelude.{option_map, ◌==◌}
use Rattle.std.specs.List.{prefix_len}
use Rattle.std.proofs.lemmas.Bool.Decides.{nat_tests}
use Rattle.pytext.specs.Bytes.{is_white, is_word_byte}
use Rattle.pytext.specs.Options.{◌>>=◌}
use Rattle.pytext.specs.White.{after_white}
use Rattle.pyver_core.specs.Set.Normal.{operator_text}
use Rattle.pyver_core.specs.declared.set.specifier.Operator.{Operator}
use Rattle.pyver_core.specs.declared.set.specifier.Operator.TheVariants as operator
use Rattle.pytext.proofs.OptionsLemmas.{map_some}
use Rattle.std.proofs.lemmas.Bool.{cases_Bool}
use Rattle.pymark_core.proofs.ChoiceLemmas.{cond_cases}
use Rattle.pymark_core.specs.Inner.LentToken.{next_token, first_token}
use Rattle.pymark_core.specs.Marker.Reading.{ReaderState, final_tree, read_tokens, next_state}
use Rattle.pymark_core.specs.Marker.Tree.{Tree}
use Rattle.pymark_core.specs.declared.marker.error.MarkerError.{MarkerError}
use Rattle.pymark_core.specs.declared.marker.error.MarkerError.TheVariants.{Syntax}
use Rattle.pymark_core.specs.Marker.Token.{Token, opening, closing, sign, word, quoted, is_quote, operator_in, quoted_at, token_at, token_by, token_len, tokens, tokens_after, word_in}

skip : (n : ℕ) (text : List ℕ) → tokens_after n text ≡ tokens (drop n text)
unfolding tokens_after
skip zero text = refl
skip (suc n) [] = refl
skip (suc n) (b ∷ rest) = skip n rest

white_first : (b : ℕ) (rest : List ℕ) → is_white b ≡ true → tokens (b ∷ rest) ≡ tokens rest
unfolding tokens_after
white_first b rest e = rw e refl

drop_suc : (n b : ℕ) (rest : List ℕ) → drop (1 + n) (b ∷ rest) ≡ drop n rest
drop_suc n b rest = let e : 1 + n ≡ suc n = omega arith in rw e refl

pub past_white_tokens : (text : List ℕ) → tokens text ≡ tokens (after_white text)
past_white_tokens [] = refl
past_white_tokens (b ∷ rest) = elim (cases_Bool (is_white b)) [
  | inl e ↦ white_first b rest e ∙ past_white_tokens rest ∙ rw e (ap tokens (sym (drop_suc (prefix_len is_white rest) b rest)))
  | inr e ↦ rw e refl
]

-- what follows the white space isn't white
not_white : (text : List ℕ) (b : ℕ) (rest : List ℕ) → after_white text ≡ b ∷ rest → is_white b ≡ false
not_white [] b rest e = absurd cc
not_white (c ∷ text) b rest e = elim (cases_Bool (is_white c)) [
  | inl w ↦ let behind : drop (1 + prefix_len is_white text) (c ∷ text) ≡ b ∷ rest = rw w at e in not_white text b rest (sym (drop_suc (prefix_len is_white text) c text) ∙ behind)
  | inr w ↦ let whole : c ∷ text ≡ b ∷ rest = rw w at e in let same : c ≡ b = cc in rw (← same) w
]

operator_some : (o : Operator) → 1 ≤ length (operator_text o)
operator_some operator.Equal = omega arith
operator_some o = omega arith

word_some : (b : ℕ) (rest : List ℕ) → is_word_byte b ≡ true → 1 ≤ length (word_in (b ∷ rest))
word_some b rest e = rw e (let at : take (1 + prefix_len is_word_byte rest) (b ∷ rest) ≡ b ∷ take (prefix_len is_word_byte rest) rest = (let n : 1 + prefix_len is_word_byte rest ≡ suc (prefix_len is_word_byte rest) = omega arith in rw n refl) in rw at (omega arith))

by_some : (b : ℕ) (rest : List ℕ) (t : Token) → token_by b (b ∷ rest) ≡ Some t → 1 ≤ token_len t
by_some b rest t e = elim (cond_cases (b == 40) _ _ _ e) [
  | inl w ↦ let is : opening ≡ t = cc in rw (← is) (omega arith)
  | inr v ↦ elim (cond_cases (b == 41) _ _ _ v.1) [
    | inl w ↦ let is : closing ≡ t = cc in rw (← is) (omega arith)
    | inr u ↦ elim (cond_cases (is_quote b) _ _ _ u.1) [
      | inl w ↦ let found = map_some (quoted_at b (drop 1 (b ∷ rest))) quoted t w.1 in rw (← found.2) (omega arith)
      | inr r ↦ elim (cond_cases (is_word_byte b) _ _ _ r.1) [
        | inl w ↦ let is : word (word_in (b ∷ rest)) ≡ t = cc in rw (← is) (word_some b rest w.0)
        | inr w ↦ let found = map_some (operator_in (b ∷ rest)) sign t w.1 in rw (← found.2) (operator_some found.0)
      ]
    ]
  ]
]

pub token_some : (text : List ℕ) (t : Token) → token_at text ≡ Some t → 1 ≤ token_len t
unfolding token_at
token_some [] t e = absurd cc
token_some (b ∷ rest) t e = by_some b rest t e

drop_behind : (n b : ℕ) (rest : List ℕ) → 1 ≤ n → drop (n - 1) rest ≡ drop n (b ∷ rest)
drop_behind zero b rest le = absurd (omega arith)
drop_behind (suc n) b rest le = ap (λ k. drop k rest) (omega arith)

-- the tokens after the one that stands in front
tokens_of : Option (Option (Token × List ℕ)) → Option (List Token)
tokens_of None = None
tokens_of (Some None) = Some []
tokens_of (Some (Some next)) = option_map (λ others. next.0 ∷ others) (tokens next.1)

front_tokens : (b : ℕ) (rest : List ℕ) (o : Option Token) → is_white b ≡ false → token_at (b ∷ rest) ≡ o → tokens (b ∷ rest) ≡ tokens_of (option_map Some (option_map (λ t. (t, drop (token_len t) (b ∷ rest))) o))
unfolding tokens_after tokens_of
front_tokens b rest None white e = rw (white, e) refl
front_tokens b rest (Some t) white e = rw (white, e) (ap (option_map (λ others. t ∷ others)) (skip (token_len t - 1) rest ∙ ap tokens (drop_behind (token_len t) b rest (token_some (b ∷ rest) t e))))

next_at : (text w : List ℕ) → after_white text ≡ w → tokens text ≡ tokens_of (next_token text)
unfolding tokens_of tokens_after
next_at text [] e = past_white_tokens text ∙ rw e refl
next_at text (b ∷ rest) e =
    let some : (length (b ∷ rest) == 0) ≡ false = grind (arith, nat_tests) in
    past_white_tokens text ∙ rw (e, some) (front_tokens b rest (token_at (b ∷ rest)) (not_white text b rest e) refl)

next_tokens : (text : List ℕ) → tokens text ≡ tokens_of (next_token text)
next_tokens text = next_at text (after_white text) refl

from_ok : {X : Type 0} (o : Option X) (x : X) → ok_or o Syntax ≡ Ok x → o ≡ Some x
from_ok None x e = absurd cc
from_ok (Some y) x e = let same : y ≡ x = cc in ap Some same

pub from_err : {X : Type 0} (o : Option X) (m : MarkerError) → ok_or o Syntax ≡ Err m → (o ≡ None) × (m ≡ Syntax)
from_err None m e = let same : m ≡ Syntax = cc in (refl, same)
from_err (Some y) m e = absurd cc

-- ---- a turn of reading

bound_none : (f : List Token → Option Tree) (o : Option (List Token)) → ((ts : List Token) → f ts ≡ None) → (o >>= f) ≡ None
bound_none f None none = refl
bound_none f (Some ts) none = none ts

after_front : (state : ReaderState) (t : Token) (o : Option (List Token)) → (option_map (λ others. t ∷ others) o >>= read_tokens state) ≡ (o >>= λ ts. next_state state t >>= λ next. read_tokens next ts)
unfolding read_tokens
after_front state t None = refl
after_front state t (Some ts) = refl

pub read_tokens_next : (state next : ReaderState) (t : Token) (text behind : List ℕ) → ok_or (next_token text) Syntax ≡ Ok (Some (t, behind)) → ok_or (next_state state t) Syntax ≡ Ok next
    → (tokens behind >>= read_tokens next) ≡ (tokens text >>= read_tokens state)
unfolding tokens_of
read_tokens_next state next t text behind front stepped =
    sym (ap (λ o. o >>= read_tokens state) (next_tokens text) ∙ rw (from_ok (next_token text) (Some (t, behind)) front) (after_front state t (tokens behind) ∙ rw (from_ok (next_state state t) next stepped) refl))

pub read_tokens_stuck : (state : ReaderState) (m : MarkerError) (t : Token) (text behind : List ℕ) → ok_or (next_token text) Syntax ≡ Ok (Some (t, behind)) → ok_or (next_state state t) Syntax ≡ Err m
    → ok_or (tokens text >>= read_tokens state) Syntax ≡ Err m
unfolding tokens_of
read_tokens_stuck state m t text behind front stepped =
    let none = from_err (next_state state t) m stepped in
    let all : (tokens text >>= read_tokens state) ≡ None = ap (λ o. o >>= read_tokens state) (next_tokens text) ∙ rw (from_ok (next_token text) (Some (t, behind)) front) (after_front state t (tokens behind) ∙ rw none.0 (bound_none (λ ts. None) (tokens behind) (λ ts. refl))) in
    rw (all, none.1) refl

pub read_tokens_bad : (state : ReaderState) (m : MarkerError) (text : List ℕ) → ok_or (next_token text) Syntax ≡ Err m → ok_or (tokens text >>= read_tokens state) Syntax ≡ Err m
unfolding tokens_of
read_tokens_bad state m text front =
    let none = from_err (next_token text) m front in
    let all : (tokens text >>= read_tokens state) ≡ None = ap (λ o. o >>= read_tokens state) (next_tokens text) ∙ rw none.0 refl in
    rw (all, none.1) refl

pub read_tokens_end : (state : ReaderState) (text : List ℕ) → ok_or (next_token text) Syntax ≡ Ok None → (tokens text >>= read_tokens state) ≡ final_tree state
unfolding tokens_of read_tokens
read_tokens_end state text front = ap (λ o. o >>= read_tokens state) (next_tokens text) ∙ rw (from_ok (next_token text) None front) refl

token_less : (rest : List ℕ) (o : Option Token) (t : Token) (behind : List ℕ) → token_at rest ≡ o → option_map {U = Token × List ℕ} (λ x. (x, drop (token_len x) rest)) o ≡ Some (t, behind) → 0 < length rest → length behind < length rest
token_less rest None t behind is e some = absurd cc
token_less rest (Some x) t behind is e some =
    let found : Token × List ℕ = (x, drop (token_len x) rest) in
    let given : Token × List ℕ = (t, behind) in
    let pair : found ≡ given = cc in
    let same : drop (token_len x) rest ≡ behind = ap (λ (q : Token × List ℕ). q.1) pair in
    let least = token_some rest x is in
    let len = length-drop (token_len x) rest in
    let lens = ap length same in
    omega arith

less_at : (text w : List ℕ) (t : Token) (behind : List ℕ) → after_white text ≡ w → next_token text ≡ Some (Some (t, behind)) → length behind < length w
less_at text [] t behind is e = let end = rw is at e in absurd cc
less_at text (b ∷ rest) t behind is e =
    let some : (length (b ∷ rest) == 0) ≡ false = grind (arith, nat_tests) in
    let front : option_map Some (first_token (b ∷ rest)) ≡ Some (Some (t, behind)) = rw (is, some) at e in
    let found = map_some (first_token (b ∷ rest)) Some (Some (t, behind)) front in
    let same : found.0 ≡ (t, behind) = cc in
    token_less (b ∷ rest) (token_at (b ∷ rest)) t behind refl (found.1 ∙ ap Some same) (omega arith)

pub front_less : (text : List ℕ) (t : Token) (behind : List ℕ) → ok_or (next_token text) Syntax ≡ Ok (Some (t, behind)) → length behind < length text
front_less text t behind e =
    let less = less_at text (after_white text) t behind refl (from_ok (next_token text) (Some (t, behind)) e) in
    let len = length-drop (prefix_len is_white text) text in
    omega arith
