-- What the answer of parsing says of the text.
use Rattle.std.proofs.Common.{◌≡◌, ℕ, true, false, List, Option, Some, None, Result, Ok, Err, ok_or, refl, ap, sym, subst, ◌∙◌, inl, inr}
use Rattle.std.specs.Prelude.{IfOk, IsErrOf}
use Rattle.pytext.specs.Agreement.{Gives}
use Rattle.pytext.specs.Options.{◌>>=◌}
use Rattle.pymark_core.proofs.Lemmas.Building.Steps.{some_from_ok}
use Rattle.pytext.proofs.OptionsLemmas.{bind_some}
use Rattle.pymark_core.proofs.ChoiceLemmas.{cond_cases}
use Rattle.pymark_core.proofs.Lemmas.Marker.Reading.Sound.{read_sound}
use Rattle.pymark_core.proofs.Lemmas.Marker.Token.Tokens.{from_err}
use Rattle.pymark_core.specs.Marker.RoundTrip.{tree_read_back}
use Rattle.pymark_core.specs.Marker.Depth.{is_deep}
use Rattle.pymark_core.specs.Marker.Grammar.{MarkerText, has_misuse}
use Rattle.pymark_core.specs.Marker.Reading.{MarkerValue, marker_from, marker_of, read_tokens, initial_state, tree_text}
use Rattle.pymark_core.specs.Marker.Token.{tokens}
use Rattle.pymark_core.specs.Marker.Tree.{Tree}
use Rattle.pytext.specs.White.{trim_white}
use Rattle.pymark_core.specs.declared.marker.error.MarkerError.{MarkerError}
use Rattle.pymark_core.specs.declared.marker.error.MarkerError.TheVariants.{TooDeep, Syntax, SetMisuse, Memory}

-- ---- the answer, by what is known of the text

pub marker_deep : (text : List ℕ) → is_deep text ≡ true → marker_of text ≡ Err TooDeep
unfolding marker_of
marker_deep text e = rw e refl

pub marker_refused : (text : List ℕ) (m : MarkerError) → is_deep text ≡ false → ok_or (tree_text text) Syntax ≡ Err m → marker_of text ≡ Err m
unfolding marker_of
marker_refused text m flat e = let none = from_err (tree_text text) m e in rw (flat, none.0, none.1) refl

pub marker_misused : (text : List ℕ) (tree : Tree) → is_deep text ≡ false → ok_or (tree_text text) Syntax ≡ Ok tree → has_misuse tree ≡ true → marker_of text ≡ Err SetMisuse
unfolding marker_of
marker_misused text tree flat e misuse = rw (flat, some_from_ok (tree_text text) tree e, misuse) refl

pub marker_taken : (text : List ℕ) (tree : Tree) → is_deep text ≡ false → ok_or (tree_text text) Syntax ≡ Ok tree → has_misuse tree ≡ false
    → marker_of text ≡ Ok (record { text = trim_white text; tree = tree })
unfolding marker_of
marker_taken text tree flat e misuse = rw (flat, some_from_ok (tree_text text) tree e, misuse) refl

-- ---- trees and texts

pub text_sound : (text : List ℕ) (tree : Tree) → tree_text text ≡ Some tree → MarkerText text tree
text_sound text tree e =
    let found = bind_some (tokens text) (read_tokens initial_state) tree e in
    found.1 ∙ ap Some (read_sound found.0 tree found.2)

pub text_complete : (text : List ℕ) (tree : Tree) → MarkerText text tree → tree_text text ≡ Some tree
text_complete text tree e = ap (λ all. all >>= read_tokens initial_state) e ∙ tree_read_back tree

pub marker_whole : (text : List ℕ) (tree : Tree) → MarkerText text tree → is_deep text ≡ false → has_misuse tree ≡ false
    → marker_of text ≡ Ok (record { text = trim_white text; tree = tree })
marker_whole text tree is flat fits = marker_taken text tree flat (ap (λ o. ok_or o Syntax) (text_complete text tree is)) fits

-- ---- what an answer says

-- what is true of the text where this is the answer
abbrev pub Says : List ℕ → Result MarkerValue MarkerError → Type 0
Says text (Ok m) = (MarkerText text m.tree) × (m.text ≡ trim_white text) × (is_deep text ≡ false) × (has_misuse m.tree ≡ false)
Says text (Err TooDeep) = is_deep text ≡ true
Says text (Err Syntax) = (is_deep text ≡ false) × ((tree : Tree) → MarkerText text tree → ⊥)
Says text (Err SetMisuse) = (is_deep text ≡ false) × ((tree : Tree) × MarkerText text tree × (has_misuse tree ≡ true))
Says text (Err Memory) = ⊥

from_says : (text : List ℕ) (o : Option Tree) (r : Result MarkerValue MarkerError) → is_deep text ≡ false → tree_text text ≡ o → marker_from text o ≡ r → Says text r
from_says text None r flat is e =
    let same : Err Syntax ≡ r = e in
    rw (← same) (flat, λ tree has. (let none = sym is ∙ text_complete text tree has in absurd cc))
from_says text (Some tree) r flat is e = elim (cond_cases (has_misuse tree) (Err SetMisuse) (Ok (record { text = trim_white text; tree = tree })) r e) [
  | inl w ↦ rw (← w.1) (flat, (tree, text_sound text tree is, w.0))
  | inr w ↦ rw (← w.1) (text_sound text tree is, refl, flat, w.0)
]

pub marker_says : (text : List ℕ) (r : Result MarkerValue MarkerError) → marker_of text ≡ r → Says text r
unfolding marker_of
marker_says text r e = elim (cond_cases (is_deep text) (Err TooDeep) (marker_from text (tree_text text)) r e) [
  | inl w ↦ rw (← w.1) w.0
  | inr w ↦ from_says text (tree_text text) r w.0 refl w.1
]

-- ---- what a call says, over what it gives

pub given_ok : (text : List ℕ) (r : Result MarkerValue MarkerError) → Gives Memory (λ m. m) r (marker_of text) → IfOk r (λ m. MarkerText text m.tree)
given_ok text (Ok m) gives = (marker_says text (Ok m) gives).0
given_ok text (Err e) gives = tt

pub given_text : (text : List ℕ) (r : Result MarkerValue MarkerError) → Gives Memory (λ m. m) r (marker_of text) → IfOk r (λ m. m.text ≡ trim_white text)
given_text text (Ok m) gives = (marker_says text (Ok m) gives).1
given_text text (Err e) gives = tt

pub given_sound : (text : List ℕ) (r : Result MarkerValue MarkerError) → Gives Memory (λ m. m) r (marker_of text) → IfOk r (λ m. (is_deep text ≡ false) × (has_misuse m.tree ≡ false))
given_sound text (Ok m) gives = let says = marker_says text (Ok m) gives in (says.2, says.3)
given_sound text (Err e) gives = tt

refused : (text : List ℕ) (r : Result MarkerValue MarkerError) (e : MarkerError) → (e ≡ Memory → ⊥) → Gives Memory (λ m. m) r (marker_of text) → r ≡ Err e → Says text (Err e)
refused text r e other gives is =
    let P : Result MarkerValue MarkerError → Type 0 = λ x. Gives Memory (λ m. m) x (marker_of text) in
    let known : Gives Memory (λ m. m) (Err e) (marker_of text) = subst P is gives in
    marker_says text (Err e) (known other)

pub given_deep : (text : List ℕ) (r : Result MarkerValue MarkerError) → Gives Memory (λ m. m) r (marker_of text) → IsErrOf r TooDeep → is_deep text ≡ true
given_deep text r gives is = refused text r TooDeep (λ e. cc) gives is

pub given_syntax : (text : List ℕ) (r : Result MarkerValue MarkerError) → Gives Memory (λ m. m) r (marker_of text) → IsErrOf r Syntax → (is_deep text ≡ false) × ((tree : Tree) → MarkerText text tree → ⊥)
given_syntax text r gives is = refused text r Syntax (λ e. cc) gives is

pub given_misuse : (text : List ℕ) (r : Result MarkerValue MarkerError) → Gives Memory (λ m. m) r (marker_of text) → IsErrOf r SetMisuse
    → (is_deep text ≡ false) × ((tree : Tree) × MarkerText text tree × (has_misuse tree ≡ true))
given_misuse text r gives is = refused text r SetMisuse (λ e. cc) gives is

-- the tree that is read is the text's, and the other way round
pub ruleset text_is = (text_sound, text_complete)

-- what a call gives
pub ruleset given_marker = (given_ok, given_text, given_sound, given_deep)

-- the answer, by what is known of the text
pub ruleset marker_answers = (marker_deep, marker_refused, marker_misused, marker_taken)
