-- Lines that are written while they are made.
use Rattle.std.proofs.Common.{◌≡◌, ℕ, ◌+◌, ◌<◌, ◌≤◌, List, [], ◌∷◌, ◌++◌, length, take, drop, get_or, flat_map, Result, Ok, Err, sym, ap, ◌∙◌, append_assoc, append-nil, subst, take-append-drop}
use Rattle.std.proofs.lemmas.Grind.{flat_map-append}
use Rattle.std.proofs.lemmas.List.{take_all, take_more}
use Rattle.pylock_run.specs.Inner.Faults.{IsWriteFault}
use Rattle.pylock_run.specs.Inner.Writes.{Pours}
use Rattle.pylock_run.specs.Report.Print.{Prints}
use Rattle.pylock_run.specs.Stream.{SinkValue, TakesPrefix, one_more}
use Rattle.pylock_run.specs.declared.report.fault.RunFault.{RunFault}
use Rattle.pylock_run.specs.declared.report.fault.RunFault.TheVariants.{Memory}
use Rattle.pylock_run.proofs.RunLemmas.{HasCause-map}
use Rattle.pylock_run.proofs.WriteLemmas.{Pours-all, Pours-more, prefix_after, prefix_after_all, prefix_more, prefix_same}

more_lines : {X : Type 0} (f : X → List ℕ) (lines : List X) (i : ℕ) (line : X) → i < length lines → line ≡ get_or lines i line
    → flat_map f (take (i + 1) lines) ≡ flat_map f (take i lines) ++ f line
more_lines f lines i line within is =
    let front = flat_map f (take i lines) in
    ap (flat_map f) (take_more lines i line within) ∙ flat_map-append f (take i lines) (get_or lines i line ∷ [])
    ∙ ap (λ t. front ++ t) (append-nil (f (get_or lines i line))) ∙ ap (λ x. front ++ f x) (sym is)

rest_lines : {X : Type 0} (f : X → List ℕ) (text : List ℕ) (lines : List X) (i : ℕ)
    → (text ++ flat_map f (take i lines)) ++ flat_map f (drop i lines) ≡ text ++ flat_map f lines
rest_lines f text lines i =
    append_assoc text (flat_map f (take i lines)) (flat_map f (drop i lines))
    ∙ ap (λ t. text ++ t) (sym (flat_map-append f (take i lines) (drop i lines)) ∙ ap (flat_map f) (take-append-drop i lines))

-- one more line waits, or is written with what waited
with_line : {X : Type 0} (f : X → List ℕ) (text : List ℕ) (lines : List X) (i : ℕ) (line : X) → i < length lines → line ≡ get_or lines i line
    → (text ++ flat_map f (take i lines)) ++ f line ≡ text ++ flat_map f (take (i + 1) lines)
with_line f text lines i line within is =
    append_assoc text (flat_map f (take i lines)) (f line) ∙ ap (λ t. text ++ t) (sym (more_lines f lines i line within is))

pub lines_poured : {X : Type 0} (f : X → List ℕ) (text : List ℕ) (lines : List X) (i : ℕ) (line : X) (old mid new : SinkValue) (out full last : List ℕ)
    → i < length lines → line ≡ get_or lines i line → Pours old mid (text ++ flat_map f (take i lines)) out → full ≡ out ++ f line → Pours mid new full last
    → Pours old new (text ++ flat_map f (take (i + 1) lines)) last
lines_poured f text lines i line old mid new out full last within is before pushed after =
    subst (λ t. Pours old new t last) (with_line f text lines i line within is)
    (Pours-more old mid new (text ++ flat_map f (take i lines)) out (f line) last before (subst (λ t. Pours mid new t last) pushed after))

-- an allocation was refused
pub lines_refused : {X : Type 0} (f : X → List ℕ) (text : List ℕ) (lines : List X) (i status : ℕ) (old mid : SinkValue) (out : List ℕ)
    → Pours old mid (text ++ flat_map f (take i lines)) out → Prints (record { text = text ++ flat_map f lines; status = status }) old mid (Err Memory)
lines_refused f text lines i status old mid out before = record {
  text = tt;
  status = tt;
  counted = tt;
  prefix = record {
    prefix = before.written;
    rest = out ++ flat_map f (drop i lines);
    whole = sym (rest_lines f text lines i) ∙ ap (λ t. t ++ flat_map f (drop i lines)) before.whole
        ∙ append_assoc before.written out (flat_map f (drop i lines));
    held = before.writes.held;
  };
  fault = before.writes.counted;
}

-- a write failed behind one more line
pub lines_unwritten : {X : Type 0} (f : X → List ℕ) (text : List ℕ) (lines : List X) (i status : ℕ) (line : X) (old mid new : SinkValue)
    (out full : List ℕ) (fault : RunFault)
    → i < length lines → line ≡ get_or lines i line → Pours old mid (text ++ flat_map f (take i lines)) out → full ≡ out ++ f line
    → TakesPrefix mid new full → IsWriteFault mid new fault → Prints (record { text = text ++ flat_map f lines; status = status }) old new (Err fault)
lines_unwritten f text lines i status line old mid new out full fault within is before pushed prefix why =
    let front = text ++ flat_map f (take i lines) in
    let rest = flat_map f (drop (i + 1) lines) in record {
      text = tt;
      status = tt;
      counted = tt;
      prefix = prefix_same old new ((front ++ f line) ++ rest) (text ++ flat_map f lines)
          (ap (λ t. t ++ rest) (with_line f text lines i line within is) ∙ rest_lines f text lines (i + 1))
          (prefix_more old new (front ++ f line) rest (prefix_after old mid new front out (f line) before (prefix_same mid new full (out ++ f line) pushed prefix)));
      fault = HasCause-map _ _ fault (λ none. none) (λ failed. failed ∙ ap one_more before.writes.counted) (λ none. none) (λ none. absurd none) why;
    }

-- what waits is printed
last_printed : (result : Result ℕ RunFault) (text : List ℕ) (status : ℕ) (old mid new : SinkValue) (out : List ℕ)
    → Pours old mid text out → Prints (record { text = out; status = status }) mid new result → Prints (record { text = text; status = status }) old new result
last_printed (Ok status') text status old mid new out before printed =
    let all = Pours-all old mid new text out before (record { held = printed.text; counted = printed.counted }) in record {
      text = all.held;
      status = printed.status;
      counted = all.counted;
      prefix = tt;
      fault = tt;
    }
last_printed (Err fault) text status old mid new out before printed = record {
  text = tt;
  status = tt;
  counted = tt;
  prefix = prefix_after_all old mid new text out before printed.prefix;
  fault = HasCause-map _ _ fault (λ none. none) (λ failed. failed ∙ ap one_more before.writes.counted) (λ none. none)
      (λ same. same ∙ before.writes.counted) printed.fault;
}

pub lines_printed : {X : Type 0} (f : X → List ℕ) (text : List ℕ) (lines : List X) (i status : ℕ) (old mid new : SinkValue) (out piece : List ℕ)
    (result : Result ℕ RunFault) → length lines ≤ i → Pours old mid (text ++ flat_map f (take i lines)) out → piece ≡ out
    → Prints (record { text = piece; status = status }) mid new result → Prints (record { text = text ++ flat_map f lines; status = status }) old new result
lines_printed f text lines i status old mid new out piece result end before same printed =
    last_printed result (text ++ flat_map f lines) status old mid new out
    (subst (λ xs. Pours old mid (text ++ flat_map f xs) out) (take_all _ _ end) before)
    (subst (λ t. Prints (record { text = t; status = status }) mid new result) same printed)
