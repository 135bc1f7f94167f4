-- What a call leaves in a buffer, and what it answers of a slot.
use Rattle.std.proofs.Common.{◌≡◌, ◌≤◌, ◌++◌, ℕ, ℤ, pos, false, List, drop, length, refl, sym, subst, if◌then◌else◌, arith}
use Rattle.std.proofs.lemmas.Bool.Decides.{nat_tests}
use Rattle.std.specs.Prelude.{Option, None, Some, IfSome, SomeIff, Result, Ok, Err}
use Rattle.pylock_slots.specs.Answer.{Tells, Writes, WritesWith, is_short, written as buffer_after}
use Rattle.pylock_slots.specs.Refusal.{number}
use Rattle.pylock_slots.specs.declared.object.Object.{Object}
use Rattle.pylock_slots.specs.declared.refusal.Refusal.{Refusal}
use Rattle.pylock_slots.specs.declared.refusal.Refusal.TheVariants.{Empty, Memory}

pub writes_ok : {X : Type 0} {definition : Result (List X) Refusal} {items old new : List X} {needed : ℕ} {code : ℤ}
    → definition ≡ Ok items → code ≡ (if is_short old items then pos 4 else pos 0)
    → new ≡ buffer_after old (Ok items) → Writes definition old new needed (length items) code
writes_ok {items = items} gives code buffer = (Ok items, gives, code, buffer, refl)

pub writes_err : {X : Type 0} {definition : Result (List X) Refusal} {old : List X} {needed : ℕ} {code : ℤ} {refusal : Refusal}
    → ((refusal ≡ Memory → ⊥) → definition ≡ Err refusal) → code ≡ number refusal
    → Writes definition old old needed needed code
writes_err {refusal = refusal} gives code = (Err refusal, gives, code, refl, refl)

-- where the call wrote the items itself
pub writes_itself : {definition : Result (List ℕ) Refusal} {items old new : List ℕ} {needed count : ℕ}
    → definition ≡ Ok items → count ≡ length items → count ≤ length old → new ≡ items ++ drop count old
    → Writes definition old new needed count (pos 0)
writes_itself {items = items} {old = old} gives counted fits put =
    let ample : is_short old items ≡ false = grind (arith, nat_tests) in
    (Ok items, gives, rw ample refl, rw (ample, ← counted) put, counted)

pub writes_some : (A : Type 0) (definition : Result (List ℕ) Refusal) (items old new : List ℕ) (result : Option ℕ) → definition ≡ Ok items
    → SomeIff result A (length items) → IfSome result (λ count. count ≤ length old) → IfSome result (λ count. new ≡ items ++ drop count old)
    → IfSome result (λ count. (needed : ℕ) → Writes definition old new needed count (pos 0))
writes_some A definition items old new None gives counted fits put = tt
writes_some A definition items old new (Some count) gives counted fits put = λ needed. writes_itself gives counted.1 fits put

-- where the buffer was as before when another call wrote them
pub writes_later : {definition : Result (List ℕ) Refusal} {old before new : List ℕ} {needed needed' : ℕ} {code : ℤ}
    → before ≡ old → Writes definition before new needed needed' code → Writes definition old new needed needed' code
writes_later {definition = definition} {new = new} {needed = needed} {needed' = needed'} {code = code} same writes =
    subst (λ (o : List ℕ). Writes definition o new needed needed' code) same writes

pub with_ok : {X V : Type 0} {definition : Result (List X × V) Refusal} {items old new : List X} {needed : ℕ} {value after : V} {code : ℤ}
    → definition ≡ Ok (items, after) → code ≡ (if is_short old items then pos 4 else pos 0)
    → new ≡ buffer_after old (Ok items) → WritesWith definition old new needed (length items) value after code
with_ok {items = items} {after = after} gives code buffer = (Ok (items, after), gives, code, buffer, refl, refl)

pub with_err : {X V : Type 0} {definition : Result (List X × V) Refusal} {old : List X} {needed : ℕ} {value : V} {code : ℤ} {refusal : Refusal}
    → ((refusal ≡ Memory → ⊥) → definition ≡ Err refusal) → code ≡ number refusal
    → WritesWith definition old old needed needed value value code
with_err {refusal = refusal} gives code = (Err refusal, gives, code, refl, refl, refl)

pub edited_ok : {definition : Result (Option Object) Refusal} {old new : Option Object}
    → definition ≡ Ok new → Tells definition old new (pos 0)
edited_ok {new = new} gives = (Ok new, gives, refl, refl)

pub edited_err : {definition : Result (Option Object) Refusal} {old new : Option Object} {code : ℤ} {refusal : Refusal}
    → ((refusal ≡ Memory → ⊥) → definition ≡ Err refusal) → code ≡ number refusal → new ≡ old
    → Tells definition old new code
edited_err {refusal = refusal} gives code same = (Err refusal, gives, code, same)

-- the same where a slot was taken out and put back, with what its places `f` and `g` have besides
pub at_slot : {X : Type 0} (f g : Option Object → X) (definition : Option Object → Result X Refusal) {before old after new : Option Object}
    {code code' : ℤ} → before ≡ old → new ≡ after → code' ≡ code
    → Tells (definition before) (f before) (g after) code → Tells (definition old) (f old) (g new) code'
at_slot f g definition {before = before} {after = after} {new = new} {code' = code'} was is same tells =
    subst (λ (o : Option Object). Tells (definition o) (f o) (g new) code') was
    (subst (λ (n : Option Object). Tells (definition before) (f before) (g n) code') (sym is)
    (subst (λ (z : ℤ). Tells (definition before) (f before) (g after) z) (sym same) tells))

-- and of an empty slot
pub at_empty : {X : Type 0} (f : Option Object → X) (definition : Option Object → Result X Refusal) {old new : Option Object} {code : ℤ}
    → definition None ≡ Err Empty → None ≡ old → new ≡ None → code ≡ pos 3 → Tells (definition old) (f old) (f new) code
at_empty f definition refused was is same = at_slot f f definition was is same (Err Empty, λ _. refused, refl, refl)

-- an object in its slot, and a value at its place
pub told_with : {T : Type 0} {definition : Result (Option Object × T) Refusal} {old new : Option Object} {before after : T}
    → definition ≡ Ok (new, after) → Tells definition (old, before) (new, after) (pos 0)
told_with {new = new} {after = after} gives = (Ok (new, after), gives, refl, refl)

-- what a call told, by another name of its definition
pub told_as : {X : Type 0} {definition wanted : Result X Refusal} {old new : X} {code code' : ℤ}
    → definition ≡ wanted → code' ≡ code → Tells definition old new code → Tells wanted old new code'
told_as {X = X} {definition = definition} {old = old} {new = new} {code' = code'} is same tells =
    subst (λ (d : Result X Refusal). Tells d old new code') is
    (subst (λ (z : ℤ). Tells definition old new z) (sym same) tells)

pub ruleset written = (writes_ok, writes_err)

pub ruleset written_with = (with_ok, with_err)

pub ruleset told = (edited_ok, edited_err)
