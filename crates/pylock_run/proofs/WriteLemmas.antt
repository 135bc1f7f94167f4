-- How far the write loop has come, and texts that are written in parts.
use Rattle.std.proofs.Common.{◌≡◌, ℕ, ◌+◌, ◌-◌, ◌≤◌, List, [], ◌++◌, length, take, drop, refl, sym, ap, ◌∙◌, subst, append_assoc, append-nil, take-append-drop, length-drop, arith}
use Rattle.std.proofs.KnownBytes.{Appends-nil, Appends-trans, Appends-kept}
use Rattle.std.proofs.Math.Seq.{take-add}
use Rattle.std.specs.Io.KnownBytes.{Appends, Keeps}
use Rattle.pylock_run.specs.Inner.Writes.{Writes, Pours}
use Rattle.pylock_run.specs.Stream.{SinkValue, TakesPrefix}

-- the first bytes of the text were written, and no call failed
pub record Wrote (old new : SinkValue) (text : List ℕ) (done : ℕ) : Type 0 where
  pub within : done ≤ length text
  pub writes : Writes old new (take done text)

pub Writes-trans : (old mid new : SinkValue) (xs ys : List ℕ) → Writes old mid xs → Writes mid new ys → Writes old new (xs ++ ys)
Writes-trans old mid new xs ys before after = record {
  held = Appends-trans old.held mid.held new.held xs ys before.held after.held;
  counted = after.counted ∙ before.counted;
}

pub within_more : (done taken size left : ℕ) → done ≤ size → left ≡ size - done → taken ≤ left → done + taken ≤ size
within_more done taken size left before rest bound = omega arith

-- what is left of a text has no more bytes than it
pub Wrote-within : (old mid : SinkValue) (text part : List ℕ) (done taken : ℕ)
    → Wrote old mid text done → part ≡ drop done text → taken ≤ length part → done + taken ≤ length text
Wrote-within old mid text part done taken before left bound =
    within_more done taken (length text) (length part) before.within (ap length left ∙ length-drop done text) bound

-- the next bytes of a text behind those that were written
next_held : (old mid new : SinkValue) (text part : List ℕ) (done taken : ℕ)
    → Wrote old mid text done → part ≡ drop done text → Appends mid.held new.held (take taken part)
    → Appends old.held new.held (take (done + taken) text)
next_held old mid new text part done taken before left step =
    subst (Appends old.held new.held) (ap (λ bs. take done text ++ take taken bs) left ∙ sym (take-add done taken text))
    (Appends-trans old.held mid.held new.held (take done text) (take taken part) before.writes.held step)

-- a call took more of what was left
pub Wrote-more : (old mid new : SinkValue) (text part : List ℕ) (done taken : ℕ)
    → Wrote old mid text done → part ≡ drop done text → taken ≤ length part → Appends mid.held new.held (take taken part)
    → new.failures ≡ mid.failures → Wrote old new text (done + taken)
Wrote-more old mid new text part done taken before left bound step same = record {
  within = Wrote-within old mid text part done taken before left bound;
  writes = record {
    held = next_held old mid new text part done taken before left step;
    counted = same ∙ before.writes.counted;
  };
}

-- whatever the last call took, a prefix of the text was written
pub Wrote-prefix : (old mid new : SinkValue) (text part : List ℕ) (done taken : ℕ)
    → Wrote old mid text done → part ≡ drop done text → Appends mid.held new.held (take taken part) → TakesPrefix old new text
Wrote-prefix old mid new text part done taken before left step = record {
  prefix = take (done + taken) text;
  rest = drop (done + taken) text;
  whole = sym (take-append-drop (done + taken) text);
  held = next_held old mid new text part done taken before left step;
}

-- the last call took nothing
pub Wrote-prefix_same : (old mid new : SinkValue) (text : List ℕ) (done : ℕ) → Wrote old mid text done → Keeps mid.held new.held → TakesPrefix old new text
Wrote-prefix_same old mid new text done before same = record {
  prefix = take done text;
  rest = drop done text;
  whole = sym (take-append-drop done text);
  held = Appends-kept old.held mid.held new.held (take done text) before.writes.held same;
}

-- a text in parts

-- what stood in hand was written
pub Pours-flush : (old new : SinkValue) (text out : List ℕ) → Writes old new text → out ≡ [] → Pours old new text out
Pours-flush old new text out writes empty = record { written = text; whole = sym (append-nil text) ∙ ap (λ o. text ++ o) (sym empty); writes = writes }

-- more text, part of which was written after that
pub Pours-more : (old mid new : SinkValue) (text out more last : List ℕ) → Pours old mid text out → Pours mid new (out ++ more) last
    → Pours old new (text ++ more) last
Pours-more old mid new text out more last before after = record {
  written = before.written ++ after.written;
  whole = ap (λ t. t ++ more) before.whole ∙ append_assoc before.written out more ∙ ap (λ t. before.written ++ t) after.whole
      ∙ sym (append_assoc before.written after.written last);
  writes = Writes-trans old mid new before.written after.written before.writes after.writes;
}

-- all of it was written in the end
pub Pours-all : (old mid new : SinkValue) (text out : List ℕ) → Pours old mid text out → Writes mid new out → Writes old new text
Pours-all old mid new text out before last =
    subst (Writes old new) (sym before.whole) (Writes-trans old mid new before.written out before.writes last)

-- a prefix of it was
pub prefix_more : (old new : SinkValue) (text more : List ℕ) → TakesPrefix old new text → TakesPrefix old new (text ++ more)
prefix_more old new text more written = record {
  prefix = written.prefix;
  rest = written.rest ++ more;
  whole = ap (λ t. t ++ more) written.whole ∙ append_assoc written.prefix written.rest more;
  held = written.held;
}

pub prefix_after : (old mid new : SinkValue) (text out more : List ℕ) → Pours old mid text out → TakesPrefix mid new (out ++ more)
    → TakesPrefix old new (text ++ more)
prefix_after old mid new text out more before after = record {
  prefix = before.written ++ after.prefix;
  rest = after.rest;
  whole = ap (λ t. t ++ more) before.whole ∙ append_assoc before.written out more ∙ ap (λ t. before.written ++ t) after.whole
      ∙ sym (append_assoc before.written after.prefix after.rest);
  held = Appends-trans old.held mid.held new.held before.written after.prefix before.writes.held after.held;
}

pub prefix_none : (sink : SinkValue) (text : List ℕ) → TakesPrefix sink sink text
prefix_none sink text = record { prefix = []; rest = text; whole = refl; held = Appends-nil sink.held }

pub prefix_same : (old new : SinkValue) (text other : List ℕ) → text ≡ other → TakesPrefix old new text → TakesPrefix old new other
prefix_same old new text other same written = record { prefix = written.prefix; rest = written.rest; whole = sym same ∙ written.whole; held = written.held }

pub prefix_after_all : (old mid new : SinkValue) (text out : List ℕ) → Pours old mid text out → TakesPrefix mid new out → TakesPrefix old new text
prefix_after_all old mid new text out before after =
    prefix_same old new (text ++ []) text (append-nil text)
    (prefix_after old mid new text out [] before (prefix_same mid new out (out ++ []) (sym (append-nil out)) after))

-- of the rest a part was written
pub Pours-on : (old mid new : SinkValue) (text rest part last : List ℕ) → Pours old mid text rest → rest ≡ part ++ last → Writes mid new part → Pours old new text last
Pours-on old mid new text rest part last before same after = record {
  written = before.written ++ part;
  whole = before.whole ∙ ap (λ r. before.written ++ r) same ∙ sym (append_assoc before.written part last);
  writes = Writes-trans old mid new before.written part before.writes after;
}

-- what a call wrote is the text
pub Writes-same : (old new : SinkValue) (part text : List ℕ) → part ≡ text → Appends old.held new.held part → new.failures ≡ old.failures → Writes old new text
Writes-same old new part text same held counted = record { held = subst (Appends old.held new.held) same held; counted = counted }

-- a front was written, and then a prefix of what stands behind it
pub prefix_behind : (old mid new : SinkValue) (front part back : List ℕ) → Writes old mid front → part ≡ back → TakesPrefix mid new part
    → TakesPrefix old new (front ++ back)
prefix_behind old mid new front part back before same after =
    prefix_after_all old mid new (front ++ back) part (record { written = front; whole = ap (λ b. front ++ b) (sym same); writes = before }) after
