use Rattle.std.proofs.Common.{◌≡◌, ◌∙◌, ◌+◌, Ok, Err, subst, sym, arith}
use Rattle.toml.specs.Data.{push_item}
use Rattle.toml.specs.View.{view}
use Rattle.pylock_readers.specs.Entry.Reading.{entry_in}
use Rattle.pylock_readers.specs.Lock.Packages.{HasRead}
use Rattle.pylock_readers.proofs.ElementLemmas.{counted_entry, counted_last, counted_refusal, counted_refused, passed, read_so}
use Rattle.pylock_readers.proofs.lock.elements.Packages.read.Goals.{in-Ok+in_ok-push-in-Ok, in-Err+in_default, then-self-eq-MOST_ENTRIES-via-then-self-eq-MOST_ENTRIES, then-self-eq-MOST_ENTRIES-via-else-self-eq-MOST_ENTRIES+then-is_some}
use Rattle.pylock_readers.proofs.lock.elements.Packages.read.Goals as goal

pub returns-then-self-gt-MOST_ENTRIES-clause-taken :
    goal.returns-then-self-gt-MOST_ENTRIES-clause-taken
returns-then-self-gt-MOST_ENTRIES-clause-taken c = λ taken h.
    let o = c.self.inside in
    let was : HasRead (read_so o.count o.entries.items o.refusal) taken = subst (λ p. HasRead p taken) (sym c.self.view_is) h in
    let d = view c.args.element in
    subst (λ p. HasRead p (push_item taken d)) c.self.view_is (passed o.count o.entries.items o.refusal taken d (omega arith) was)

pub returns-then-self-eq-MOST_ENTRIES-clause-taken :
    goal.returns-then-self-eq-MOST_ENTRIES-clause-taken
returns-then-self-eq-MOST_ENTRIES-clause-taken c = λ taken h.
    let o = c.self.inside in
    let was : HasRead (read_so o.count o.entries.items o.refusal) taken = subst (λ p. HasRead p taken) (sym c.self.view_is) h in
    let d = view c.args.element in
    elim c.then-self-eq-MOST_ENTRIES.branch [
      | then-self-eq-MOST_ENTRIES-via-then-self-eq-MOST_ENTRIES w ↦ counted_last o.count o.entries.items o.refusal taken d (omega arith) (omega arith) was
      | then-self-eq-MOST_ENTRIES-via-else-self-eq-MOST_ENTRIES+then-is_some w ↦
          counted_refused o.count o.entries.items o.refusal taken d (omega arith) (sym w.is_some.ensures ∙ w.if-is_some.true) was
    ]

pub returns-clause-taken : goal.returns-clause-taken
returns-clause-taken c = λ taken h.
    let o = c.self.inside in
    let was : HasRead (read_so o.count o.entries.items o.refusal) taken = subst (λ p. HasRead p taken) (sym c.self.view_is) h in
    let d = view c.args.element in
    elim c.match-read_entry.branch [
      | in-Ok+in_ok-push-in-Ok w ↦
          let read : entry_in d ≡ Ok w.in-Ok.entry = w.in-Ok.ensures in
          subst (λ i. HasRead (read_so (i.count + 1) i.entries.items i.refusal) (push_item taken d)) (sym w.self-inside-is)
          (subst (λ es. HasRead (read_so (o.count + 1) es o.refusal) (push_item taken d)) (sym w.in_ok-push-in-Ok.ensures.items)
          (counted_entry o.count o.entries.items o.refusal taken d w.in-Ok.entry (omega arith) (sym c.is_some.ensures ∙ c.if-is_some.false) read was))
      | in-Err+in_default w ↦
          let read : entry_in d ≡ Err w.in-Err.refusal = w.in-Err.ensures w.in_default.not-Memory in
          subst (λ i. HasRead (read_so (i.count + 1) i.entries.items i.refusal) (push_item taken d)) (sym w.self-inside-is)
          (counted_refusal o.count o.entries.items o.refusal taken d w.in-Err.refusal (omega arith) (sym c.is_some.ensures ∙ c.if-is_some.false) read was)
    ]
