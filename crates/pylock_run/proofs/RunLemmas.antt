-- What the faults of a run say, and how far a run has come.
use Rattle.std.proofs.Common.{◌≡◌, ℕ, ◌+◌, ◌<◌, ◌≤◌, ◌-◌, List, [], ◌++◌, length, take, drop, Result, Ok, Err, OnErr, refl, sym, ap, ◌∙◌, arith, append_assoc, subst, inl, inr, ⊎_elim, length-append, length-drop}
use Rattle.std.proofs.KnownBytes.{Appends-trans, Consumes-trans}
use Rattle.std.proofs.Math.Seq.{take-add}
use Rattle.std.proofs.lemmas.List.{take_all}
use Rattle.std.specs.Io.KnownBytes.{Appends}
use Rattle.pylock_run.specs.Inner.Edited.{Edited, EditFault}
use Rattle.pylock_run.specs.Inner.Editing.{EditingValue, editing_after, bytes_text, lines_begun}
use Rattle.pylock_run.specs.Inner.Faults.{IsTakeFault, IsFeedFault, IsWriteFault}
use Rattle.pylock_run.specs.Inner.Writes.{Writes, Pours}
use Rattle.pylock_run.specs.Report.{Shown}
use Rattle.pylock_run.specs.Report.Fault.{Causes, HasCause}
use Rattle.pylock_run.specs.Report.Run.{most_bytes, most_lines}
use Rattle.pylock_run.specs.Stream.{SourceValue, SinkValue, TakesPrefix, one_more}
use Rattle.pylock_run.specs.declared.report.fault.RunFault.{RunFault}
use Rattle.pylock_run.specs.declared.report.fault.RunFault.TheVariants.{Read, Write, Input, Memory}
use Rattle.pylock_run.proofs.EditingLemmas.{begun_past, text_prefix, done_prefix, editing_after-append, bytes_text-append}
use Rattle.pylock_run.proofs.WriteLemmas.{within_more, Writes-trans, Pours-more, Pours-flush, prefix_more, prefix_same, prefix_after}

pub on_err : {T E P : Type 0} (r : Result T E) → P → OnErr r P
on_err (Ok x) p = tt
on_err (Err e) p = p

-- from the causes of a step to those of the whole
pub HasCause-map : (step whole : Causes) (fault : RunFault)
    → (step.read → whole.read) → (step.write → whole.write) → (step.input → whole.input) → (step.memory → whole.memory)
    → HasCause step fault → HasCause whole fault
HasCause-map step whole Read read write input memory cause = read cause
HasCause-map step whole Write read write input memory cause = write cause
HasCause-map step whole Input read write input memory cause = input cause
HasCause-map step whole Memory read write input memory cause = memory cause

-- no byte of the piece could be taken
pub feed_fault_from_take : (sink : SinkValue) (at : EditingValue) (bytes : List ℕ) (fault : RunFault) → 0 < length bytes → IsTakeFault at.complete fault
    → IsFeedFault sink sink (lines_begun (editing_after at bytes)) fault
feed_fault_from_take sink at bytes fault some why =
    HasCause-map _ _ fault (λ none. none) (λ none. absurd none) (λ complete. (omega (arith, complete, begun_past at bytes some), refl)) (λ memory. refl) why

-- a prefix of what a part of the piece prints is a prefix of what the piece prints
pub piece_prefix : (shown : Shown) (old new : SinkValue) (at : EditingValue) (bytes out taken : List ℕ) (n : ℕ) → taken ≡ out ++ bytes_text shown at (take n bytes)
    → TakesPrefix old new taken → TakesPrefix old new (out ++ bytes_text shown at bytes)
piece_prefix shown old new at bytes out taken n pushed prefix =
    let rest = bytes_text shown (editing_after at (take n bytes)) (drop n bytes) in
    prefix_same old new (taken ++ rest) (out ++ bytes_text shown at bytes)
    (ap (λ t. t ++ rest) pushed ∙ append_assoc out (bytes_text shown at (take n bytes)) rest ∙ ap (λ t. out ++ t) (sym (text_prefix shown at bytes n)))
    (prefix_more old new taken rest prefix)

-- how far the editing of a piece has come
pub record Fed (shown : Shown) (old new : SinkValue) (start at : EditingValue) (piece before out : List ℕ) (done : ℕ) : Type 0 where
  pub within : done ≤ length piece
  pub editing : at ≡ editing_after start (take done piece)
  pub poured : Pours old new (before ++ bytes_text shown start (take done piece)) out

pub Fed-more : (shown : Shown) (old mid new : SinkValue) (start at next : EditingValue) (piece before out last bytes : List ℕ) (done count : ℕ)
    → Fed shown old mid start at piece before out done → bytes ≡ drop done piece → count ≤ length bytes
    → next ≡ editing_after at (take count bytes) → Pours mid new (out ++ bytes_text shown at (take count bytes)) last
    → Fed shown old new start next piece before last (done + count)
Fed-more shown old mid new start at next piece before out last bytes done count fed left fits step poured =
    let prefix = take done piece in
    let more = take count (drop done piece) in
    let whole : take (done + count) piece ≡ prefix ++ more = take-add done count piece in
    let there : at ≡ editing_after start prefix = fed.editing in
    let taken : take count bytes ≡ more = ap (take count) left in
    let size : length bytes ≡ length piece - done = ap length left ∙ length-drop done piece in
    let text : bytes_text shown at (take count bytes) ≡ bytes_text shown (editing_after start prefix) more = ap (λ a. bytes_text shown a (take count bytes)) there ∙ ap (bytes_text shown (editing_after start prefix)) taken in
    record {
      within = within_more done count (length piece) (length bytes) fed.within size fits;
      editing = step ∙ ap (λ a. editing_after a (take count bytes)) there ∙ ap (editing_after (editing_after start prefix)) taken
          ∙ sym (editing_after-append start prefix more) ∙ ap (editing_after start) (sym whole);
      poured = subst (λ t. Pours old new t last)
          (append_assoc before (bytes_text shown start prefix) (bytes_text shown at (take count bytes))
          ∙ ap (λ t. before ++ t) (ap (λ t. bytes_text shown start prefix ++ t) text ∙ sym (bytes_text-append shown start prefix more) ∙ ap (bytes_text shown start) (sym whole)))
          (Pours-more old mid new (before ++ bytes_text shown start prefix) out (bytes_text shown at (take count bytes)) last fed.poured poured);
    }

-- a prefix of what is left of the piece was written, after the rest
pub Fed-prefix : (shown : Shown) (old mid new : SinkValue) (start at : EditingValue) (piece before out bytes : List ℕ) (done : ℕ)
    → Fed shown old mid start at piece before out done → bytes ≡ drop done piece → TakesPrefix mid new (out ++ bytes_text shown at bytes)
    → TakesPrefix old new (before ++ bytes_text shown start piece)
Fed-prefix shown old mid new start at piece before out bytes done fed left prefix =
    let first = take done piece in
    let text : bytes_text shown at bytes ≡ bytes_text shown (editing_after start first) (drop done piece) = ap (λ a. bytes_text shown a bytes) fed.editing ∙ ap (bytes_text shown (editing_after start first)) left in
    prefix_same old new _ _
    (append_assoc before (bytes_text shown start first) (bytes_text shown at bytes)
    ∙ ap (λ t. before ++ t) (ap (λ t. bytes_text shown start first ++ t) text ∙ sym (text_prefix shown start piece done)))
    (prefix_after old mid new (before ++ bytes_text shown start first) out (bytes_text shown at bytes) fed.poured prefix)

pub Fed-fault : (shown : Shown) (old mid new : SinkValue) (start at : EditingValue) (piece before out bytes : List ℕ) (done : ℕ) (fault : RunFault)
    → Fed shown old mid start at piece before out done → bytes ≡ drop done piece → IsFeedFault mid new (lines_begun (editing_after at bytes)) fault
    → IsFeedFault old new (lines_begun (editing_after start piece)) fault
Fed-fault shown old mid new start at piece before out bytes done fault fed left why =
    let first = take done piece in
    let there : editing_after at bytes ≡ editing_after start piece =
    ap (λ a. editing_after a bytes) fed.editing ∙ ap (editing_after (editing_after start first)) left ∙ sym (done_prefix start piece done) in
    let same : mid.failures ≡ old.failures = fed.poured.writes.counted in
    HasCause-map _ _ fault
    (λ none. none)
    (λ failed. failed ∙ ap one_more same)
    (λ past. (subst (λ a. most_lines < lines_begun a) there past.0, past.1 ∙ same))
    (λ memory. memory ∙ same)
    why

-- the whole piece
pub Fed-all : (shown : Shown) (old new : SinkValue) (start at : EditingValue) (piece before out : List ℕ) (done : ℕ)
    → Fed shown old new start at piece before out done → length piece ≤ done
    → (at ≡ editing_after start piece) × Pours old new (before ++ bytes_text shown start piece) out
Fed-all shown old new start at piece before out done fed all =
    let whole : take done piece ≡ piece = take_all done piece all in
    (fed.editing ∙ ap (editing_after start) whole, subst (λ p. Pours old new (before ++ bytes_text shown start p) out) whole fed.poured)

-- what stood in hand after the piece was not written
pub feed_fault_from_flush : (old mid new : SinkValue) (text out : List ℕ) (begun : ℕ) (fault : RunFault) → Pours old mid text out
    → IsWriteFault mid new fault → IsFeedFault old new begun fault
feed_fault_from_flush old mid new text out begun fault poured why = HasCause-map _ _ fault
    (λ none. none) (λ failed. failed ∙ ap one_more poured.writes.counted) (λ none. absurd none) (λ none. absurd none) why

-- pieces one after another

writes-more : (shown : Shown) (sink mid sink' : SinkValue) (start at : EditingValue) (xs ys : List ℕ) → Writes sink mid (bytes_text shown start xs) → at ≡ editing_after start xs
    → Writes mid sink' (bytes_text shown at ys) → Writes sink sink' (bytes_text shown start (xs ++ ys))
writes-more shown sink mid sink' start at xs ys before there after =
    subst (Writes sink sink') (ap (λ a. bytes_text shown start xs ++ bytes_text shown a ys) there ∙ sym (bytes_text-append shown start xs ys))
    (Writes-trans sink mid sink' (bytes_text shown start xs) (bytes_text shown at ys) before after)

held-more : (shown : Shown) (sink mid sink' : SinkValue) (start at : EditingValue) (xs ys : List ℕ) → Writes sink mid (bytes_text shown start xs) → at ≡ editing_after start xs
    → Appends mid.held sink'.held (bytes_text shown at ys) → Appends sink.held sink'.held (bytes_text shown start (xs ++ ys))
held-more shown sink mid sink' start at xs ys before there after =
    subst (Appends sink.held sink'.held) (ap (λ a. bytes_text shown start xs ++ bytes_text shown a ys) there ∙ sym (bytes_text-append shown start xs ys))
    (Appends-trans sink.held mid.held sink'.held (bytes_text shown start xs) (bytes_text shown at ys) before.held after)

done-more : (start at next : EditingValue) (xs ys : List ℕ) → at ≡ editing_after start xs → next ≡ editing_after at ys → next ≡ editing_after start (xs ++ ys)
done-more start at next xs ys before after = after ∙ ap (λ a. editing_after a ys) before ∙ sym (editing_after-append start xs ys)

pub Edited-more : (shown : Shown) (source s source' : SourceValue) (sink k sink' : SinkValue) (start at next : EditingValue) (a b c : ℕ)
    → Edited shown source s sink k start at a b → Edited shown s source' k sink' at next b c → Edited shown source source' sink sink' start next a c
Edited-more shown source s source' sink k sink' start at next a b c before after = record {
  given = before.given ++ after.given;
  gave = Consumes-trans source.rest s.rest source'.rest before.given after.given before.gave after.gave;
  size = omega (arith, length-append before.given after.given, before.size, after.size);
  editing = done-more start at next before.given after.given before.editing after.editing;
  writes = writes-more shown sink k sink' start at before.given after.given before.writes before.editing after.writes;
  reads = after.reads ∙ before.reads;
}

size-past : (xs ys : List ℕ) (total limit : ℕ) → total ≡ 0 + length xs → limit < total + length ys → limit < 0 + length (xs ++ ys)
size-past xs ys total limit size past = omega (arith, length-append xs ys)

-- how far the reading of the input has come
pub record EditedSoFar (shown : Shown) (source source' : SourceValue) (sink sink' : SinkValue) (start at : EditingValue) (total : ℕ) (out : List ℕ) : Type 0 where
  pub edited : Edited shown source source' sink sink' start at 0 total
  pub within : total ≤ most_bytes
  pub empty : out ≡ []

-- a fault after the pieces before it
pub EditFault-after : (shown : Shown) (source s source' : SourceValue) (sink k sink' : SinkValue) (start at : EditingValue) (total : ℕ) (out : List ℕ) (fault : RunFault)
    → EditedSoFar shown source s sink k start at total out → EditFault shown s source' k sink' at total fault
    → EditFault shown source source' sink sink' start 0 fault
EditFault-after shown source s source' sink k sink' start at total out fault before after =
    let edited = before.edited in
    let xs = edited.given in
    let ys = after.given in
    let reads : s.failures ≡ source.failures = edited.reads in
    let writes : k.failures ≡ sink.failures = edited.writes.counted in
    record {
      given = xs ++ ys;
      gave = Consumes-trans source.rest s.rest source'.rest xs ys edited.gave after.gave;
      prefix = prefix_same sink sink' _ _
          (ap (λ a. bytes_text shown start xs ++ bytes_text shown a ys) edited.editing ∙ sym (bytes_text-append shown start xs ys))
          (prefix_after sink k sink' (bytes_text shown start xs) [] (bytes_text shown at ys) (Pours-flush sink k (bytes_text shown start xs) [] edited.writes refl) after.prefix);
      cause = HasCause-map _ _ fault
          (λ read. (read.0 ∙ ap one_more reads, read.1 ∙ writes, held-more shown sink k sink' start at xs ys edited.writes edited.editing read.2))
          (λ write. (write.0 ∙ reads, write.1 ∙ ap one_more writes))
          (λ input. (
            input.0 ∙ reads,
            input.1 ∙ writes,
            ⊎_elim
                (λ lines. inl (subst (λ a. most_lines < lines_begun a) (done-more start at (editing_after at ys) xs ys edited.editing refl) lines))
                (λ bytes. inr (size-past xs ys total most_bytes edited.size bytes))
                input.2,
          ))
          (λ memory. (memory.0 ∙ reads, memory.1 ∙ writes))
          after.cause;
    }
