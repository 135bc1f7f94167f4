-- From the editing by an input to the report on its lines.
use Rattle.std.proofs.Common.{◌≡◌, ℕ, ◌+◌, ◌<◌, ◌≤◌, List, [], ◌++◌, length, cond, ◌&&◌, not, Result, Ok, Err, refl, sym, ap, ◌∙◌, arith, append_assoc, subst, inl, inr, ⊎_elim}
use Rattle.std.proofs.KnownBytes.{Appends-trans, Consumes-nil}
use Rattle.std.specs.Io.KnownBytes.{Appends, IsAtEnd}
use Rattle.pylock_core.specs.Session.State.{State}
use Rattle.pylock_core.specs.Session.Steps.{answer}
use Rattle.pylock_run.specs.Inner.Edited.{EditsAll, EditFault}
use Rattle.pylock_run.specs.Inner.Editing.{EditingValue, start, editing_after, bytes_text, after_input, input_end_text, lines_begun}
use Rattle.pylock_run.specs.Inner.Writes.{Writes}
use Rattle.pylock_run.specs.Line.{input_lines}
use Rattle.pylock_run.specs.Report.{Shown, is_plan, state_after_all, report_on}
use Rattle.pylock_run.specs.Report.Print.{Prints, IsOutputFault}
use Rattle.pylock_run.specs.Report.Run.{Reports, Stops, IsRunShown, most_bytes, most_lines}
use Rattle.pylock_run.specs.Stream.{SourceValue, SinkValue, TakesPrefix, one_more}
use Rattle.pylock_run.specs.declared.report.fault.RunFault.{RunFault}
use Rattle.pylock_run.specs.declared.report.fault.RunFault.TheVariants.{Memory}
use Rattle.pylock_run.specs.declared.report.opening.OpenError.{OpenError}
use Rattle.pylock_run.proofs.EditingLemmas.{edits, prints_complete, plan_told, complete-after_input}
use Rattle.pylock_run.proofs.RunLemmas.{HasCause-map}
use Rattle.pylock_run.proofs.WriteLemmas.{Writes-trans, Pours-flush, prefix_none, prefix_more, prefix_same, prefix_after}

-- a state in which a run begins
abbrev pub begun : State → Result State OpenError
begun state = Ok state

abbrev pub input_text : Shown → State → List ℕ → List ℕ
input_text shown state input = (report_on shown (begun state) (input_lines input)).text

-- what a whole input prints
pub text_of_input : (shown : Shown) (state : State) (input : List ℕ)
    → (shown.answer state ++ bytes_text shown (start state) input) ++ input_end_text shown (editing_after (start state) input) ≡ input_text shown state input
text_of_input shown state input =
    append_assoc (shown.answer state) (bytes_text shown (start state) input) (input_end_text shown (editing_after (start state) input))
    ∙ ap (λ t. shown.answer state ++ t) (edits shown state input).prints

-- and the status of what it left
pub status_of_input : (shown : Shown) (state : State) (input : List ℕ)
    → cond ((after_input (editing_after (start state) input)).plan && not (after_input (editing_after (start state) input)).refused) 0 1
    ≡ (report_on shown (begun state) (input_lines input)).status
status_of_input shown state input =
    let done = after_input (editing_after (start state) input) in
    let facts = edits shown state input in
    ap (λ p. cond (p && not done.refused) 0 1) (plan_told state input ∙ ap (λ s. is_plan (answer s)) facts.state)
    ∙ ap (λ b. cond (is_plan (answer (state_after_all state (input_lines input))) && not b) 0 1) facts.refused

lines_total : (begun complete lines : ℕ) → complete ≡ begun → complete ≡ 0 + lines → begun ≡ lines
lines_total begun complete lines same total = omega arith

past_all : (size limit : ℕ) → limit < 0 + size → limit < size
past_all size limit past = omega arith

bytes_within : (total size limit : ℕ) → total ≡ 0 + size → total ≤ limit → size ≤ limit
bytes_within total size limit same within = omega arith

-- how many lines it has
lines_of_input : (shown : Shown) (state : State) (input : List ℕ) → lines_begun (editing_after (start state) input) ≡ length (input_lines input)
lines_of_input shown state input =
    let at = editing_after (start state) input in
    lines_total (lines_begun at) (after_input at).complete (length (input_lines input)) (complete-after_input at) (edits shown state input).complete

-- memory was refused before anything was written
pub stops_at_once : (shown : Shown) (begins : Result State OpenError) (source : SourceValue) (sink : SinkValue) → IsRunShown shown begins source source sink sink (Err Memory)
stops_at_once shown begins source sink = record {
  reports = tt;
  stops = record { input = []; gave = Consumes-nil source.rest; prefix = prefix_none sink _; cause = (refl, refl) };
  unasked = λ refused. refl;
}

-- a session that was edited by what was read
stopped : (shown : Shown) (state : State) (source source' : SourceValue) (sink sink' : SinkValue) (fault : RunFault)
    → Stops shown (begun state) source source' sink sink' fault → IsRunShown shown (begun state) source source' sink sink' (Err fault)
stopped shown state source source' sink sink' fault stops = record { reports = tt; stops = stops; unasked = λ refused. cc }

-- the first answer was not written
pub stops_at_first : (shown : Shown) (state : State) (source : SourceValue) (sink sink' : SinkValue) (fault : RunFault)
    → TakesPrefix sink sink' (shown.answer state) → IsOutputFault sink sink' fault → IsRunShown shown (begun state) source source sink sink' (Err fault)
stops_at_first shown state source sink sink' fault prefix why = stopped shown state source source sink sink' fault (record {
  input = [];
  gave = Consumes-nil source.rest;
  prefix = prefix_more sink sink' (shown.answer state) [] prefix;
  cause = HasCause-map _ _ fault (λ none. absurd none) (λ failed. (refl, failed)) (λ none. absurd none) (λ memory. (refl, memory)) why;
})

-- a piece was not read, not edited by or not written
pub stops_between : (shown : Shown) (state : State) (source source' : SourceValue) (sink mid sink' : SinkValue) (at : EditingValue) (fault : RunFault)
    → at ≡ start state → Writes sink mid (shown.answer state) → EditFault shown source source' mid sink' at 0 fault
    → IsRunShown shown (begun state) source source' sink sink' (Err fault)
stops_between shown state source source' sink mid sink' at fault begins first stop =
    let fault_at = subst (λ a. EditFault shown source source' mid sink' a 0 fault) begins stop in
    let input = fault_at.given in
    stopped shown state source source' sink sink' fault (record {
      input = input;
      gave = fault_at.gave;
      prefix = prefix_same sink sink' _ _ (text_of_input shown state input)
          (prefix_more sink sink' _ (input_end_text shown (editing_after (start state) input))
          (prefix_after sink mid sink' (shown.answer state) [] (bytes_text shown (start state) input)
          (Pours-flush sink mid (shown.answer state) [] first refl) fault_at.prefix));
      cause = HasCause-map _ _ fault
          (λ read. (
            read.0,
            read.1 ∙ first.counted,
            subst (λ t. Appends sink.held sink'.held (shown.answer state ++ t)) (prints_complete shown state input)
                (Appends-trans sink.held mid.held sink'.held (shown.answer state) (bytes_text shown (start state) input) first.held read.2),
          ))
          (λ write. (write.0, write.1 ∙ ap one_more first.counted))
          (λ past. (
            past.0,
            past.1 ∙ first.counted,
            ⊎_elim
                (λ lines. inl (subst (λ n. most_lines < n) (lines_of_input shown state input) lines))
                (λ bytes. inr (past_all (length input) most_bytes bytes))
                past.2,
          ))
          (λ memory. (memory.0, memory.1 ∙ first.counted))
          fault_at.cause;
    })

-- what was written before the last line
before_last : (shown : Shown) (state : State) (sink mid late : SinkValue) (input : List ℕ) → Writes sink mid (shown.answer state)
    → Writes mid late (bytes_text shown (start state) input) → Writes sink late (shown.answer state ++ bytes_text shown (start state) input)
before_last shown state sink mid late input first edited = Writes-trans sink mid late (shown.answer state) (bytes_text shown (start state) input) first edited

-- what the last line prints was not written
pub stops_at_last : (shown : Shown) (state : State) (source source' : SourceValue) (sink mid late sink' : SinkValue) (at last : EditingValue) (fault : RunFault)
    → at ≡ start state → Writes sink mid (shown.answer state) → EditsAll shown source source' mid late at last
    → TakesPrefix late sink' (input_end_text shown last) → IsOutputFault late sink' fault → IsRunShown shown (begun state) source source' sink sink' (Err fault)
stops_at_last shown state source source' sink mid late sink' at last fault begins first all prefix why =
    let (total, edited, within) = subst (λ a. EditsAll shown source source' mid late a last) begins all in
    let input = edited.given in
    let here = before_last shown state sink mid late input first edited.writes in
    stopped shown state source source' sink sink' fault (record {
      input = input;
      gave = edited.gave;
      prefix = prefix_same sink sink' _ _
          (ap (λ a. (shown.answer state ++ bytes_text shown (start state) input) ++ input_end_text shown a) edited.editing ∙ text_of_input shown state input)
          (prefix_after sink late sink' _ [] (input_end_text shown last) (Pours-flush sink late _ [] here refl) prefix);
      cause = HasCause-map _ _ fault
          (λ none. absurd none)
          (λ failed. (edited.reads, failed ∙ ap one_more here.counted))
          (λ none. absurd none)
          (λ memory. (edited.reads, memory ∙ here.counted))
          why;
    })

-- the whole input
pub session_reports : (shown : Shown) (state : State) (source source' : SourceValue) (sink mid late sink' : SinkValue) (at last end : EditingValue) (status : ℕ)
    → at ≡ start state → Writes sink mid (shown.answer state) → EditsAll shown source source' mid late at last → IsAtEnd source'.rest
    → lines_begun last ≤ most_lines → end ≡ after_input last → Writes late sink' (input_end_text shown last)
    → status ≡ cond (end.plan && not end.refused) 0 1
    → IsRunShown shown (begun state) source source' sink sink' (Ok status)
session_reports shown state source source' sink mid late sink' at last end status begins first all at_end lines complete written told =
    let (total, edited, within) = subst (λ a. EditsAll shown source source' mid late a last) begins all in
    let input = edited.given in
    let here = before_last shown state sink mid late input first edited.writes in
    let done = after_input (editing_after (start state) input) in
    let finish : end ≡ done = complete ∙ ap (λ a. after_input a) edited.editing in
    let whole = Writes-trans sink late sink' _ (input_end_text shown last) here written in
    let reports : Reports shown (begun state) source source' sink sink' status = record {
      input = input;
      gave = edited.gave;
      took = subst (Appends sink.held sink'.held)
          (ap (λ a. (shown.answer state ++ bytes_text shown (start state) input) ++ input_end_text shown a) edited.editing ∙ text_of_input shown state input)
          whole.held;
      answers = told ∙ ap (λ a. cond (a.plan && not a.refused) 0 1) finish ∙ status_of_input shown state input;
      reads = edited.reads;
      writes = whole.counted;
      ends = inr (
        at_end,
        (subst (λ n. n ≤ most_lines) (ap (λ a. lines_begun a) edited.editing ∙ lines_of_input shown state input) lines, bytes_within total (length input) most_bytes edited.size within),
      );
    } in
    record { reports = reports; stops = tt; unasked = λ refused. cc }

-- a lock or an environment that is refused

abbrev pub refused_begin : OpenError → Result State OpenError
refused_begin error = Err error

refused_runs_at : (shown : Shown) (error : OpenError) (source : SourceValue) (sink sink' : SinkValue) (r : Result ℕ RunFault)
    → Prints (report_on shown (refused_begin error) []) sink sink' r → IsRunShown shown (refused_begin error) source source sink sink' r
refused_runs_at shown error source sink sink' (Ok status) prints = record {
  reports = record {
    input = [];
    gave = Consumes-nil source.rest;
    took = prints.text;
    answers = prints.status;
    reads = refl;
    writes = prints.counted;
    ends = inl refl;
  };
  stops = tt;
  unasked = λ refused. refl;
}
refused_runs_at shown error source sink sink' (Err met) prints = record {
  reports = tt;
  stops = record {
    input = [];
    gave = Consumes-nil source.rest;
    prefix = prints.prefix;
    cause = HasCause-map _ _ met (λ none. absurd none) (λ failed. (refl, failed)) (λ none. absurd none) (λ memory. (refl, memory)) prints.fault;
  };
  unasked = λ refused. refl;
}

pub refused_runs : (shown : Shown) (begins : Result State OpenError) (error : OpenError) (source : SourceValue) (sink sink' : SinkValue) (r : Result ℕ RunFault)
    → begins ≡ Err error → Prints (report_on shown (refused_begin error) []) sink sink' r → IsRunShown shown begins source source sink sink' r
refused_runs shown begins error source sink sink' r same prints =
    subst (λ b. IsRunShown shown b source source sink sink' r) (sym same) (refused_runs_at shown error source sink sink' r prints)
