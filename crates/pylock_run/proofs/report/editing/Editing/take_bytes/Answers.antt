use Rattle.std.proofs.Common.{◌≡◌, ◌++◌, length, ap, sym, ◌∙◌, rules, arith, append-nil}
use Rattle.std.proofs.lemmas.List.{take_all}
use Rattle.pylock_run.specs.Inner.Editing.{kept_part, end_line, end_text, editing_after, bytes_text}
use Rattle.pylock_run.proofs.EditingLemmas.{kept_part-short, line_done, line_prints, rest_done, rest_prints}
use Rattle.pylock_run.proofs.report.editing.Editing.take_bytes.Goals as goal

pub returns-in_ok-end_line-in-Some-clause-editing :
    goal.returns-in_ok-end_line-in-Some-clause-editing
returns-in_ok-end_line-in-Some-clause-editing g c =
    let short : kept_part c.args.self.now.line ≡ c.args.self.now.line = rw (← c.self.view_is) (kept_part-short c.self.inside.line.items (search rules)) in
    c.in_ok-end_line-in-Some.ensures.editing ∙ ap (λ a. end_line a) c.in_ok-keep_bytes-in-Some.ensures
    ∙ sym (line_done c.args.self.now c.args.bytes.now c.in-Some.position c.in-Some.ensures short)

pub returns-in_ok-end_line-in-Some-clause-text : goal.returns-in_ok-end_line-in-Some-clause-text
returns-in_ok-end_line-in-Some-clause-text g c =
    let short : kept_part c.args.self.now.line ≡ c.args.self.now.line = rw (← c.self.view_is) (kept_part-short c.self.inside.line.items (search rules)) in
    c.in_ok-end_line-in-Some.ensures.text
    ∙ ap (λ t. c.args.out.now.items ++ t) (ap (λ a. end_text (g.P.Printing.shown c.args.printing.now) a) c.in_ok-keep_bytes-in-Some.ensures
    ∙ sym (line_prints (g.P.Printing.shown c.args.printing.now) c.args.self.now c.args.bytes.now c.in-Some.position c.in-Some.ensures short))

pub returns-in_ok-keep_bytes-in-None-clause-editing : goal.returns-in_ok-keep_bytes-in-None-clause-editing
returns-in_ok-keep_bytes-in-None-clause-editing g c =
    let short : kept_part c.args.self.now.line ≡ c.args.self.now.line = rw (← c.self.view_is) (kept_part-short c.self.inside.line.items (search rules)) in
    c.in_ok-keep_bytes-in-None.ensures ∙ sym (rest_done c.args.self.now c.args.bytes.now c.in-None.ensures short)
    ∙ ap (editing_after c.args.self.now) (sym (take_all (length c.args.bytes.now) c.args.bytes.now (omega arith)))

pub returns-in_ok-keep_bytes-in-None-clause-text : goal.returns-in_ok-keep_bytes-in-None-clause-text
returns-in_ok-keep_bytes-in-None-clause-text g c =
    sym (ap (λ bs. c.args.out.now.items ++ bytes_text (g.P.Printing.shown c.args.printing.now) c.args.self.now bs) (take_all (length c.args.bytes.now) c.args.bytes.now (omega arith))
    ∙ ap (λ t. c.args.out.now.items ++ t) (rest_prints (g.P.Printing.shown c.args.printing.now) c.args.self.now c.args.bytes.now c.in-None.ensures)
    ∙ append-nil c.args.out.now.items)
