use Rattle.std.proofs.Common.{◌∙◌, Ok, ap, sym}
use Rattle.pywheel_core.specs.Wheel.Halves.{end_in, end_value}
use Rattle.pywheel_core.proofs.ReadTableLemmas.{found_read, gains_read}
use Rattle.pywheel_core.proofs.reader.shared_end.Goals as goal

pub returns-in-Some-clause-end : goal.returns-in-Some-clause-end
returns-in-Some-clause-end c =
    found_read end_in (λ e. end_value e.value) c.args.text.now c.in-Some.end.now c.args.ends.now.entries c.requires.kept (sym c.in-Some.ensures.value)
    ∙ sym (λ i. Ok (end_value (c.in_ok-clone.ensures.cases i)))

pub returns-clause-kept : goal.returns-clause-kept
returns-clause-kept c =
    rw c.in_ok-insert.ensures.entries
    (gains_read end_in (λ e. end_value e.value) c.in_ok-text.text c.in_ok-clone-2.field-0 c.reserve_capacity.new.ends.entries (c.reserve_capacity.ensures.kept c.requires.kept)
    (ap end_in c.in_ok-text.ensures.ok ∙ c.in-Ok.ensures ∙ ap (λ e. Ok (end_value e)) (sym c.in_ok-end-in-Ok.ensures.ok) ∙ sym (λ i. Ok (end_value (c.in_ok-clone-2.ensures.cases i)))))
