use Rattle.std.proofs.Common.{◌≡◌, ◌∙◌, ap, sym, true, false, string_bytes}
use Rattle.std.proofs.lemmas.List.{nil_from_length}
use Rattle.std.specs.declared.str.Chars.{Chars}
use Rattle.pytext.specs.Bytes.{is_separator}
use Rattle.pyver_core.specs.Name.{normal_name}
use Rattle.pyver_core.proofs.Lemmas.Name.Collapse.{last-step, normal_name-collapse, step-first, step-further, step-other}
use Rattle.pyver_core.proofs.name.normal_name.Goals as goal

pub loop-character-init : goal.loop-character-init
loop-character-init c =
    let rest : c.into_iter-character-iterator.result.rest.now ≡ c.args.text.now =
    ap (λ (s : Chars). s.rest.now) c.into_iter-character-iterator.ensures.into_iter_gives ∙ c.chars-character-items.ensures.rest in
    rw (c.in_ok-name.ensures.bytes, rest) (sym (normal_name-collapse c.args.text.now))

pub loop-character-preserved-in_ok-push : goal.loop-character-preserved-in_ok-push
loop-character-preserved-in_ok-push c =
    let other : is_separator c.in-Some.character ≡ false = cc in
    let step = step-other (string_bytes c.loop-character.name) (normal_name c.args.text.now) c.loop-character.character-iterator.rest.now
    c.loop-character.in_run c.in-Some.character c.next.new.self.rest.now other c.in-Some.ensures.steps.0 c.loop-character.invariant in
    rw (c.in_ok-push.ensures.bytes, c.to_ascii_lowercase.ensures.value, c.if-not-separates.true) step

pub loop-character-preserved-in_ok-push-2 : goal.loop-character-preserved-in_ok-push-2
loop-character-preserved-in_ok-push-2 c =
    let separates : is_separator c.in-Some.character ≡ true = cc in
    let first = rw c.if-not-in_run.true at c.loop-character.invariant in
    let step = step-first (string_bytes c.loop-character.name) (normal_name c.args.text.now) c.loop-character.character-iterator.rest.now
    c.in-Some.character c.next.new.self.rest.now separates c.in-Some.ensures.steps.0 first in
    rw (c.in_ok-push-2.ensures.bytes, c.if-not-separates.false) step

pub loop-character-preserved : goal.loop-character-preserved
loop-character-preserved c =
    let separates : is_separator c.in-Some.character ≡ true = cc in
    let further = rw c.if-not-in_run.false at c.loop-character.invariant in
    let step = step-further (string_bytes c.loop-character.name) (normal_name c.args.text.now) c.loop-character.character-iterator.rest.now
    c.in-Some.character c.next.new.self.rest.now separates c.in-Some.ensures.steps.0 further in
    rw c.if-not-separates.false step

pub returns : goal.returns
returns c =
    last-step (string_bytes c.loop-character.name) (normal_name c.args.text.now) c.loop-character.character-iterator.rest.now
    c.loop-character.in_run (nil_from_length _ c.in-None.ensures.steps.0.0) c.loop-character.invariant
