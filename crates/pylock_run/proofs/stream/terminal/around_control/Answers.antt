use Rattle.std.proofs.Common.{◌≡◌, ◌∙◌, ℕ, ◌-◌, ap, sym, subst, take, arith}
use Rattle.std.specs.Str.{IsUtf8}
use Rattle.std.proofs.lemmas.Str.{IsUtf8-past_char}
use Rattle.pylock_run.proofs.TerminalLemmas.{Plain, Plain-none, Plain-more, Plain-all, Plain-found, Plain-less, Plain-boundary}
use Rattle.pylock_run.proofs.stream.terminal.around_control.Goals as goal

less_none : (n : ℕ) → n - 0 ≡ n
less_none n = omega arith

pub characters-init : goal.characters-init
characters-init c = record {
  can_next = tt;
  is_finite = tt;
  utf8 = subst IsUtf8 (sym c.chars-characters.ensures.rest) c.utf8.text;
  plain = subst (Plain c.args.text.now 0) (sym c.chars-characters.ensures.rest) (Plain-none c.args.text.now);
}

pub range-requires-clause-end_boundary : goal.range-requires-clause-end_boundary
range-requires-clause-end_boundary c = Plain-boundary _ _ _ c.characters.invariant.plain c.characters.invariant.utf8

pub returns-then-steers_terminal-clause-parts : goal.returns-then-steers_terminal-clause-parts
returns-then-steers_terminal-clause-parts c =
    rw c.as_str.ensures
    (Plain-found _ _ _ _ _ _ c.characters.invariant.plain c.characters.invariant.utf8 c.in-Some.ensures.steps.0 (sym c.if-steers_terminal.ensures) (c.range.ensures.value ∙ ap (λ m. take m c.args.text.now) (less_none c.characters.plain)))

pub returns-then-steers_terminal-clause-less : goal.returns-then-steers_terminal-clause-less
returns-then-steers_terminal-clause-less c = rw c.as_str.ensures (Plain-less _ _ _ _ _ c.characters.invariant.plain c.in-Some.ensures.steps.0)

pub characters-preserved : goal.characters-preserved
characters-preserved c = record {
  can_next = tt;
  is_finite = tt;
  utf8 = IsUtf8-past_char _ _ _ c.characters.invariant.utf8 c.in-Some.ensures.steps.0;
  plain = rw c.len_utf8-plain.ensures.value
      (Plain-more _ _ _ _ _ c.characters.invariant.plain c.characters.invariant.utf8 c.in-Some.ensures.steps.0 (sym c.if-steers_terminal.ensures));
}

pub returns-clause-plain : goal.returns-clause-plain
returns-clause-plain c = Plain-all _ _ _ c.characters.invariant.plain c.in_default.ensures.steps.0.0
