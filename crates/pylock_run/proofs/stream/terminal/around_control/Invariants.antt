use Rattle.std.specs.Str.Iter.{chars_rest}
use Rattle.std.specs.Str.{IsUtf8}
use Rattle.pylock_run.proofs.TerminalLemmas.{Plain}
use Rattle.pylock_run.proofs.stream.terminal.around_control.Given as goal

abbrev pub invariant-characters : goal.invariant-characters
invariant-characters l = record {
  can_next : (goal.iterator-characters).can_next l.characters;
  is_finite : (goal.iterator-characters).is_finite l.characters;
  utf8 : IsUtf8 (chars_rest l.characters);
  plain : Plain l.text l.plain (chars_rest l.characters);
}
