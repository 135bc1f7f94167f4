use Rattle.std.proofs.Common.{◌≡◌, ◌++◌, take}
use Rattle.pylock_run.specs.Text.Field.{fields_text}
use Rattle.pylock_program.specs.Text.Summary.{texts_fields}
use Rattle.pylock_program.proofs.text.summary.push_texts.Given as goal

-- the fields of the texts so far are there
abbrev pub invariant-loop-text : goal.invariant-loop-text
invariant-loop-text l = l.out.items ≡ l.fn.out.items ++ fields_text (texts_fields (take l.text-index l.texts))
