-- Texts of C, and kept texts.
use Rattle.std.specs.Prelude.{ℕ, List, length, if◌then◌else◌, Option, Some, Result, Ok, Err}
use Rattle.std.specs.Result.{result_map_both}
use Rattle.std.specs.Str.{is_utf8}
use Rattle.pylock_run.specs.declared.line.refusal.LineRefusal.{LineRefusal}
use Rattle.pylock_run.specs.declared.line.refusal.LineRefusal.TheVariants as line
use Rattle.pylock_slots.specs.Refusal.{line_refusal, refuse_as}
use Rattle.pylock_slots.specs.declared.object.Object.{Object}
use Rattle.pylock_slots.specs.declared.object.Object.TheVariants as kind
use Rattle.pylock_slots.specs.declared.refusal.Refusal.{Refusal}
use Rattle.pylock_slots.specs.declared.refusal.Refusal.TheVariants as refusal

-- the text that bytes are, as a library or an edit takes it
abbrev pub text_argument : List ℕ → Result (List ℕ) LineRefusal
text_argument bytes = if is_utf8 bytes then Ok bytes else Err line.Text

abbrev pub text_of : List ℕ → Result (List ℕ) Refusal
text_of bytes = refuse_as line_refusal (text_argument bytes)

-- the bytes of a kept text
abbrev pub text_in : Option Object → Result (List ℕ) Refusal
text_in (Some (kind.Text bytes)) = Ok bytes
text_in other = Err refusal.Empty

abbrev pub text_length : Option Object → Result ℕ Refusal
text_length object = result_map_both length (λ refusal. refusal) (text_in object)

-- a text that a call keeps
abbrev pub kept_text : Result (List ℕ) Refusal → Result (Option Object) Refusal
kept_text read = result_map_both (λ bytes. Some (kind.Text bytes)) (λ refusal. refusal) read
