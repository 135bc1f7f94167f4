-- Versions, specifier sets and names of C.
use Rattle.std.specs.Prelude.{ℕ, Bool, List, Option, Some, Result, Ok, Err}
use Rattle.pytext.specs.Results.{◌>>=◌}
use Rattle.pyver_core.specs.Name.{is_name, normal_name}
use Rattle.pyver_core.specs.Parsed.{parsed_set, parsed_version}
use Rattle.pyver_core.specs.Set.Admission.{admits_all}
use Rattle.pyver_core.specs.Set.Normal.{set_text}
use Rattle.pyver_core.specs.Version.Parts.{Parts}
use Rattle.pyver_core.specs.declared.set.specifier.Specifier.{Specifier}
use Rattle.pylock_values.specs.Spans.{spans_of as set_spans}
use Rattle.pylock_slots.specs.Refusal.{refuse_as, set_refusal, version_refusal}
use Rattle.pylock_slots.specs.Text.{text_of}
use Rattle.pylock_slots.specs.declared.object.Object.{Object}
use Rattle.pylock_slots.specs.declared.object.Object.TheVariants as kind
use Rattle.pylock_slots.specs.declared.refusal.Refusal.{Refusal}
use Rattle.pylock_slots.specs.declared.refusal.Refusal.TheVariants as refusal

abbrev pub version_of : List ℕ → Result Parts Refusal
version_of bytes = do
  text ← text_of bytes
  refuse_as version_refusal (parsed_version text)

abbrev pub set_of : List ℕ → Result (List Specifier) Refusal
set_of bytes = do
  text ← text_of bytes
  refuse_as set_refusal (parsed_set text)

-- where the specifiers of a set stand in its text
abbrev pub spans_of : List ℕ → Result (List ℕ) Refusal
spans_of bytes = do
  text ← text_of bytes
  refuse_as set_refusal (set_spans text)

-- whether a set admits a version; the set's text is judged first
abbrev pub admits_of : List ℕ → List ℕ → Result Bool Refusal
admits_of set version = do
  specifiers ← set_of set
  parts ← version_of version
  Ok (admits_all specifiers parts)

-- the normal form of a name
abbrev pub name_of : List ℕ → Result (List ℕ) Refusal
name_of bytes = do
  text ← text_of bytes
  Ok (normal_name text)

abbrev pub is_name_of : List ℕ → Result Bool Refusal
is_name_of bytes = do
  text ← text_of bytes
  Ok (is_name text)

-- ---- sets that are kept

abbrev pub parsed : List ℕ → Result (Option Object) Refusal
parsed bytes = do
  specifiers ← set_of bytes
  Ok (Some (kind.Set specifiers))

abbrev pub set_in : Option Object → Result (List Specifier) Refusal
set_in (Some (kind.Set specifiers)) = Ok specifiers
set_in other = Err refusal.Empty

abbrev pub set_text_in : Option Object → Result (List ℕ) Refusal
set_text_in object = do
  specifiers ← set_in object
  Ok (set_text specifiers)

abbrev pub admits_in : Option Object → List ℕ → Result Bool Refusal
admits_in object version = do
  specifiers ← set_in object
  parts ← version_of version
  Ok (admits_all specifiers parts)
