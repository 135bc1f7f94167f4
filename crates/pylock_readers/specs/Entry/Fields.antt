-- The fields of a TOML table, each read as its form says. A table is the list of its members.
use Rattle.std.specs.Prelude.{ℕ, Bool, false, List, [], ◌∷◌, Option, Some, None, unwrap_or, ok_or}
use Rattle.std.specs.Prelude.{Result, Ok, Err, if◌then◌else◌, ⊤}
use Rattle.toml.specs.Data.{Data, Items, no_items, item, Members, as_str, as_bool, as_array}
use Rattle.toml.specs.Data.{as_table}
use Rattle.pytext.specs.Results.{◌>>=◌}
use Rattle.pyver_core.specs.declared.set.specifier.Specifier.{Specifier}
use Rattle.pyver_core.specs.Parsed.{parsed_set}
use Rattle.pymark_core.specs.Marker.Reading.{MarkerValue, marker_of}
use Rattle.pyver_core.specs.Name.{is_name, normal_name}
use Rattle.pylock_readers.specs.declared.field.FieldError.{FieldError}
use Rattle.pylock_readers.specs.declared.field.FieldError.TheVariants.{Wrong}

-- what another definition gives; all its refusals are this one here
abbrev pub or_refused : {V D E : Type 0} → E → Result V D → Result V E
or_refused wrong (Ok x) = Ok x
or_refused wrong (Err e) = Err wrong

-- the test holds
abbrev pub require : Bool → Result ⊤ FieldError
require test = if test then Ok tt else Err Wrong

-- a field that may be absent
abbrev pub optional_field : {V : Type 0} → (Data → Result V FieldError) → Option Data
    → Result (Option V) FieldError
optional_field form None = Ok None
optional_field form (Some d) = form d >>= (λ x. Ok (Some x))

-- each of a list
abbrev pub read_each : {V : Type 0} → (Data → Result V FieldError) → Items
    → Result (List V) FieldError
read_each form no_items = Ok []
read_each form (item d ds) = form d >>= (λ x. read_each form ds >>= (λ xs. Ok (x ∷ xs)))

-- ---- the forms

abbrev pub text_of : Data → Result (List ℕ) FieldError
text_of d = ok_or (as_str d) Wrong

abbrev pub members_of : Data → Result Members FieldError
members_of d = ok_or (as_table d) Wrong

-- the normal form of a name
abbrev pub name_of : Data → Result (List ℕ) FieldError
name_of d = text_of d >>= (λ text. if is_name text then Ok (normal_name text) else Err Wrong)

abbrev pub marker_field : Data → Result MarkerValue FieldError
marker_field d = text_of d >>= (λ text. or_refused Wrong (marker_of text))

abbrev pub set_field : Data → Result (List Specifier) FieldError
set_field d = text_of d >>= (λ text. or_refused Wrong (parsed_set text))

-- ---- fields with a form

abbrev pub text_in : Option Data → Result (List ℕ) FieldError
text_in field = ok_or field Wrong >>= text_of

abbrev pub optional_text_in : Option Data → Result (Option (List ℕ)) FieldError
optional_text_in field = optional_field text_of field

-- a boolean, which is false where it is absent
abbrev pub flag_in : Option Data → Result Bool FieldError
flag_in field =
    optional_field (λ d. ok_or (as_bool d) Wrong) field >>= (λ flag. Ok (unwrap_or flag false))

-- a list, which is empty where it is absent
abbrev pub items_in : Option Data → Result Items FieldError
items_in field =
    optional_field (λ d. ok_or (as_array d) Wrong) field
    >>= (λ items. Ok (unwrap_or items no_items))

-- a list whose elements are of this form
abbrev pub list_in : {V : Type 0} → (Data → Result V FieldError) → Option Data
    → Result (List V) FieldError
list_in form field = items_in field >>= read_each form
