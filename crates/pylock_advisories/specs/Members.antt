-- Members of JSON objects. One that is `null` is as one that isn't there.
use Rattle.std.specs.Prelude.{ℕ, ◌&&◌, ◌++◌, Bool, true, List, [], codes, Option, Some, None}
use Rattle.std.specs.Prelude.{if◌then◌else◌, is_some, ok_or, option_and_then, option_map}
use Rattle.std.specs.Prelude.{option_to_list, Result, Ok, Err}
use Rattle.serde_json.specs.Data.{Data, Items, no_items, item}
use Rattle.serde_json.specs.Find.{as_array, as_null, as_object, as_str, get}
use Rattle.pytext.specs.Results.{◌>>=◌}
use Rattle.pylock_advisories.specs.declared.error.AdvisoryError.{AdvisoryError}
use Rattle.pylock_advisories.specs.declared.error.AdvisoryError.TheVariants as error
use Rattle.pylock_advisories.specs.declared.error.Member.{Member}
use Rattle.pylock_advisories.specs.declared.error.Member.TheVariants as member

-- the names of the members
abbrev pub member_name : Member → List ℕ
member_name member.Id = codes "id"
member_name member.Aliases = codes "aliases"
member_name member.Affected = codes "affected"
member_name member.Package = codes "package"
member_name member.Ecosystem = codes "ecosystem"
member_name member.Name = codes "name"
member_name member.Versions = codes "versions"
member_name member.Ranges = codes "ranges"
member_name member.Type = codes "type"
member_name member.Events = codes "events"
member_name member.Introduced = codes "introduced"
member_name member.Fixed = codes "fixed"
member_name member.LastAffected = codes "last_affected"
member_name member.Limit = codes "limit"

abbrev pub unless_null : Data → Option Data
unless_null d = if is_some (as_null d) then None else Some d

-- the member of this name
abbrev pub member_in : List ℕ → Data → Option Data
member_in name d = option_and_then unless_null (get name d)

-- a member that is a text where it is there
abbrev pub if_text : Member → Option Data → Result (Option (List ℕ)) AdvisoryError
if_text member None = Ok None
if_text member (Some d) = ok_or (option_map Some (as_str d)) (error.Member member)

abbrev pub text_in : Member → Data → Result (Option (List ℕ)) AdvisoryError
text_in member d = if_text member (member_in (member_name member) d)

-- the items of a member that is a list where it is there
abbrev pub if_list : Member → Option Data → Result Items AdvisoryError
if_list member None = Ok no_items
if_list member (Some d) = ok_or (as_array d) (error.Member member)

abbrev pub items_in : Member → Data → Result Items AdvisoryError
items_in member d = if_list member (member_in (member_name member) d)

-- whether each item is an object
abbrev pub are_objects : Items → Bool
are_objects no_items = true
are_objects (item d ds) = is_some (as_object d) && are_objects ds

-- the items of a member that is a list of objects
abbrev pub objects_in : Member → Data → Result Items AdvisoryError
objects_in member d =
    items_in member d
    >>= (λ ds. if are_objects ds then Ok ds else Err (error.Member member))

-- what is read of the items, those left out of which nothing is read
abbrev pub read_each : {X : Type 0} → (Data → Result (Option X) AdvisoryError) → Items
    → Result (List X) AdvisoryError
read_each read no_items = Ok []
read_each read (item d ds) =
    read d >>= (λ x. read_each read ds >>= (λ xs. Ok (option_to_list x ++ xs)))

-- an item of a list of texts
abbrev pub text_of : Member → Data → Result (Option (List ℕ)) AdvisoryError
text_of member d = ok_or (option_map Some (as_str d)) (error.Member member)

-- the texts of a member that is a list of texts
abbrev pub texts_in : Member → Data → Result (List (List ℕ)) AdvisoryError
texts_in member d = items_in member d >>= read_each (text_of member)
