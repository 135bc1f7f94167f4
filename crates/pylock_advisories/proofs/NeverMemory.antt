-- What a file's JSON says is never out of memory.
use Rattle.std.proofs.Common.{◌≡◌, ◌+◌, ◌∙◌, ◌++◌, ℕ, List, [], ◌∷◌, Option, Some, None, option_map, option_to_list, Result, Ok, Err, ap, sym, refl}
use Rattle.serde_json.specs.Data.{Data, Items, no_items, item}
use Rattle.serde_json.specs.Find.{as_array, as_object, as_str}
use Rattle.pytext.specs.Results.{◌>>=◌}
use Rattle.pytext.proofs.NeverLemmas.{Never, never_cond, never_err, never_ok, never_or, never_then}
use Rattle.pylock_advisories.specs.Advisory.{AdvisoryValue}
use Rattle.pylock_advisories.specs.File.{advisories_of, at_place, json_of, line_advisory, lines_from, lines_of, value_advisories, values_from, whole_or_lines}
use Rattle.pylock_advisories.specs.Members.{are_objects, if_list, if_text, items_in, member_in, member_name, objects_in, read_each, text_in, text_of, texts_in}
use Rattle.pylock_advisories.specs.Reading.{advisory_in, affected_in, id_in, if_package, members_of, name_in, range_in}
use Rattle.pylock_advisories.specs.declared.error.AdvisoriesError.TheVariants as file
use Rattle.pylock_advisories.specs.declared.error.AdvisoryError.{AdvisoryError}
use Rattle.pylock_advisories.specs.declared.error.AdvisoryError.TheVariants as error
use Rattle.pylock_advisories.specs.declared.error.Member.{Member}
use Rattle.pylock_advisories.specs.declared.error.Member.TheVariants as member

-- a reading gives no such answer
abbrev Fine : {A : Type 0} → Result A AdvisoryError → Type 0
Fine r = Never error.Memory r

no_member : (m : Member) → error.Member m ≡ error.Memory → ⊥
no_member m e = absurd cc

if_text_fine : (m : Member) (o : Option Data) → Fine (if_text m o)
if_text_fine m None = never_ok error.Memory None
if_text_fine m (Some d) = never_or error.Memory (error.Member m) (option_map Some (as_str d)) (no_member m)

text_fine : (m : Member) (d : Data) → Fine (text_in m d)
text_fine m d = if_text_fine m (member_in (member_name m) d)

if_list_fine : (m : Member) (o : Option Data) → Fine (if_list m o)
if_list_fine m None = never_ok error.Memory no_items
if_list_fine m (Some d) = never_or error.Memory (error.Member m) (as_array d) (no_member m)

items_fine : (m : Member) (d : Data) → Fine (items_in m d)
items_fine m d = if_list_fine m (member_in (member_name m) d)

objects_fine : (m : Member) (d : Data) → Fine (objects_in m d)
objects_fine m d =
    never_then error.Memory (items_in m d) _ (items_fine m d)
    (λ ds. never_cond error.Memory (are_objects ds) (Ok ds) (Err (error.Member m)) (never_ok error.Memory ds) (never_err error.Memory (error.Member m) (no_member m)))

each_fine : {X : Type 0} (read : Data → Result (Option X) AdvisoryError) → ((d : Data) → Fine (read d)) → (ds : Items) → Fine (read_each read ds)
each_fine read fine no_items = never_ok error.Memory []
each_fine read fine (item d ds) =
    never_then error.Memory (read d) _ (fine d)
    (λ x. never_then error.Memory (read_each read ds) _ (each_fine read fine ds) (λ xs. never_ok error.Memory (option_to_list x ++ xs)))

texts_fine : (m : Member) (d : Data) → Fine (texts_in m d)
texts_fine m d =
    never_then error.Memory (items_in m d) _ (items_fine m d)
    (each_fine (text_of m) (λ e. never_or error.Memory (error.Member m) (option_map Some (as_str e)) (no_member m)))

range_fine : (d : Data) → Fine (range_in d)
unfolding range_in
range_fine d =
    never_then error.Memory (text_in member.Type d) _ (text_fine member.Type d)
    (λ kind. never_then error.Memory (objects_in member.Events d) _ (objects_fine member.Events d)
    (λ events. never_then error.Memory (read_each (text_in member.Introduced) events) _ (each_fine (text_in member.Introduced) (text_fine member.Introduced) events)
    (λ introduced. never_then error.Memory (read_each (text_in member.Fixed) events) _ (each_fine (text_in member.Fixed) (text_fine member.Fixed) events)
    (λ fixed. never_then error.Memory (read_each (text_in member.LastAffected) events) _ (each_fine (text_in member.LastAffected) (text_fine member.LastAffected) events)
    (λ last_affected. never_then error.Memory (read_each (text_in member.Limit) events) _ (each_fine (text_in member.Limit) (text_fine member.Limit) events)
    (λ limits. never_ok error.Memory _))))))

name_fine : (d : Data) → Fine (name_in d)
unfolding name_in
name_fine d =
    never_then error.Memory (text_in member.Ecosystem d) _ (text_fine member.Ecosystem d)
    (λ ecosystem. never_then error.Memory (text_in member.Name d) _ (text_fine member.Name d) (λ name. never_ok error.Memory _))

package_fine : (o : Option Data) → Fine (if_package o)
package_fine None = never_ok error.Memory None
package_fine (Some d) =
    never_cond error.Memory _ (name_in d) (Err (error.Member member.Package)) (name_fine d)
    (never_err error.Memory (error.Member member.Package) (no_member member.Package))

affected_fine : (d : Data) → Fine (affected_in d)
unfolding affected_in
affected_fine d =
    never_then error.Memory (if_package (member_in (member_name member.Package) d)) _ (package_fine (member_in (member_name member.Package) d))
    (λ name. never_then error.Memory (texts_in member.Versions d) _ (texts_fine member.Versions d)
    (λ texts. never_then error.Memory (objects_in member.Ranges d) _ (objects_fine member.Ranges d)
    (λ values. never_then error.Memory (read_each range_in values) _ (each_fine range_in range_fine values)
    (λ ranges. never_ok error.Memory _))))

id_fine : (d : Data) → Fine (id_in d)
id_fine d =
    never_then error.Memory (text_in member.Id d) _ (text_fine member.Id d)
    (λ id. never_or error.Memory (error.Member member.Id) id (no_member member.Id))

members_fine : (d : Data) → Fine (members_of d)
unfolding members_of
members_fine d =
    never_then error.Memory (id_in d) _ (id_fine d)
    (λ id. never_then error.Memory (texts_in member.Aliases d) _ (texts_fine member.Aliases d)
    (λ aliases. never_then error.Memory (objects_in member.Affected d) _ (objects_fine member.Affected d)
    (λ values. never_then error.Memory (read_each affected_in values) _ (each_fine affected_in affected_fine values)
    (λ affected. never_ok error.Memory _))))

-- no value is read as out of memory
pub advisory_fine : (d : Data) → advisory_in d ≡ Err error.Memory → ⊥
advisory_fine d =
    never_cond error.Memory _ (members_of d) (Err error.Object) (members_fine d)
    (never_err error.Memory error.Object (λ e. absurd cc))

place_fine : {X : Type 0} (place : ℕ) (r : Result X AdvisoryError) → Never file.Memory (at_place place r)
place_fine place (Ok x) = never_ok file.Memory x
place_fine place (Err e) = never_err file.Memory (file.Advisory place e) (λ h. absurd cc)

values_fine : (place : ℕ) (ds : Items) → Never file.Memory (values_from place ds)
values_fine place no_items = never_ok file.Memory []
values_fine place (item d ds) =
    never_then file.Memory (at_place place (advisory_in d)) _ (place_fine place (advisory_in d))
    (λ a. never_then file.Memory (values_from (place + 1) ds) _ (values_fine (place + 1) ds) (λ more. never_ok file.Memory (a ∷ more)))

lines_fine : (place : ℕ) (lines : List (List ℕ)) → Never file.Memory (lines_from place lines)
lines_fine place [] = never_ok file.Memory []
lines_fine place (line ∷ lines) =
    never_then file.Memory (at_place place (line_advisory line)) _ (place_fine place (line_advisory line))
    (λ a. never_then file.Memory (lines_from (place + 1) lines) _ (lines_fine (place + 1) lines) (λ more. never_ok file.Memory (a ∷ more)))

value_fine : (d : Data) (o : Option Items) → Never file.Memory (value_advisories d o)
value_fine d None = values_fine 1 (item d no_items)
value_fine d (Some ds) = values_fine 1 ds

whole_fine : (o : Option Data) (bytes : List ℕ) → Never file.Memory (whole_or_lines o bytes)
whole_fine None bytes = lines_fine 1 (lines_of bytes)
whole_fine (Some d) bytes = value_fine d (as_array d)

-- no file is read as out of memory
pub file_fine : (bytes : List ℕ) → advisories_of bytes ≡ Err file.Memory → ⊥
file_fine bytes = whole_fine (json_of bytes) bytes
