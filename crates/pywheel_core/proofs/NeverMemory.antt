-- No definition answers out of memory.
use Rattle.std.proofs.Common.{ℕ, suc, List, [], ◌∷◌, Option, Some, None, ok_or, Result, Ok, Err}
use Rattle.std.specs.Result.{result_ok}
use Rattle.std.specs.Str.{str_to_ascii_lowercase}
use Rattle.pytext.proofs.NeverLemmas.{Never, never_cond, never_or, never_then}
use Rattle.pyver_core.specs.Name.{is_name, normal_name}
use Rattle.pyver_core.specs.Parsed.{parsed_version}
use Rattle.pyver_core.specs.Version.Parts.{Parts}
use Rattle.pyver_core.specs.declared.version.error.VersionError.{VersionError}
use Rattle.pywheel_core.specs.Tag.{TagValue, at_position, is_tag, is_tag_set, tag_of, tag_with, tags_after, tags_in, tags_of, with_tag}
use Rattle.pywheel_core.specs.Sdist.Reading.{sdist_name_in, sdist_of, sdist_stem, sdist_version_in}
use Rattle.pywheel_core.specs.Texts.{cut_at_last, three_parts}
use Rattle.pywheel_core.specs.Wheel.Build.{is_build}
use Rattle.pywheel_core.specs.Wheel.Cut.{WheelParts, parts_of, stem_of}
use Rattle.pywheel_core.specs.Wheel.Name.{is_wheel_name}
use Rattle.pywheel_core.specs.Wheel.Reading.{build_in, name_in, set_tags_in, tag_set_in, version_in, version_or, wheel_in, wheel_of}
use Rattle.pywheel_core.specs.declared.error.SdistError.TheVariants as sdist
use Rattle.pywheel_core.specs.declared.error.TagError.{TagError}
use Rattle.pywheel_core.specs.declared.error.TagError.TheVariants as tag
use Rattle.pywheel_core.specs.declared.error.TagListError.TheVariants as list
use Rattle.pywheel_core.specs.declared.error.WheelError.TheVariants as wheel

-- ---- tags

pub tag_never_memory : (text : List ℕ) → Never tag.Memory (tag_of text)
unfolding tag_of
tag_never_memory text =
    never_then tag.Memory (ok_or (three_parts 45 (str_to_ascii_lowercase text)) tag.Shape) _
    (never_or tag.Memory tag.Shape (three_parts 45 (str_to_ascii_lowercase text)) (λ e. cc e))
    (λ parts. never_cond tag.Memory (is_tag parts) (Ok (tag_with parts)) (Err tag.Shape) (λ e. cc e) (λ e. cc e))

position_never_memory : (place : ℕ) (r : Result TagValue TagError) → Never list.Memory (at_position place r)
position_never_memory place (Ok t) = λ e. cc e
position_never_memory place (Err other) = λ e. cc e

after_never_memory : (tags : List TagValue) (place : ℕ) (texts : List (List ℕ)) → Never list.Memory (tags_after tags place texts)
after_never_memory tags place [] = λ e. cc e
after_never_memory tags place (text ∷ texts) =
    never_then list.Memory (at_position place (tag_of text)) (λ t. tags_after (with_tag tags t) (suc place) texts) (position_never_memory place (tag_of text))
    (λ t. after_never_memory (with_tag tags t) (suc place) texts)

pub tags_never_memory : (texts : List (List ℕ)) → Never list.Memory (tags_of texts)
unfolding tags_of
tags_never_memory texts = after_never_memory [] 1 texts

-- ---- names of wheels

name_never_memory : (name : List ℕ) → Never wheel.Memory (name_in name)
unfolding name_in
name_never_memory name = never_cond wheel.Memory (is_wheel_name name) (Ok name) (Err wheel.Name) (λ e. cc e) (λ e. cc e)

version_or_never_memory : (r : Result Parts VersionError) → Never wheel.Memory (version_or r)
version_or_never_memory (Ok v) = λ e. cc e
version_or_never_memory (Err other) = λ e. cc e

version_never_memory : (text : List ℕ) → Never wheel.Memory (version_in text)
unfolding version_in
version_never_memory text = version_or_never_memory (parsed_version text)

build_never_memory : (build : Option (List ℕ)) → Never wheel.Memory (build_in build)
build_never_memory None = λ e. cc e
build_never_memory (Some build) = never_cond wheel.Memory (is_build build) (Ok (Some build)) (Err wheel.Build) (λ e. cc e) (λ e. cc e)

set_tags_never_memory : (set : List ℕ) → Never wheel.Memory (set_tags_in set)
unfolding set_tags_in
set_tags_never_memory set =
    never_then wheel.Memory (ok_or (three_parts 45 set) wheel.Tags) _ (never_or wheel.Memory wheel.Tags (three_parts 45 set) (λ e. cc e))
    (λ parts. never_cond wheel.Memory (is_tag_set parts) (Ok (tags_in parts)) (Err wheel.Tags) (λ e. cc e) (λ e. cc e))

tag_set_never_memory : (text : List ℕ) → Never wheel.Memory (tag_set_in text)
unfolding tag_set_in
tag_set_never_memory text =
    never_then wheel.Memory (set_tags_in (str_to_ascii_lowercase text)) _ (set_tags_never_memory (str_to_ascii_lowercase text)) (λ tags e. cc e)

parts_never_memory : (parts : WheelParts) → Never wheel.Memory (wheel_in parts)
unfolding wheel_in
parts_never_memory parts =
    never_then wheel.Memory (name_in parts.name) _ (name_never_memory parts.name)
    (λ name. never_then wheel.Memory (version_in parts.version) _ (version_never_memory parts.version)
    (λ version. never_then wheel.Memory (build_in parts.build) _ (build_never_memory parts.build)
    (λ build. never_then wheel.Memory (tag_set_in parts.tag_set) _ (tag_set_never_memory parts.tag_set) (λ set e. cc e))))

pub wheel_never_memory : (text : List ℕ) → Never wheel.Memory (wheel_of text)
unfolding wheel_of
wheel_never_memory text =
    never_then wheel.Memory (ok_or (stem_of text) wheel.Extension) _ (never_or wheel.Memory wheel.Extension (stem_of text) (λ e. cc e))
    (λ stem. never_then wheel.Memory (ok_or (parts_of stem) wheel.Parts) (λ parts. wheel_in parts)
    (never_or wheel.Memory wheel.Parts (parts_of stem) (λ e. cc e)) (λ parts. parts_never_memory parts))

-- ---- names of source distributions

pub sdist_never_memory : (text : List ℕ) → Never sdist.Memory (sdist_of text)
unfolding sdist_of sdist_name_in sdist_version_in
sdist_never_memory text =
    never_then sdist.Memory (ok_or (sdist_stem text) sdist.Extension) _ (never_or sdist.Memory sdist.Extension (sdist_stem text) (λ e. cc e))
    (λ stem. never_then sdist.Memory (ok_or (cut_at_last 45 stem) sdist.Parts) _ (never_or sdist.Memory sdist.Parts (cut_at_last 45 stem) (λ e. cc e))
    (λ parts. never_then sdist.Memory (sdist_name_in parts.0) _
    (never_cond sdist.Memory (is_name parts.0) (Ok (normal_name parts.0)) (Err sdist.Name) (λ e. cc e) (λ e. cc e))
    (λ name. never_then sdist.Memory (sdist_version_in parts.1) _
    (never_or sdist.Memory sdist.Version (result_ok (parsed_version parts.1)) (λ e. cc e)) (λ version e. cc e))))

-- none of the four readings is out of memory
pub ruleset never_memory = (tag_never_memory, tags_never_memory, wheel_never_memory, sdist_never_memory)
