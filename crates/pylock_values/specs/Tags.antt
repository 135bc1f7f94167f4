-- Tags one by one: those that a text of three parts stands for (PEP 425, "Compressed Tag Sets").
use Rattle.std.specs.Prelude.{ℕ, List, map, Option, Some, option_map}
use Rattle.std.specs.List.{flat_map}
use Rattle.pywheel_core.specs.Tag.{TagValue, tag_text, tags_in}
use Rattle.pywheel_core.specs.Texts.{three_parts}
use Rattle.pylock_values.specs.Record.{next_field, record_of}

-- a tag as a part of a record
abbrev pub tag_part : TagValue → Option (List ℕ)
tag_part tag = Some (tag_text tag)

-- the record of the tags of a text of three parts with `-` between, as they are written; nothing
-- where it hasn't three parts
abbrev pub tags_record : List ℕ → Option (List ℕ)
tags_record text =
    option_map (λ parts. record_of (map tag_part (tags_in parts))) (three_parts 45 text)

-- ---- the fields of the tags, each behind a TAB

abbrev pub tag_field : TagValue → List ℕ
tag_field tag = next_field (tag_part tag)

abbrev pub platform_field : List ℕ → List ℕ → List ℕ → List ℕ
platform_field python abi platform =
    tag_field (record { python = python; abi = abi; platform = platform })

abbrev pub abi_fields : List ℕ → List (List ℕ) → List ℕ → List ℕ
abi_fields python platforms abi = flat_map (platform_field python abi) platforms

abbrev pub python_fields : List (List ℕ) → List (List ℕ) → List ℕ → List ℕ
python_fields abis platforms python = flat_map (abi_fields python platforms) abis
