-- Tags of wheels (PEP 425, "Details"), and lists of tags in the order of preference ("Use").
use Rattle.std.specs.Prelude.{◌≡◌, ℕ, ◌*◌, suc, ◌<◌, Bool, true, ◌&&◌, nat_le, nat_lt}
use Rattle.std.specs.Prelude.{nat_eq, if◌then◌else◌, List, [], ◌∷◌, ◌++◌, length, map, Option}
use Rattle.std.specs.Prelude.{ok_or, position, Result, Ok, Err}
use Rattle.std.specs.Cmp.Lexicographic.{pointwise}
use Rattle.std.specs.List.{IsDistinct, flat_map, list_all, list_any, position_or_len}
use Rattle.std.specs.Str.{str_to_ascii_lowercase}
use Rattle.pytext.specs.Bytes.{is_word_byte}
use Rattle.pytext.specs.Results.{◌>>=◌}
use Rattle.pywheel_core.specs.Texts.{pieces_at, three_parts}
use Rattle.pywheel_core.specs.declared.error.TagError.{TagError}
use Rattle.pywheel_core.specs.declared.error.TagError.TheVariants as tag
use Rattle.pywheel_core.specs.declared.error.TagListError.{TagListError}
use Rattle.pywheel_core.specs.declared.error.TagListError.TheVariants as list

-- ---- one tag

pub record TagValue : Type 0 where
  pub python : List ℕ
  pub abi : List ℕ
  pub platform : List ℕ

-- one or more ASCII letters, digits and `_`
abbrev pub is_tag_part : List ℕ → Bool
is_tag_part part = nat_lt 0 (length part) && list_all is_word_byte part

-- the parts of a tag, or of a compressed tag set
abbrev pub TagParts : Type 0
TagParts = List ℕ × List ℕ × List ℕ

-- each of the three is a part of a tag
abbrev pub is_tag : TagParts → Bool
is_tag t = is_tag_part t.0 && (is_tag_part t.1 && is_tag_part t.2)

abbrev pub tag_with : TagParts → TagValue
tag_with t = record { python = t.0; abi = t.1; platform = t.2 }

-- the tag that a text is, in lower case
unfoldable pub tag_of : List ℕ → Result TagValue TagError
tag_of text = do
  parts ← ok_or (three_parts 45 (str_to_ascii_lowercase text)) tag.Shape
  if is_tag parts then Ok (tag_with parts) else Err tag.Shape

-- `python-abi-platform`
abbrev pub tag_text : TagValue → List ℕ
tag_text t = t.python ++ (45 ∷ (t.abi ++ (45 ∷ t.platform)))

-- The text, in any case, is this tag: three parts of a tag with `-` between them. `tag_of` gives a
-- tag exactly where this holds: the law `tag_of_is_the_answer`.
pub record TagText (text : List ℕ) (t : TagValue) : Type 0 where
  pub whole : str_to_ascii_lowercase text ≡ tag_text t
  pub python : is_tag_part t.python ≡ true
  pub abi : is_tag_part t.abi ≡ true
  pub platform : is_tag_part t.platform ≡ true

abbrev pub text_eq : List ℕ → List ℕ → Bool
text_eq = pointwise nat_eq

abbrev pub tag_eq : TagValue → TagValue → Bool
tag_eq a b = text_eq a.python b.python && (text_eq a.abi b.abi && text_eq a.platform b.platform)

-- ---- tags in the order of preference

-- the position of a tag among the tags
abbrev pub rank_of : TagValue → List TagValue → Option ℕ
rank_of t tags = position (tag_eq t) tags

-- a tag after the others, where it isn't among them
abbrev pub with_tag : List TagValue → TagValue → List TagValue
with_tag tags t = if list_any (tag_eq t) tags then tags else tags ++ t ∷ []

abbrev pub at_position : {V : Type 0} → ℕ → Result V TagError → Result V TagListError
at_position position (Ok x) = Ok x
at_position position (Err e) = Err (list.Tag position)

-- the tags of these texts, the first of which has this position, after the tags before them
abbrev pub tags_after : List TagValue → ℕ → List (List ℕ) → Result (List TagValue) TagListError
tags_after tags position [] = Ok tags
tags_after tags position (text ∷ texts) =
    at_position position (tag_of text) >>= λ t. tags_after (with_tag tags t) (suc position) texts

-- the distinct tags of the texts in order, each at its first position; or the position of the first
-- text that is no tag, counted from 1
unfoldable pub tags_of : List (List ℕ) → Result (List TagValue) TagListError
tags_of texts = tags_after [] 1 texts

-- ---- what determines that answer: the law `tags_of_is_the_answer`

-- whether a tag is among some tags, and the position where it stands first
abbrev pub is_among : TagValue → List TagValue → Bool
is_among t tags = list_any (tag_eq t) tags

abbrev pub first_position : TagValue → List TagValue → ℕ
first_position t tags = position_or_len (tag_eq t) tags

-- the tags that are given, each once, in the order of their first positions
pub record AreFirsts (given tags : List TagValue) : Type 0 where
  pub distinct : IsDistinct tag_eq tags
  pub same : (t : TagValue) → is_among t tags ≡ is_among t given
  pub ordered : (a b : TagValue) → is_among a tags ≡ true → is_among b tags ≡ true
      → first_position a tags < first_position b tags
      → first_position a given < first_position b given

-- each text is the tag that stands at its position
abbrev pub AreTags : List (List ℕ) → List TagValue → Type 0
AreTags texts given = map tag_of texts ≡ map (λ t. Ok t) given

-- the text at this position, counted from 1, is the first that is no tag
pub record IsNoTag (texts : List (List ℕ)) (position : ℕ) : Type 0 where
  pub before : List (List ℕ)
  pub text : List ℕ
  pub after : List (List ℕ)
  pub whole : texts ≡ before ++ text ∷ after
  pub counted : position ≡ suc (length before)
  pub tags : (given : List TagValue) × AreTags before given
  pub none : tag_of text ≡ Err tag.Shape

-- ---- compressed tag sets (PEP 425, "Compressed Tag Sets")

-- the pieces of a part, with dots between them
abbrev pub pieces : List ℕ → List (List ℕ)
pieces part = pieces_at 46 part

-- every triple: the platform runs fastest, then the ABI
abbrev pub triples : List (List ℕ) → List (List ℕ) → List (List ℕ) → List TagValue
triples pythons abis platforms = flat_map (λ python. flat_map (λ abi. map (λ platform.
    record { python = python; abi = abi; platform = platform }) platforms) abis) pythons

-- all pieces are parts of a tag
abbrev pub are_tag_parts : List (List ℕ) → Bool
are_tag_parts parts = list_all is_tag_part parts

-- the most tags that a compressed tag set may stand for
abbrev pub TAGS_LIMIT : ℕ
TAGS_LIMIT = 1024

-- how many tags there are
abbrev pub tag_count : TagParts → ℕ
tag_count set = length (pieces set.0) * (length (pieces set.1) * length (pieces set.2))

-- all pieces are parts of a tag
abbrev pub has_tag_parts : TagParts → Bool
has_tag_parts set = are_tag_parts (pieces set.0)
    && (are_tag_parts (pieces set.1) && are_tag_parts (pieces set.2))

-- and the tags aren't too many
abbrev pub is_tag_set : TagParts → Bool
is_tag_set set = has_tag_parts set && nat_le (tag_count set) TAGS_LIMIT

-- the tags that a compressed tag set stands for
abbrev pub tags_in : TagParts → List TagValue
tags_in set = triples (pieces set.0) (pieces set.1) (pieces set.2)
