-- The line of a wheel or an sdist, in the parts that are put in their places.
use Rattle.std.specs.Prelude.{◌≡◌, ℕ, ◌++◌, ◌+◌, ◌≤◌, List, [], ◌∷◌, length, codes, true}
use Rattle.std.specs.Prelude.{Some, None}
use Rattle.std.specs.List.{list_all}
use Rattle.pylock_readers.specs.Entry.{EntryValue, FileValue, file_name, place_of}
use Rattle.pylock_run.specs.Inner.Fields.{is_ordinary}
use Rattle.pylock_run.specs.Text.Field.{field}
use Rattle.pylock_run.specs.Text.Plan.{hashes_text}
use Rattle.pylock_run.specs.declared.text.file_line.FileTexts.{FileTexts}

-- the fields of a wheel or an sdist, whose kind has this word
abbrev pub file_fields : List ℕ → FileValue → List (List ℕ)
file_fields word file =
    word
    ∷ field (file_name file) ∷ field (Some (place_of file.location))
    ∷ field (hashes_text file.hashes) ∷ field None ∷ field None ∷ []

-- the line of the texts
abbrev pub file_line : FileTexts → List ℕ
file_line t =
    t.number.now ++ 9 ∷ (t.name.now ++ 9 ∷ (t.version.now ++ 9 ∷ (t.kind.now
    ++ 9 ∷ (t.file_name.now ++ 9 ∷ (t.place.now ++ 9 ∷ (t.algorithm.now
    ++ 61 ∷ (t.value.now ++ codes "\t-\t-\n")))))))

-- the line with `-` for each of its marks
abbrev pub joined_texts : FileTexts → List ℕ
joined_texts t =
    t.number.now ++ 45 ∷ (t.name.now ++ 45 ∷ (t.version.now ++ 45 ∷ (t.kind.now
    ++ 45 ∷ (t.file_name.now ++ 45 ∷ (t.place.now ++ 45 ∷ (t.algorithm.now
    ++ 45 ∷ (t.value.now ++ codes "-----")))))))

abbrev pub file_line_size : FileTexts → ℕ
file_line_size t =
    length t.number.now + length t.name.now + length t.version.now + length t.kind.now
    + length t.file_name.now + length t.place.now + length t.algorithm.now + length t.value.now + 12

-- each text is short
pub record AreShort (t : FileTexts) : Type 0 where
  pub number : length t.number.now ≤ 20
  pub name : length t.name.now ≤ 65536
  pub version : length t.version.now ≤ 65536
  pub kind : length t.kind.now ≤ 5
  pub file_name : length t.file_name.now ≤ 65536
  pub place : length t.place.now ≤ 65536
  pub algorithm : length t.algorithm.now ≤ 65536
  pub value : length t.value.now ≤ 65536

-- each text of the lock is ordinary
pub record AreOrdinary (t : FileTexts) : Type 0 where
  pub name : list_all is_ordinary t.name.now ≡ true
  pub version : list_all is_ordinary t.version.now ≡ true
  pub file_name : list_all is_ordinary t.file_name.now ≡ true
  pub place : list_all is_ordinary t.place.now ≡ true
  pub algorithm : list_all is_ordinary t.algorithm.now ≡ true
  pub value : list_all is_ordinary t.value.now ≡ true

-- each text is what its field holds
pub record StandIn (t : FileTexts) (digits : List ℕ) (entry : EntryValue) (kind_word : List ℕ)
    (file : FileValue) : Type 0 where
  pub number : t.number.now ≡ digits
  pub name : t.name.now ≡ field (Some entry.name)
  pub version : t.version.now ≡ field entry.version
  pub kind : t.kind.now ≡ kind_word
  pub file_name : t.file_name.now ≡ field (file_name file)
  pub place : t.place.now ≡ field (Some (place_of file.location))
  pub hashes : t.algorithm.now ++ 61 ∷ t.value.now ≡ field (hashes_text file.hashes)
