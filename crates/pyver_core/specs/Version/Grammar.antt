-- Which texts spell which parts (PEP 440, "Public version identifiers", "Local version identifiers"
-- and "Normalization", with the pattern of its appendix "Parsing version strings with regular
-- expressions"). A relation over the ways to cut the whole text: each part is a piece of the text
-- in one of its forms. Numbers are whole numbers of any size.
use Rattle.std.specs.Prelude.{◌≡◌, ◌⊎◌, ℕ, ◌≤◌, Bool, true, false, ◌==◌, nat_le}
use Rattle.std.specs.Prelude.{IsTrue, List, [], ◌∷◌, ◌++◌, length, codes, Option, Some, None}
use Rattle.std.specs.Char.{is_ascii_digit, is_ascii_alphanumeric}
use Rattle.std.specs.List.{list_all, list_any, flat_map}
use Rattle.std.specs.Str.{str_to_ascii_lowercase}
use Rattle.std.specs.Str.Parse.{digits_value}
use Rattle.pytext.specs.Bytes.{is_separator, is_white, starts}
use Rattle.pytext.specs.Digits.{number_limit}
use Rattle.pyver_core.specs.Version.Parts.{Parts}
use Rattle.pyver_core.specs.declared.version.part.PreKind.{PreKind}
use Rattle.pyver_core.specs.declared.version.part.PreKind.TheVariants.{A, B, Rc}
use Rattle.pyver_core.specs.declared.version.part.LocalPart.{LocalPart}
use Rattle.pyver_core.specs.declared.version.part.LocalPart.TheVariants.{Number, Text}

-- ---- bytes

abbrev pub is_dot : ℕ → Bool
is_dot b = b == 46

-- at most one separator
abbrev pub IsOptionalSeparator : List ℕ → Type 0
IsOptionalSeparator text = (list_all is_separator text ≡ true) × (length text ≤ 1)

-- ---- numbers and words

-- digits, or nothing, which stands for 0
pub record IsCount (text : List ℕ) (n : ℕ) : Type 0 where
  pub digits : list_all is_ascii_digit text ≡ true
  pub value : digits_value 10 text ≡ n

-- one digit or more
abbrev pub IsNumber : List ℕ → ℕ → Type 0
IsNumber text n = (1 ≤ length text) × IsCount text n

-- the text is this word, letter case ignored
abbrev pub IsWord : List ℕ → List ℕ → Type 0
IsWord word text = str_to_ascii_lowercase text ≡ word

-- items one after the other, each of them after one byte of a class
abbrev pub AreBehind : {X : Type 0} → (ℕ → Bool) → (List ℕ → X → Type 0) → List ℕ → List X → Type 0
AreBehind opens IsItem text [] = text ≡ []
AreBehind opens IsItem text (x ∷ xs) = (b : ℕ) × (item : List ℕ) × (rest : List ℕ)
    × (text ≡ b ∷ (item ++ rest)) × (opens b ≡ true) × IsItem item x
    × AreBehind opens IsItem rest xs

-- ---- the parts. Each takes the text that it is, what it says, and where that matters the text
-- after it.

-- nothing, or `v`
abbrev pub IsPrefix : List ℕ → Type 0
IsPrefix text = (text ≡ []) ⊎ IsWord (codes "v") text

-- nothing, which stands for 0, or digits and `!`
abbrev pub IsEpoch : List ℕ → ℕ → Type 0
IsEpoch text n = ((text ≡ []) × (n ≡ 0))
    ⊎ ((digits : List ℕ) × (text ≡ digits ++ codes "!") × IsNumber digits n)

-- digits, and any number of: a dot, digits
abbrev pub IsRelease : List ℕ → List ℕ → Type 0
IsRelease text [] = ⊥
IsRelease text (n ∷ ns) = (first : List ℕ) × (rest : List ℕ)
    × (text ≡ first ++ rest) × IsNumber first n × AreBehind is_dot IsNumber rest ns

-- a part with a word: at most one separator, the word, at most one separator, digits or none. A
-- separator after the word belongs to the part, so that none follows a part that ends in its word.
pub record IsTagged (word text : List ℕ) (n : ℕ) (next : List ℕ) : Type 0 where
  pub before : List ℕ
  pub written : List ℕ
  pub after : List ℕ
  pub digits : List ℕ
  pub whole : text ≡ before ++ (written ++ (after ++ digits))
  pub is_before : IsOptionalSeparator before
  pub is_word : IsWord word written
  pub is_after : IsOptionalSeparator after
  pub is_number : IsCount digits n
  pub greedy : after ++ digits ≡ [] → starts is_separator next ≡ false

-- the words of a pre-release
pub data IsPreWord : List ℕ → PreKind → Type 0 where
  word_a : IsPreWord (codes "a") A
  word_alpha : IsPreWord (codes "alpha") A
  word_b : IsPreWord (codes "b") B
  word_beta : IsPreWord (codes "beta") B
  word_c : IsPreWord (codes "c") Rc
  word_rc : IsPreWord (codes "rc") Rc
  word_pre : IsPreWord (codes "pre") Rc
  word_preview : IsPreWord (codes "preview") Rc

abbrev pub IsPre : List ℕ → Option (PreKind × ℕ) → List ℕ → Type 0
IsPre text None next = text ≡ []
IsPre text (Some pre) next = (word : List ℕ) × IsPreWord word pre.0 × IsTagged word text pre.1 next

-- the words of a post-release
pub data IsPostWord : List ℕ → Type 0 where
  word_post : IsPostWord (codes "post")
  word_rev : IsPostWord (codes "rev")
  word_r : IsPostWord (codes "r")

-- `-` and digits, or a part with a word
abbrev pub IsPost : List ℕ → Option ℕ → List ℕ → Type 0
IsPost text None next = text ≡ []
IsPost text (Some n) next = ((digits : List ℕ) × (text ≡ codes "-" ++ digits) × IsNumber digits n)
    ⊎ ((word : List ℕ) × IsPostWord word × IsTagged word text n next)

abbrev pub IsDev : List ℕ → Option ℕ → List ℕ → Type 0
IsDev text None next = text ≡ []
IsDev text (Some n) next = IsTagged (codes "dev") text n next

-- a segment of the local part: digits alone are a number, other letters and digits a text in lower
-- case
abbrev pub IsSegment : List ℕ → LocalPart → Type 0
IsSegment text (Number n) = IsNumber text n
IsSegment text (Text label) = (list_all is_ascii_alphanumeric text ≡ true)
    × (list_all is_ascii_digit text ≡ false) × (str_to_ascii_lowercase text ≡ label)

-- nothing, or `+` and segments with one separator between two of them
abbrev pub IsLocal : List ℕ → List LocalPart → Type 0
IsLocal text [] = text ≡ []
IsLocal text (s ∷ ss) = (first : List ℕ) × (rest : List ℕ)
    × (text ≡ codes "+" ++ (first ++ rest)) × IsSegment first s
    × AreBehind is_separator IsSegment rest ss

-- ---- the whole text

-- The text spells the parts: it is white space, the parts one after the other, and white space.
pub record Spells (text : List ℕ) (p : Parts) : Type 0 where
  pub before : List ℕ
  pub prefix : List ℕ
  pub epoch : List ℕ
  pub release : List ℕ
  pub pre : List ℕ
  pub post : List ℕ
  pub dev : List ℕ
  pub local : List ℕ
  pub after : List ℕ
  pub whole : text ≡ before ++ (prefix ++ (epoch ++ (release
      ++ (pre ++ (post ++ (dev ++ (local ++ after)))))))
  pub is_before : list_all is_white before ≡ true
  pub is_prefix : IsPrefix prefix
  pub is_epoch : IsEpoch epoch p.epoch
  pub is_release : IsRelease release p.release
  pub is_pre : IsPre pre p.pre (post ++ (dev ++ (local ++ after)))
  pub is_post : IsPost post p.post (dev ++ (local ++ after))
  pub is_dev : IsDev dev p.dev (local ++ after)
  pub is_local : IsLocal local p.local
  pub is_after : list_all is_white after ≡ true

-- ---- numbers past the limit

-- the number of a part that may be absent
abbrev pub number_in : Option ℕ → List ℕ
number_in None = []
number_in (Some n) = n ∷ []

abbrev pub number_in_pre : Option (PreKind × ℕ) → List ℕ
number_in_pre None = []
number_in_pre (Some pre) = pre.1 ∷ []

abbrev pub number_in_segment : LocalPart → List ℕ
number_in_segment (Number n) = n ∷ []
number_in_segment (Text label) = []

-- the numbers of the parts
abbrev pub numbers : Parts → List ℕ
numbers p = p.epoch ∷ (p.release ++ (number_in_pre p.pre ++ (number_in p.post
    ++ (number_in p.dev ++ flat_map number_in_segment p.local))))

-- whether one of the numbers is past the limit
abbrev pub has_large : List ℕ → Bool
has_large ns = list_any (nat_le number_limit) ns

-- a number of the parts is past the limit
abbrev pub IsLarge : Parts → Type 0
IsLarge p = IsTrue (has_large (numbers p))
