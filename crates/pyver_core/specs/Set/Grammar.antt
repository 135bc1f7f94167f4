-- Which texts are which specifier sets (PEP 440, "Version specifiers"). A relation over the ways to
-- cut the whole text, in the terms of the version grammar.
use Rattle.std.specs.Prelude.{◌≡◌, ℕ, ◌≤◌, Bool, true, ◌==◌, ◌||◌, not, IsTrue, nat_eq, List, []}
use Rattle.std.specs.Prelude.{◌∷◌, ◌++◌, length, codes}
use Rattle.std.specs.List.{list_all, flat_map, slice_split, starts_with}
use Rattle.pyver_core.specs.Version.Grammar.{IsEpoch, IsPrefix, IsRelease, Spells, has_large}
use Rattle.pytext.specs.Bytes.{is_white}
use Rattle.pyver_core.specs.Version.Grammar.{numbers}
use Rattle.pyver_core.specs.Set.Prefix.{Prefix}
use Rattle.pyver_core.specs.Set.Normal.{operator_of, operator_text}
use Rattle.pyver_core.specs.declared.set.specifier.Operator.{Operator}
use Rattle.pyver_core.specs.declared.set.specifier.Specifier.{Specifier}
use Rattle.pyver_core.specs.declared.set.specifier.Specifier.TheVariants as specifier

-- ---- operands, with the white space round them

-- `R.*`: nothing or `v`, nothing or an epoch, a release, and `.*`
pub record SpellsPrefix (text : List ℕ) (p : Prefix) : Type 0 where
  pub before : List ℕ
  pub prefix : List ℕ
  pub epoch : List ℕ
  pub release : List ℕ
  pub after : List ℕ
  pub whole : text ≡ before ++ (prefix ++ (epoch ++ (release ++ (codes ".*" ++ after))))
  pub is_before : list_all is_white before ≡ true
  pub is_prefix : IsPrefix prefix
  pub is_epoch : IsEpoch epoch p.epoch
  pub is_release : IsRelease release p.release
  pub is_after : list_all is_white after ≡ true

-- a byte that may stand behind `===`: of anything but white space, `;`, `)` and `,`
abbrev pub is_arbitrary_byte : ℕ → Bool
is_arbitrary_byte b = not (is_white b || ((b == 59) || ((b == 41) || (b == 44))))

-- `===`: one such byte or more, as they are
pub record SpellsArbitrary (text label : List ℕ) : Type 0 where
  pub before : List ℕ
  pub after : List ℕ
  pub whole : text ≡ before ++ (label ++ after)
  pub is_before : list_all is_white before ≡ true
  pub not_empty : 1 ≤ length label
  pub allowed : list_all is_arbitrary_byte label ≡ true
  pub is_after : list_all is_white after ≡ true

-- The operand of each specifier: a version, which may have a local part behind `==` and `!=` alone
-- and has two numbers or more behind `~=`; a prefix; anything. `Spells` allows for white space
-- round a version.
abbrev pub IsOperand : List ℕ → Specifier → Type 0
IsOperand text (specifier.Equal v) = Spells text v
IsOperand text (specifier.EqualPrefix p) = SpellsPrefix text p
IsOperand text (specifier.NotEqual v) = Spells text v
IsOperand text (specifier.NotEqualPrefix p) = SpellsPrefix text p
IsOperand text (specifier.AtMost v) = Spells text v × (v.local ≡ [])
IsOperand text (specifier.AtLeast v) = Spells text v × (v.local ≡ [])
IsOperand text (specifier.Before v) = Spells text v × (v.local ≡ [])
IsOperand text (specifier.After v) = Spells text v × (v.local ≡ [])
IsOperand text (specifier.Compatible v) = Spells text v × (v.local ≡ []) × (2 ≤ length v.release)
IsOperand text (specifier.Arbitrary label) = SpellsArbitrary text label

-- ---- specifiers and sets

-- A piece of a set: white space, an operator, and its operand with the white space round it. The
-- operator is the longest that stands there.
pub record IsSpecifier (piece : List ℕ) (s : Specifier) : Type 0 where
  pub before : List ℕ
  pub operand : List ℕ
  pub whole : piece ≡ before ++ (operator_text (operator_of s) ++ operand)
  pub is_before : list_all is_white before ≡ true
  pub is_operand : IsOperand operand s
  pub longest : (other : Operator)
      → starts_with nat_eq (operator_text (operator_of s) ++ operand) (operator_text other) ≡ true
      → length (operator_text other) ≤ length (operator_text (operator_of s))

-- pieces and their specifiers: white space alone is none
pub data ArePieces : List (List ℕ) → List Specifier → Type 0 where
  no_pieces : ArePieces [] []
  blank_piece : (piece : List ℕ) (rest : List (List ℕ)) (specifiers : List Specifier)
      → list_all is_white piece ≡ true → ArePieces rest specifiers
      → ArePieces (piece ∷ rest) specifiers
  specifier_piece : (piece : List ℕ) (rest : List (List ℕ))
      (s : Specifier) (specifiers : List Specifier)
      → IsSpecifier piece s → ArePieces rest specifiers → ArePieces (piece ∷ rest) (s ∷ specifiers)

-- The text is the set: cut at commas, its pieces are the specifiers.
abbrev pub SetText : List ℕ → List Specifier → Type 0
SetText text specifiers = ArePieces (slice_split (λ b. b == 44) text) specifiers

-- ---- numbers past the limit

abbrev pub specifier_numbers : Specifier → List ℕ
specifier_numbers (specifier.Equal v) = numbers v
specifier_numbers (specifier.EqualPrefix p) = p.epoch ∷ p.release
specifier_numbers (specifier.NotEqual v) = numbers v
specifier_numbers (specifier.NotEqualPrefix p) = p.epoch ∷ p.release
specifier_numbers (specifier.AtMost v) = numbers v
specifier_numbers (specifier.AtLeast v) = numbers v
specifier_numbers (specifier.Before v) = numbers v
specifier_numbers (specifier.After v) = numbers v
specifier_numbers (specifier.Compatible v) = numbers v
specifier_numbers (specifier.Arbitrary label) = []

-- the numbers of all specifiers
abbrev pub set_numbers : List Specifier → List ℕ
set_numbers specifiers = flat_map specifier_numbers specifiers

-- a number of a specifier is past the limit
abbrev pub IsLargeSet : List Specifier → Type 0
IsLargeSet specifiers = IsTrue (has_large (set_numbers specifiers))
