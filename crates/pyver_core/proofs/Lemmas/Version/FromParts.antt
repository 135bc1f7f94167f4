-- The parts that make a version are those that a text spells.
use Rattle.std.proofs.Common.{◌≡◌, ℕ, suc, true, false, List, [], ◌∷◌, length, Result, Ok, Err, refl, sym, ap, ◌∙◌, arith, inl, inr}
use Rattle.std.specs.Prelude.{◌==◌, if◌then◌else◌, IfErr, IfOk, flat_map}
use Rattle.std.specs.Char.{is_ascii_digit, is_ascii_alphanumeric, to_ascii_lowercase}
use Rattle.std.specs.List.{list_all}
use Rattle.std.specs.Str.{str_to_ascii_lowercase}
use Rattle.std.proofs.lemmas.Bool.Decides.{nat_tests}
use Rattle.pytext.specs.Agreement.{Gives}
use Rattle.pyver_core.specs.Version.FromParts.{is_segment, is_segment_byte, version_from_parts}
use Rattle.pytext.specs.Bytes.{is_separator}
use Rattle.pyver_core.specs.Version.Grammar.{AreBehind, IsLocal, IsRelease, IsSegment, Spells}
use Rattle.pyver_core.specs.Version.Normal.{dotted_number, dotted_segment, decimal_text, local_text, normal_text, release_text, segment_text}
use Rattle.pyver_core.specs.Version.Parts.{Parts}
use Rattle.pyver_core.specs.declared.version.from_parts.PartsError.{PartsError}
use Rattle.pyver_core.specs.declared.version.from_parts.PartsError.TheVariants.{EmptyRelease, LocalSegment, Memory}
use Rattle.pyver_core.specs.declared.version.part.LocalPart.{LocalPart}
use Rattle.pyver_core.specs.declared.version.part.LocalPart.TheVariants.{Number, Text}
use Rattle.std.proofs.lemmas.Bool.{and_parts, cases_Bool, not-true}
use Rattle.pytext.proofs.BytesLemmas.{all_cons}
use Rattle.pyver_core.proofs.Lemmas.Version.Normal.Spells.{all_lower_digits, dotted_spelt, normal_spells_parts, number_spelt}

-- ---- segments

byte_alphanumeric : (b : ℕ) → is_segment_byte b ≡ true → is_ascii_alphanumeric b ≡ true
byte_alphanumeric b e = grind (arith, nat_tests)

byte_lower : (b : ℕ) → is_segment_byte b ≡ true → to_ascii_lowercase b ≡ b
byte_lower b e = grind (arith, nat_tests)

byte_of_lower : (b : ℕ) → is_ascii_alphanumeric b ≡ true → is_segment_byte (to_ascii_lowercase b) ≡ true
byte_of_lower b e = grind (arith, nat_tests)

all_alphanumeric : (label : List ℕ) → list_all is_segment_byte label ≡ true → list_all is_ascii_alphanumeric label ≡ true
all_alphanumeric [] e = refl
all_alphanumeric (b ∷ rest) e = let c = all_cons is_segment_byte b rest e in rw (byte_alphanumeric b c.0) (all_alphanumeric rest c.1)

all_lower : (label : List ℕ) → list_all is_segment_byte label ≡ true → str_to_ascii_lowercase label ≡ label
all_lower [] e = refl
all_lower (b ∷ rest) e = let c = all_cons is_segment_byte b rest e in rw (byte_lower b c.0) (ap (λ (r : List ℕ). b ∷ r) (all_lower rest c.1))

all_bytes : (run : List ℕ) → list_all is_ascii_alphanumeric run ≡ true → list_all is_segment_byte (str_to_ascii_lowercase run) ≡ true
all_bytes [] e = refl
all_bytes (b ∷ rest) e = let c = all_cons is_ascii_alphanumeric b rest e in rw (byte_of_lower b c.0) (all_bytes rest c.1)

segment_spells : (s : LocalPart) → is_segment s ≡ true → IsSegment (segment_text s) s
segment_spells (Number n) e = number_spelt n
segment_spells (Text label) e =
    let bytes = (and_parts _ _ e).0 in
    (all_alphanumeric label bytes, not-true _ (and_parts _ _ e).1, all_lower label bytes)

segments_spell : (ss : List LocalPart) → list_all is_segment ss ≡ true → AreBehind is_separator IsSegment (flat_map dotted_segment ss) ss
segments_spell [] e = refl
segments_spell (s ∷ ss) e =
    (46, segment_text s, flat_map dotted_segment ss, refl, refl, segment_spells s (and_parts _ _ e).0, segments_spell ss (and_parts _ _ e).1)

local_spells : (ss : List LocalPart) → list_all is_segment ss ≡ true → IsLocal (local_text ss) ss
local_spells [] e = refl
local_spells (s ∷ ss) e = (segment_text s, flat_map dotted_segment ss, refl, segment_spells s (and_parts _ _ e).0, segments_spell ss (and_parts _ _ e).1)

pub release_spells : (n : ℕ) (ns : List ℕ) → IsRelease (release_text (n ∷ ns)) (n ∷ ns)
release_spells n ns = (decimal_text n, flat_map dotted_number ns, refl, number_spelt n, dotted_spelt ns)

spelt_segment : (run : List ℕ) (s : LocalPart) → IsSegment run s → is_segment s ≡ true
spelt_segment run (Number n) is = refl
spelt_segment run (Text label) is =
    let bytes : list_all is_segment_byte label ≡ true = ap (list_all is_segment_byte) (sym is.2) ∙ all_bytes run is.0 in
    let letter : list_all is_ascii_digit label ≡ false = ap (list_all is_ascii_digit) (sym is.2) ∙ (all_lower_digits run ∙ is.1) in
    rw (bytes, letter) refl

spelt_segments : (piece : List ℕ) (ss : List LocalPart) → AreBehind is_separator IsSegment piece ss → list_all is_segment ss ≡ true
spelt_segments piece [] is = refl
spelt_segments piece (s ∷ ss) is = rw (spelt_segment is.1 s is.5) (spelt_segments is.2 ss is.6)

spelt_local : (text : List ℕ) (ss : List LocalPart) → IsLocal text ss → list_all is_segment ss ≡ true
spelt_local text [] is = refl
spelt_local text (s ∷ ss) is = rw (spelt_segment is.0 s is.3) (spelt_segments is.1 ss is.4)

-- ---- versions

abbrev parts_or_refusal : List ℕ → List LocalPart → Parts → Result Parts PartsError
parts_or_refusal release local p = if length release == 0 then Err EmptyRelease else (if list_all is_segment local then Ok p else Err LocalSegment)

not_zero : (n : ℕ) → (suc n == 0) ≡ false
not_zero n = grind (arith, nat_tests)

parts_or_refusal-spelt : (text : List ℕ) (ns : List ℕ) (local : List LocalPart) (p : Parts) → IsRelease text ns → list_all is_segment local ≡ true → parts_or_refusal ns local p ≡ Ok p
parts_or_refusal-spelt text [] local p is e = absurd is
parts_or_refusal-spelt text (n ∷ ns) local p is e = rw (not_zero (length ns), e) refl

pub spelt_from : (text : List ℕ) (p : Parts) → Spells text p → version_from_parts p ≡ Ok p
spelt_from text p s = parts_or_refusal-spelt s.release p.release p.local p s.is_release (spelt_local s.local p.local s.is_local)

parts_or_refusal-Ok : (ns : List ℕ) (local : List LocalPart) (p v : Parts) → parts_or_refusal ns local p ≡ Ok v
    → (p ≡ v) × IsRelease (release_text ns) ns × (list_all is_segment local ≡ true)
parts_or_refusal-Ok [] local p v e = absurd cc
parts_or_refusal-Ok (n ∷ ns) local p v e = elim (cases_Bool (list_all is_segment local)) [
  | inl all ↦ (let same : Ok p ≡ Ok v = rw (not_zero (length ns), all) at e in cc, release_spells n ns, all)
  | inr other ↦ absurd (let no : Err LocalSegment ≡ Ok v = rw (not_zero (length ns), other) at e in cc)
]

pub from_spells : (p v : Parts) → version_from_parts p ≡ Ok v → (v ≡ p) × Spells (normal_text p) p
from_spells p v e =
    let both = parts_or_refusal-Ok p.release p.local p v e in
    (sym both.0, normal_spells_parts p both.1 (local_spells p.local both.2))

pub normal_spells : (text : List ℕ) (p : Parts) → Spells text p → Spells (normal_text p) p
normal_spells text p s = (from_spells p p (spelt_from text p s)).1

pub made_ok : (p : Parts) (r : Result Parts PartsError) → Gives Memory (λ v. v) r (version_from_parts p) → IfOk r (λ v. (v ≡ p) × Spells (normal_text v) v)
made_ok p (Ok v) a =
    let both = from_spells p v a in
    (both.0, rw both.0 both.1)
made_ok p (Err e) a = tt

pub made_refused : (p : Parts) (r : Result Parts PartsError) → Gives Memory (λ v. v) r (version_from_parts p)
    → IfErr r (λ e. (e ≡ Memory → ⊥) → (text : List ℕ) → Spells text p → ⊥)
made_refused p (Ok v) a = tt
made_refused p (Err e) a = λ other text s. let both : Ok p ≡ Err e = sym (spelt_from text p s) ∙ a other in cc
