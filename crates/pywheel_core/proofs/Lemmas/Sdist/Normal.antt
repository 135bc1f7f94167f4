-- The file name that PEP 625 asks for is read as the name and the version that it is made of.
use Rattle.std.proofs.Common.{◌≡◌, ℕ, zero, suc, ◌-◌, true, false, ◌==◌, if◌then◌else◌, codes, List, [], ◌∷◌, length, Option, Some, None, option_map, Ok, refl, sym, subst, ap, ◌∙◌, inl, inr, arith}
use Rattle.std.proofs.lemmas.Bool.{and_parts, cases_Bool}
use Rattle.std.proofs.lemmas.Bool.Decides.{nat_tests}
use Rattle.std.proofs.lemmas.List.{append_assoc, length-map}
use Rattle.std.proofs.lemmas.Option.{slice_get-map}
use Rattle.std.specs.Char.{is_ascii_alphanumeric, is_ascii_digit, to_ascii_lowercase}
use Rattle.std.specs.List.{flat_map, list_all, slice_get}
use Rattle.pytext.specs.Bytes.{is_name_byte, is_separator, starts}
use Rattle.pyver_core.proofs.Lemmas.Version.FromParts.{normal_spells}
use Rattle.pyver_core.proofs.Lemmas.Version.Normal.Spells.{number_spelt}
use Rattle.pyver_core.specs.Name.{is_name, is_name_end, normal_name}
use Rattle.pyver_core.specs.Version.Grammar.{AreBehind, IsLarge, IsLocal, IsSegment, Spells}
use Rattle.pyver_core.specs.Version.Normal.{decimal_text, dev_text, dotted_number, dotted_segment, epoch_text, kind_text, local_text, normal_text, post_text, pre_text, release_text, segment_text}
use Rattle.pyver_core.specs.Version.Parts.{Parts}
use Rattle.pyver_core.specs.declared.version.part.LocalPart.{LocalPart}
use Rattle.pyver_core.specs.declared.version.part.LocalPart.TheVariants.{Number, Text}
use Rattle.pyver_core.specs.declared.version.part.PreKind.{PreKind}
use Rattle.pyver_core.specs.declared.version.part.PreKind.TheVariants.{A, B, Rc}
use Rattle.pywheel_core.specs.Sdist.Grammar.{Sdist}
use Rattle.pywheel_core.specs.Sdist.Reading.{sdist_of}
use Rattle.pywheel_core.specs.Sdist.Value.{SdistValue, sdist_text, underscored}
use Rattle.pywheel_core.proofs.Lemmas.Sdist.Grammar.{sdist_made}
use Rattle.pywheel_core.proofs.Lemmas.Texts.Cuts.{Lacks, bytes_lack, lacks_both}
use Rattle.pywheel_core.proofs.Lemmas.Wheel.Grammar.{lower_lacks}

-- ---- the name: `_` for `-` is another separator

abbrev other_separator : ℕ → ℕ
other_separator b = if b == 45 then 95 else b

separates_still : (b : ℕ) → is_separator (other_separator b) ≡ is_separator b
separates_still b = grind (arith, nat_tests)

name_byte_still : (b : ℕ) → is_name_byte b ≡ true → is_name_byte (other_separator b) ≡ true
name_byte_still b h = grind (arith, nat_tests, h)

end_still : (b : ℕ) → is_ascii_alphanumeric b ≡ true → is_ascii_alphanumeric (other_separator b) ≡ true
end_still b h = grind (arith, nat_tests, h)

lower_still : (b : ℕ) → is_separator b ≡ false → to_ascii_lowercase (other_separator b) ≡ to_ascii_lowercase b
lower_still b h = grind (arith, nat_tests, h)

starts_still : (name : List ℕ) → starts is_separator (underscored name) ≡ starts is_separator name
starts_still [] = refl
starts_still (b ∷ name) = separates_still b

underscored_normal : (name : List ℕ) → normal_name (underscored name) ≡ normal_name name
unfolding normal_name
underscored_normal [] = refl
underscored_normal (b ∷ name) = elim (cases_Bool (is_separator b)) [
  | inl is ↦ let still : is_separator (other_separator b) ≡ true = separates_still b ∙ is in rw (still, is, starts_still name, underscored_normal name) refl
  | inr other ↦
      let still : is_separator (other_separator b) ≡ false = separates_still b ∙ other in
      rw (still, other, lower_still b other, underscored_normal name) refl
]

bytes_still : (name : List ℕ) → list_all is_name_byte name ≡ true → list_all is_name_byte (underscored name) ≡ true
bytes_still [] h = refl
bytes_still (b ∷ name) h =
    let p = and_parts (is_name_byte b) (list_all is_name_byte name) h in
    let still = name_byte_still b p.0 in
    rw still (bytes_still name p.1)

name_end_still : (o : Option ℕ) → is_name_end o ≡ true → is_name_end (option_map other_separator o) ≡ true
name_end_still None h = h
name_end_still (Some b) h = end_still b h

underscored_name : (name : List ℕ) → is_name name ≡ true → is_name (underscored name) ≡ true
underscored_name name h =
    let x = and_parts _ _ h in
    let y = and_parts _ _ x.1 in
    let last = length name - 1 in
    let bytes = bytes_still name x.0 in
    let front : is_name_end (slice_get (underscored name) 0) ≡ true = ap is_name_end (slice_get-map other_separator name 0) ∙ name_end_still (slice_get name 0) y.0 in
    let end : is_name_end (slice_get (underscored name) (length (underscored name) - 1)) ≡ true =
    ap (λ n. is_name_end (slice_get (underscored name) (n - 1))) (length-map name other_separator)
    ∙ ap is_name_end (slice_get-map other_separator name last) ∙ name_end_still (slice_get name last) y.1 in
    rw (bytes, front, end) refl

-- ---- the version: no `-` stands in a normal form

digit_no_dash : (b : ℕ) → is_ascii_digit b ≡ true → (b == 45) ≡ false
digit_no_dash b h = grind (arith, nat_tests, h)

alphanumeric_no_dash : (b : ℕ) → is_ascii_alphanumeric b ≡ true → (b == 45) ≡ false
alphanumeric_no_dash b h = grind (arith, nat_tests, h)

decimal_lacks : (n : ℕ) → Lacks 45 (decimal_text n)
decimal_lacks n = bytes_lack is_ascii_digit digit_no_dash (decimal_text n) (number_spelt n).1.digits

epoch_lacks : (n : ℕ) → Lacks 45 (epoch_text n)
epoch_lacks zero = refl
epoch_lacks (suc n) = lacks_both (decimal_text (suc n)) (codes "!") (decimal_lacks (suc n)) refl

dotted_lack : (ns : List ℕ) → Lacks 45 (flat_map dotted_number ns)
dotted_lack [] = refl
dotted_lack (n ∷ ns) = lacks_both (dotted_number n) (flat_map dotted_number ns) (decimal_lacks n) (dotted_lack ns)

release_lacks : (ns : List ℕ) → Lacks 45 (release_text ns)
release_lacks [] = refl
release_lacks (n ∷ ns) = lacks_both (decimal_text n) (flat_map dotted_number ns) (decimal_lacks n) (dotted_lack ns)

kind_lacks : (kind : PreKind) → Lacks 45 (kind_text kind)
kind_lacks A = refl
kind_lacks kind = refl

pre_lacks : (o : Option (PreKind × ℕ)) → Lacks 45 (pre_text o)
pre_lacks None = refl
pre_lacks (Some pre) = lacks_both (kind_text pre.0) (decimal_text pre.1) (kind_lacks pre.0) (decimal_lacks pre.1)

post_lacks : (o : Option ℕ) → Lacks 45 (post_text o)
post_lacks None = refl
post_lacks (Some n) = decimal_lacks n

dev_lacks : (o : Option ℕ) → Lacks 45 (dev_text o)
dev_lacks None = refl
dev_lacks (Some n) = decimal_lacks n

segment_lacks : (text : List ℕ) (s : LocalPart) → IsSegment text s → Lacks 45 (segment_text s)
segment_lacks text (Number n) h = decimal_lacks n
segment_lacks text (Text label) h =
    subst (Lacks 45) h.2 (lower_lacks text ∙ bytes_lack is_ascii_alphanumeric alphanumeric_no_dash text h.0)

segments_lack : (text : List ℕ) (ss : List LocalPart) → AreBehind is_separator IsSegment text ss → Lacks 45 (flat_map dotted_segment ss)
segments_lack text [] h = refl
segments_lack text (s ∷ ss) h = lacks_both (dotted_segment s) (flat_map dotted_segment ss) (segment_lacks h.1 s h.5) (segments_lack h.2 ss h.6)

local_lacks : (text : List ℕ) (ss : List LocalPart) → IsLocal text ss → Lacks 45 (local_text ss)
local_lacks text [] h = refl
local_lacks text (s ∷ ss) h = lacks_both (segment_text s) (flat_map dotted_segment ss) (segment_lacks h.0 s h.3) (segments_lack h.1 ss h.4)

normal_lacks : (text : List ℕ) (v : Parts) → Spells text v → Lacks 45 (normal_text v)
normal_lacks text v h =
    lacks_both (epoch_text v.epoch) _ (epoch_lacks v.epoch)
    (lacks_both (release_text v.release) _ (release_lacks v.release)
    (lacks_both (pre_text v.pre) _ (pre_lacks v.pre)
    (lacks_both (post_text v.post) _ (post_lacks v.post)
    (lacks_both (dev_text v.dev) _ (dev_lacks v.dev) (local_lacks h.local v.local h.is_local)))))

-- ---- the whole

sdist_text_says : (s : SdistValue) (text : List ℕ) → is_name s.name ≡ true → normal_name s.name ≡ s.name → Spells text s.version → (IsLarge s.version → ⊥)
    → Sdist (sdist_text s) s.name s.version
sdist_text_says s text is normal spells fits = record {
  written = underscored s.name;
  spelling = normal_text s.version;
  extension = codes ".tar.gz";
  whole = sym (append_assoc (underscored s.name) (45 ∷ normal_text s.version) (codes ".tar.gz"));
  is_name = underscored_name s.name is;
  normal = underscored_normal s.name ∙ normal;
  is_undashed = normal_lacks text s.version spells;
  spells = normal_spells text s.version spells;
  fits = fits;
  is_extension = inl refl;
}

pub sdist_normal : (s : SdistValue) (text : List ℕ) → is_name s.name ≡ true → normal_name s.name ≡ s.name → Spells text s.version → (IsLarge s.version → ⊥) → sdist_of (sdist_text s) ≡ Ok s
sdist_normal s text is normal spells fits = sdist_made (sdist_text s) s.name s.version (sdist_text_says s text is normal spells fits)
