-- Texts that are the normal form of the parts that they spell.
use Rattle.std.proofs.Common.{◌≡◌, ◌≢◌, ℕ, zero, suc, ◌+◌, ◌*◌, ◌/◌, ◌%◌, ◌^◌, ◌<◌, ◌≤◌, false, List, [], ◌∷◌, ◌++◌, length, get_or, set, take, drop, Bor, Option, Some, None, Ok, refl, sym, subst, ap, ◌∙◌, append_assoc, arith}
use Rattle.std.specs.Prelude.{IfSome, flat_map}
use Rattle.std.specs.Fmt.{decimal}
use Rattle.std.proofs.lemmas.Bool.Decides.{nat_tests}
use Rattle.std.proofs.lemmas.Fmt.{decimal_digit, decimal_step}
use Rattle.std.proofs.lemmas.Grind.{flat_map-append}
use Rattle.std.proofs.lemmas.List.{append-nil}
use Rattle.std.proofs.Math.Seq.{take-length}
use Rattle.pyver_core.specs.Inner.NormalVersion.{IsNormalVersion}
use Rattle.pyver_core.specs.Parsed.{parsed_version}
use Rattle.pyver_core.specs.Version.Grammar.{IsLocal, IsRelease, Spells, has_large, number_in, number_in_pre, numbers}
use Rattle.pyver_core.specs.Version.Normal.{decimal_text, dotted_number, local_text, normal_text, release_text}
use Rattle.pyver_core.specs.Version.Parts.{Parts, release_alone}
use Rattle.pyver_core.specs.declared.version.error.VersionError.TheVariants.{NumberTooLarge}
use Rattle.pyver_core.specs.declared.version.part.LocalPart.{LocalPart}
use Rattle.pyver_core.specs.declared.version.part.PreKind.{PreKind}
use Rattle.pyver_core.proofs.Lemmas.Parsed.Outcomes.{within-false}
use Rattle.pyver_core.proofs.Lemmas.Version.Reading.Complete.Whole.{version_complete}
use Rattle.pyver_core.proofs.Lemmas.Version.Normal.Decimal.{decimal_is_text}
use Rattle.pyver_core.proofs.Lemmas.Version.FromParts.{release_spells}
use Rattle.pyver_core.proofs.Lemmas.Version.Grammar.Limits.{has_large-append}
use Rattle.pyver_core.proofs.Lemmas.Version.Normal.Spells.{normal_spells_parts}

-- ---- one more digit, and one more number

decimal_more : (n d : ℕ) → 0 < n → d < 10 → n * 10 + d < 2 ^ 64 → decimal_text (n * 10 + d) ≡ decimal_text n ++ (48 + d) ∷ []
decimal_more n d some digit fits =
    let m : ℕ = n * 10 + d in
    let front : m / 10 ≡ n = omega arith in
    let end : m % 10 ≡ d = omega arith in
    sym (decimal_is_text m (omega arith)) ∙ decimal_step m (omega arith) fits
    ∙ (λ i. decimal (front i) ++ (48 + end i) ∷ []) ∙ ap (λ t. t ++ (48 + d) ∷ []) (decimal_is_text n (omega arith))

pub digit_more : (before : List ℕ) (n d : ℕ) (rest : List ℕ) → 0 < n → d < 10 → n * 10 + d < 2 ^ 64
    → before ≡ decimal_text n ++ ((48 + d) ∷ rest) → before ≡ decimal_text (n * 10 + d) ++ rest
digit_more before n d rest some digit fits is =
    is ∙ sym (append_assoc (decimal_text n) ((48 + d) ∷ []) rest) ∙ ap (λ t. t ++ rest) (sym (decimal_more n d some digit fits))

release_more : (ns : List ℕ) (n : ℕ) → 1 ≤ length ns → release_text (ns ++ n ∷ []) ≡ release_text ns ++ dotted_number n
release_more [] n some = absurd (omega arith)
release_more (m ∷ ns) n some =
    ap (λ t. decimal_text m ++ t) (flat_map-append dotted_number ns (n ∷ []) ∙ ap (λ t. flat_map dotted_number ns ++ t) (append-nil (dotted_number n)))
    ∙ sym (append_assoc (decimal_text m) (flat_map dotted_number ns) (dotted_number n))

-- ---- the whole text

release_is : (ns : List ℕ) → ns ≢ [] → IsRelease (release_text ns) ns
release_is [] some = absurd (some refl)
release_is (n ∷ ns) some = release_spells n ns

local_is : (ss : List LocalPart) → ss ≡ [] → IsLocal (local_text ss) ss
local_is [] none = refl
local_is (s ∷ ss) none = absurd cc

-- a text that is a normal form spells its parts
pub normal_version_spells : (text : List ℕ) (p : Parts) → IsNormalVersion text p → Spells text p
normal_version_spells text p is = subst (λ t. Spells t p) is.text_is (normal_spells_parts p (release_is p.release is.release) (local_is p.local is.local))

-- what is read of it
pub normal_is_read : (text : List ℕ) (p : Parts) → IsNormalVersion text p → has_large (numbers p) ≡ false → parsed_version text ≡ Ok p
unfolding parsed_version
normal_is_read text p is fits =
    let spells = normal_version_spells text p is in
    rw (version_complete text p spells) (within-false NumberTooLarge (numbers p) p fits)

-- ---- the first byte of a text, where it is a digit

pub first_digit : (s : List ℕ) (d n : ℕ) → 1 ≤ length s → 48 + d ≡ get_or s 0 0 → n + 1 ≡ length s → s ≡ (48 + d) ∷ take n (drop 1 s)
first_digit [] d n some is len = absurd (omega arith)
first_digit (b ∷ s) d n some is len =
    let all : n ≡ length s = omega arith in
    rw (is, all, take-length) refl

pub begun : (text : List ℕ) (d : ℕ) (rest : List ℕ) (r : Option (ℕ × Bor (List ℕ))) → d < 10 → text ≡ (48 + d) ∷ rest
    → IfSome r (λ x. decimal_text d ++ rest ≡ decimal_text x.0 ++ x.1.now) → IfSome r (λ x. text ≡ decimal_text x.0 ++ x.1.now)
begun text d rest None small is h = tt
begun text d rest (Some x) small is h =
    is ∙ ap (λ t. t ++ rest) (sym (decimal_digit d small) ∙ decimal_is_text d (omega arith)) ∙ h

-- ---- numbers within the limit

pub not_large : (n : ℕ) → n < 2 ^ 128 → has_large (n ∷ []) ≡ false
not_large n small = grind (arith, nat_tests)

-- where no part is past the limit, nor is the whole
pub more_fit : (a b : List ℕ) → has_large a ≡ false → has_large b ≡ false → has_large (a ++ b) ≡ false
more_fit a b e f = rw (has_large-append a b, e, f) refl

pub parts_fit : (release : List ℕ) (pre : Option (PreKind × ℕ)) (post dev : Option ℕ)
    → has_large release ≡ false → has_large (number_in_pre pre) ≡ false → has_large (number_in post) ≡ false → has_large (number_in dev) ≡ false
    → has_large (0 ∷ (release ++ (number_in_pre pre ++ (number_in post ++ (number_in dev ++ []))))) ≡ false
parts_fit release pre post dev a b c d =
    let d1 = number_in dev ++ [] in
    let d2 = number_in post ++ d1 in
    let d3 = number_in_pre pre ++ d2 in
    more_fit (0 ∷ []) (release ++ d3) refl (more_fit release d3 a (more_fit (number_in_pre pre) d2 b
    (more_fit (number_in post) d1 c (more_fit (number_in dev) [] d refl))))

-- ---- a release alone

-- its normal form is that of the release
plain_text : (ns : List ℕ) → release_text ns ++ [] ≡ normal_text (release_alone ns)
plain_text ns = refl

not_empty : (capacity : List ℕ) (count : ℕ) → 1 ≤ count → count ≤ length capacity → take count capacity ≢ []
not_empty capacity zero some within is = absurd (omega arith)
not_empty [] (suc n) some within is = absurd (omega arith)
not_empty (m ∷ capacity) (suc n) some within is = absurd cc

-- what is read of a text that begins with the release and ends there
pub plain_is_read : (text rest capacity : List ℕ) (count : ℕ) → 1 ≤ count → count ≤ length capacity
    → text ≡ release_text (take count capacity) ++ rest → length rest ≡ 0 → has_large (take count capacity) ≡ false
    → (parsed_version text ≡ Ok (release_alone (take count capacity))) × (normal_text (release_alone (take count capacity)) ≡ text)
    × (take count capacity ≢ [])
plain_is_read text [] capacity count some within is empty fits =
    let ns = take count capacity in
    let release = not_empty capacity count some within in
    let normal : IsNormalVersion text (release_alone ns) = record { text_is = sym is; release = release; local = refl } in
    (normal_is_read text (release_alone ns) normal (parts_fit ns None None None fits refl refl refl), sym is, release)
plain_is_read text (r ∷ rest) capacity count some within is empty fits = absurd (omega arith)

-- ---- the first number of a release

pub first_alone : (text capacity : List ℕ) (n : ℕ) (rest : List ℕ) → 1 ≤ length capacity → text ≡ decimal_text n ++ rest
    → text ≡ release_text (take 1 (set capacity 0 n)) ++ rest
first_alone text [] n rest some is = absurd (omega arith)
first_alone text (m ∷ capacity) n rest some is = is ∙ ap (λ t. t ++ rest) (sym (append-nil (decimal_text n)))

pub first_fits : (capacity : List ℕ) (n : ℕ) → 1 ≤ length capacity → has_large (n ∷ []) ≡ false → has_large (take 1 (set capacity 0 n)) ≡ false
first_fits [] n some fits = absurd (omega arith)
first_fits (m ∷ capacity) n some fits = fits
