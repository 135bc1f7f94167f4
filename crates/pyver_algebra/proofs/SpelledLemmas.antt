-- A plain text in lower case is the normal form of one version at most.
use Rattle.std.proofs.Common.{◌≡◌, ℕ, zero, suc, true, false, List, [], ◌∷◌, ◌++◌, codes, Option, Some, None, refl, sym, ap, ◌∙◌, arith}
use Rattle.std.specs.Prelude.{◌&&◌, not}
use Rattle.std.specs.Char.{is_ascii_digit, to_ascii_lowercase}
use Rattle.std.specs.List.{flat_map, list_all}
use Rattle.std.specs.Str.{str_to_ascii_lowercase}
use Rattle.std.specs.Ordering.{is_lt}
use Rattle.std.specs.declared.cmp.Ordering.{Ordering}
use Rattle.std.proofs.lemmas.Bool.{and_parts}
use Rattle.std.proofs.lemmas.Cmp.{tied_itself}
use Rattle.std.proofs.lemmas.Bool.Decides.{nat_tests}
use Rattle.std.proofs.lemmas.List.{map-append}
use Rattle.std.proofs.lemmas.Option.{same_Some}
use Rattle.std.proofs.lemmas.Slice.Eq.{bytes_eq-Decides}
use Rattle.pytext.specs.Bytes.{starts}
use Rattle.pyver_core.specs.Set.Admission.{is_spelled}
use Rattle.pyver_core.specs.Version.Grammar.{Spells}
use Rattle.pyver_core.specs.Version.Normal.{decimal_text, dev_text, dotted_number, normal_text, post_text, pre_text, release_text}
use Rattle.pyver_core.specs.Version.Order.{version_cmp}
use Rattle.pyver_core.specs.Version.OrderLaws.{version_total}
use Rattle.pyver_core.specs.Version.Parts.{Parts, public_part}
use Rattle.pyver_core.specs.Version.Reading.{version_of}
use Rattle.pyver_core.specs.declared.version.part.LocalPart.{LocalPart}
use Rattle.pyver_core.specs.declared.version.part.PreKind.{PreKind}
use Rattle.pyver_core.specs.declared.version.part.PreKind.TheVariants.{A, B, Rc}
use Rattle.pyver_core.proofs.Lemmas.Version.FromParts.{release_spells}
use Rattle.pyver_core.proofs.Lemmas.Version.Normal.Spells.{normal_spells_parts, number_spelt}
use Rattle.pyver_core.proofs.Lemmas.Version.Reading.Complete.Whole.{version_complete}
use Rattle.pyver_algebra.specs.Limits.{is_at}
use Rattle.pyver_algebra.specs.Plain.{is_plain, is_plain_byte}

-- ---- the normal form without a local part is in lower case

digit_lower : (b : ℕ) → is_ascii_digit b ≡ true → to_ascii_lowercase b ≡ b
digit_lower b e = grind (arith, nat_tests)

digits_lower : (xs : List ℕ) → list_all is_ascii_digit xs ≡ true → str_to_ascii_lowercase xs ≡ xs
digits_lower [] e = refl
digits_lower (x ∷ xs) e =
    let parts = and_parts (is_ascii_digit x) _ e in
    λ i. digit_lower x parts.0 i ∷ digits_lower xs parts.1 i

decimal_lower : (n : ℕ) → str_to_ascii_lowercase (decimal_text n) ≡ decimal_text n
decimal_lower n = digits_lower (decimal_text n) (number_spelt n).1.digits

behind_lower : (word : List ℕ) (n : ℕ) → str_to_ascii_lowercase word ≡ word → str_to_ascii_lowercase (word ++ decimal_text n) ≡ word ++ decimal_text n
behind_lower word n e = map-append to_ascii_lowercase word (decimal_text n) ∙ (λ i. e i ++ decimal_lower n i)

dotted_lower : (ns : List ℕ) → str_to_ascii_lowercase (flat_map dotted_number ns) ≡ flat_map dotted_number ns
dotted_lower [] = refl
dotted_lower (n ∷ ns) =
    map-append to_ascii_lowercase (dotted_number n) (flat_map dotted_number ns)
    ∙ (λ i. behind_lower (codes ".") n refl i ++ dotted_lower ns i)

release_lower : (ns : List ℕ) → str_to_ascii_lowercase (release_text ns) ≡ release_text ns
release_lower [] = refl
release_lower (n ∷ ns) =
    map-append to_ascii_lowercase (decimal_text n) (flat_map dotted_number ns) ∙ (λ i. decimal_lower n i ++ dotted_lower ns i)

pre_lower : (pre : Option (PreKind × ℕ)) → str_to_ascii_lowercase (pre_text pre) ≡ pre_text pre
pre_lower None = refl
pre_lower (Some (A, n)) = behind_lower (codes "a") n refl
pre_lower (Some (B, n)) = behind_lower (codes "b") n refl
pre_lower (Some (Rc, n)) = behind_lower (codes "rc") n refl

post_lower : (post : Option ℕ) → str_to_ascii_lowercase (post_text post) ≡ post_text post
post_lower None = refl
post_lower (Some n) = behind_lower (codes ".post") n refl

dev_lower : (dev : Option ℕ) → str_to_ascii_lowercase (dev_text dev) ≡ dev_text dev
dev_lower None = refl
dev_lower (Some n) = behind_lower (codes ".dev") n refl

both_lower : (xs ys : List ℕ) → str_to_ascii_lowercase xs ≡ xs → str_to_ascii_lowercase ys ≡ ys → str_to_ascii_lowercase (xs ++ ys) ≡ xs ++ ys
both_lower xs ys e f = map-append to_ascii_lowercase xs ys ∙ (λ i. e i ++ f i)

public_lower : (release : List ℕ) (pre : Option (PreKind × ℕ)) (post dev : Option ℕ)
    → str_to_ascii_lowercase (release_text release ++ (pre_text pre ++ (post_text post ++ (dev_text dev ++ []))))
    ≡ release_text release ++ (pre_text pre ++ (post_text post ++ (dev_text dev ++ [])))
public_lower release pre post dev =
    both_lower (release_text release) (pre_text pre ++ (post_text post ++ (dev_text dev ++ []))) (release_lower release)
    (both_lower (pre_text pre) (post_text post ++ (dev_text dev ++ [])) (pre_lower pre)
    (both_lower (post_text post) (dev_text dev ++ []) (post_lower post)
    (both_lower (dev_text dev) [] (dev_lower dev) refl)))

-- ---- bytes of a plain text

all_behind : (xs ys : List ℕ) → list_all is_plain_byte (str_to_ascii_lowercase (xs ++ ys)) ≡ true → list_all is_plain_byte (str_to_ascii_lowercase ys) ≡ true
all_behind [] ys e = e
all_behind (x ∷ xs) ys e = all_behind xs ys (and_parts (is_plain_byte (to_ascii_lowercase x)) _ e).1

all_before : (xs ys : List ℕ) → list_all is_plain_byte (str_to_ascii_lowercase (xs ++ ys)) ≡ true → list_all is_plain_byte (str_to_ascii_lowercase xs) ≡ true
all_before [] ys e = refl
all_before (x ∷ xs) ys e =
    let parts = and_parts (is_plain_byte (to_ascii_lowercase x)) _ e in
    λ i. parts.0 i && all_before xs ys parts.1 i

-- ---- the version

spelled_fields : (text : List ℕ) (w : Parts) (epoch : ℕ) (release : List ℕ) (pre : Option (PreKind × ℕ)) (post dev : Option ℕ) (local : List LocalPart)
    → Spells text w → starts is_ascii_digit text ≡ true → list_all is_plain_byte text ≡ true
    → str_to_ascii_lowercase (normal_text (record { epoch = epoch; release = release; pre = pre; post = post; dev = dev; local = local })) ≡ text
    → record { epoch = epoch; release = release; pre = pre; post = post; dev = dev; local = [] } ≡ w
spelled_fields text w (suc e) release pre post dev local spells digit plain is =
    let all = all_behind (decimal_text (suc e)) (codes "!") (all_before (decimal_text (suc e) ++ codes "!") _ (ap (list_all is_plain_byte) is ∙ plain)) in
    cc all
spelled_fields text w zero release pre post dev (s ∷ ss) spells digit plain is =
    let all = all_behind (dev_text dev) _ (all_behind (post_text post) _ (all_behind (pre_text pre) _ (all_behind (release_text release) _ (ap (list_all is_plain_byte) is ∙ plain)))) in
    cc all
spelled_fields text w zero [] (Some (A, n)) post dev [] spells digit plain is = let e : false ≡ true = ap (starts is_ascii_digit) is ∙ digit in cc e
spelled_fields text w zero [] (Some (B, n)) post dev [] spells digit plain is = let e : false ≡ true = ap (starts is_ascii_digit) is ∙ digit in cc e
spelled_fields text w zero [] (Some (Rc, n)) post dev [] spells digit plain is = let e : false ≡ true = ap (starts is_ascii_digit) is ∙ digit in cc e
spelled_fields text w zero [] None (Some n) dev [] spells digit plain is = let e : false ≡ true = ap (starts is_ascii_digit) is ∙ digit in cc e
spelled_fields text w zero [] None None (Some n) [] spells digit plain is = let e : false ≡ true = ap (starts is_ascii_digit) is ∙ digit in cc e
spelled_fields text w zero [] None None None [] spells digit plain is = let e : false ≡ true = ap (starts is_ascii_digit) is ∙ digit in cc e
spelled_fields text w zero (n ∷ ns) pre post dev [] spells digit plain is =
    let p : Parts = record { epoch = 0; release = n ∷ ns; pre = pre; post = post; dev = dev; local = [] } in
    let same : normal_text p ≡ text = sym (public_lower (n ∷ ns) pre post dev) ∙ is in
    same_Some p w (sym (version_complete (normal_text p) p (normal_spells_parts p (release_spells n ns) refl)) ∙ ap version_of same ∙ version_complete text w spells)

pub one_spelled : (text : List ℕ) (w c : Parts) → Spells (str_to_ascii_lowercase text) w → is_plain (str_to_ascii_lowercase text) ≡ true
    → is_spelled text c ≡ true → public_part c ≡ w
one_spelled text w c spells plain is =
    let parts = and_parts (starts is_ascii_digit (str_to_ascii_lowercase text)) _ plain in
    spelled_fields (str_to_ascii_lowercase text) w c.epoch c.release c.pre c.post c.dev c.local spells parts.0 parts.1
    ((bytes_eq-Decides (str_to_ascii_lowercase (normal_text c)) (str_to_ascii_lowercase text)).0 is)

pub at_public : (w c : Parts) → public_part c ≡ w → is_at w c ≡ true
at_public w c e =
    ap (λ (p : Parts). not (is_lt (version_cmp p w)) && not (is_lt (version_cmp w p))) e
    ∙ ap (λ (o : Ordering). not (is_lt o) && not (is_lt o)) (tied_itself version_total w)
