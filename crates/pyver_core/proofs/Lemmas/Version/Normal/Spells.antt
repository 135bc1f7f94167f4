-- The normal form of what a text spells is spelt so too.
use Rattle.std.proofs.Common.{◌≡◌, ℕ, zero, suc, ◌+◌, ◌<◌, ◌≤◌, true, List, [], ◌∷◌, ◌++◌, length, map, Option, Some, None, refl, sym, ap, ◌∙◌, arith, inl, inr, lit≤}
use Rattle.std.specs.Prelude.{codes, flat_map}
use Rattle.std.specs.Char.{is_ascii_digit, to_ascii_lowercase, digit_value}
use Rattle.std.specs.Int.Digits.{digits_of, number_from_digits, AllBelowBase}
use Rattle.std.specs.List.{list_all}
use Rattle.std.specs.Str.{str_to_ascii_lowercase}
use Rattle.std.proofs.lemmas.Bool.Decides.{nat_tests}
use Rattle.std.proofs.lemmas.Int.Digits.{digits_value_is, all_below_base_digits_of, number_digits_of, length-digits_of_step}
use Rattle.std.proofs.lemmas.List.{append-nil, length-map}
use Rattle.pyver_core.specs.Version.Parts.{Parts}
use Rattle.pyver_core.specs.Version.Normal.{decimal_text, epoch_text, release_text, pre_text, post_text, dev_text, local_text, dotted_number, kind_text, normal_text}
use Rattle.pyver_core.specs.Version.Grammar.{is_dot, IsOptionalSeparator, IsNumber, AreBehind, IsEpoch, IsRelease, IsTagged, IsPreWord, word_a, word_b, word_rc, IsPre, word_post, IsPost, IsDev, IsLocal, Spells}
use Rattle.pyver_core.specs.declared.version.part.PreKind.{PreKind}
use Rattle.pyver_core.specs.declared.version.part.PreKind.TheVariants.{A, B, Rc}

-- ---- numbers

digit_is : (d : ℕ) → d < 10 → is_ascii_digit (48 + d) ≡ true
digit_is d lt = grind (arith, nat_tests)

digit_means : (d : ℕ) → d < 10 → digit_value (48 + d) ≡ d
digit_means d lt = grind (arith, nat_tests)

all_digits : (ds : List ℕ) → AllBelowBase 10 ds → list_all is_ascii_digit (map (λ d. 48 + d) ds) ≡ true
all_digits [] below = refl
all_digits (d ∷ ds) below = rw (digit_is d below.0) (all_digits ds below.1)

digits_mean : (ds : List ℕ) → AllBelowBase 10 ds → map digit_value (map (λ d. 48 + d) ds) ≡ ds
digits_mean [] below = refl
digits_mean (d ∷ ds) below = rw (digit_means d below.0) (ap (λ (r : List ℕ). d ∷ r) (digits_mean ds below.1))

pub number_spelt : (n : ℕ) → IsNumber (decimal_text n) n
number_spelt zero = (lit≤ tt, record { digits = refl; value = refl })
number_spelt (suc n) =
    let ds = digits_of 10 (suc n) in
    let below = all_below_base_digits_of 10 (suc n) (lit≤ tt) in
    let len : 1 ≤ length (map (λ d. 48 + d) ds) = omega (arith, length-map ds (λ d. 48 + d), length-digits_of_step 10 (suc n) (lit≤ tt) (omega arith)) in
    (len, record { digits = all_digits ds below; value = digits_value_is 10 (map (λ d. 48 + d) ds) ∙ (ap (λ (r : List ℕ). number_from_digits 10 r) (digits_mean ds below) ∙ number_digits_of 10 (suc n) (lit≤ tt)) })

not_empty : (n : ℕ) → decimal_text n ≡ [] → ⊥
not_empty n e = let some : 1 ≤ length (decimal_text n) = (number_spelt n).0 in let none : length (decimal_text n) ≡ 0 = ap (λ (r : List ℕ). length r) e in omega arith

-- ---- the parts

epoch_spelt : (e : ℕ) → IsEpoch (epoch_text e) e
epoch_spelt zero = inl (refl, refl)
epoch_spelt (suc n) = inr (decimal_text (suc n), refl, number_spelt (suc n))

pub dotted_spelt : (ns : List ℕ) → AreBehind is_dot IsNumber (flat_map dotted_number ns) ns
dotted_spelt [] = refl
dotted_spelt (n ∷ ns) = (46, decimal_text n, flat_map dotted_number ns, refl, refl, number_spelt n, dotted_spelt ns)

tagged_spelt : (word before : List ℕ) → str_to_ascii_lowercase word ≡ word → IsOptionalSeparator before → (n : ℕ) (next : List ℕ) → IsTagged word (before ++ (word ++ decimal_text n)) n next
tagged_spelt word before lower is_before n next = record {
  before = before;
  written = word;
  after = [];
  digits = decimal_text n;
  whole = refl;
  is_before = is_before;
  is_word = lower;
  is_after = (refl, lit≤ tt);
  is_number = (number_spelt n).1;
  greedy = λ none. absurd (not_empty n none);
}

kind_text_spells : (kind : PreKind) → IsPreWord (kind_text kind) kind
kind_text_spells A = word_a
kind_text_spells B = word_b
kind_text_spells Rc = word_rc

kind_text-lower : (kind : PreKind) → str_to_ascii_lowercase (kind_text kind) ≡ kind_text kind
kind_text-lower A = refl
kind_text-lower kind = refl

pre_spelt : (o : Option (PreKind × ℕ)) (next : List ℕ) → IsPre (pre_text o) o next
pre_spelt None next = refl
pre_spelt (Some pre) next = (kind_text pre.0, kind_text_spells pre.0, tagged_spelt (kind_text pre.0) [] (kind_text-lower pre.0) (refl, lit≤ tt) pre.1 next)

post_spelt : (o : Option ℕ) (next : List ℕ) → IsPost (post_text o) o next
post_spelt None next = refl
post_spelt (Some n) next = inr (codes "post", word_post, tagged_spelt (codes "post") (codes ".") refl (refl, lit≤ tt) n next)

dev_spelt : (o : Option ℕ) (next : List ℕ) → IsDev (dev_text o) o next
dev_spelt None next = refl
dev_spelt (Some n) next = tagged_spelt (codes "dev") (codes ".") refl (refl, lit≤ tt) n next

-- ---- the local part

lower_digit : (b : ℕ) → is_ascii_digit (to_ascii_lowercase b) ≡ is_ascii_digit b
lower_digit b = grind (arith, nat_tests)

pub all_lower_digits : (run : List ℕ) → list_all is_ascii_digit (str_to_ascii_lowercase run) ≡ list_all is_ascii_digit run
all_lower_digits [] = refl
all_lower_digits (b ∷ run) = rw (lower_digit b, all_lower_digits run) refl

-- the normal form of parts that have a spelling spells them
pub normal_spells_parts : (p : Parts) → IsRelease (release_text p.release) p.release → IsLocal (local_text p.local) p.local → Spells (normal_text p) p
normal_spells_parts p release local = record {
  before = [];
  prefix = [];
  epoch = epoch_text p.epoch;
  release = release_text p.release;
  pre = pre_text p.pre;
  post = post_text p.post;
  dev = dev_text p.dev;
  local = local_text p.local;
  after = [];
  whole = ap (λ (r : List ℕ). epoch_text p.epoch ++ (release_text p.release ++ (pre_text p.pre ++ (post_text p.post ++ (dev_text p.dev ++ r))))) (sym (append-nil (local_text p.local)));
  is_before = refl;
  is_prefix = inl refl;
  is_epoch = epoch_spelt p.epoch;
  is_release = release;
  is_pre = pre_spelt p.pre _;
  is_post = post_spelt p.post _;
  is_dev = dev_spelt p.dev _;
  is_local = local;
  is_after = refl;
}
