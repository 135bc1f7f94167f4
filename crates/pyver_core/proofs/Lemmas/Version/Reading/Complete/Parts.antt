-- The parts that a text spells are read, each where it ends.
use Rattle.std.proofs.Common.{◌≡◌, ℕ, ◌≤◌, true, false, List, [], ◌∷◌, ◌++◌, Option, Some, None, refl, sym, ap, subst, ◌∙◌, append_assoc, inl, inr, lit≤}
use Rattle.std.specs.Prelude.{codes, ◌==◌}
use Rattle.std.specs.Char.{is_ascii_digit, is_ascii_alphanumeric}
use Rattle.pytext.specs.Bytes.{is_separator, starts}
use Rattle.pyver_core.specs.Version.Grammar.{is_dot, IsNumber, IsTagged, IsPreWord, word_a, word_alpha, word_b, word_beta, word_c, word_rc, word_pre, word_preview, IsPre, IsPostWord, word_post, word_rev, word_r, IsPost, IsDev, IsLocal}
use Rattle.pytext.specs.Options.{◌>>=◌, either}
use Rattle.pyver_core.specs.Version.Reading.{prepend_item, optional_at, many_at, after_separator, number_at, after_word, dotted_number_at, trailing_count_at, pre_word_at, after_post_word, tagged_pre_at, dashed_number_at, tagged_post_at, dashed_or_tagged_post_at, tagged_dev_at, added_segment_at, separated_segment_at, local_at}
use Rattle.pyver_core.specs.declared.version.part.PreKind.{PreKind}
use Rattle.pyver_core.specs.declared.version.part.LocalPart.{LocalPart}
use Rattle.pyver_core.proofs.Lemmas.Version.Reading.FirstBytes.{begins_in, is_letter, begins_not, begins_wider, whites, digit_not_letter}
use Rattle.pytext.proofs.BytesLemmas.{starts_none}
use Rattle.pyver_core.proofs.Lemmas.Version.Reading.Complete.Pieces.{no_separator, number_complete, no_dotted, separated_complete, separated_starts, no_separated, added_complete, no_added, word_complete, no_word, not_behind_byte}
use Rattle.pyver_core.proofs.Lemmas.Version.Reading.Complete.Words.{IsLettered, tagged_word, tagged_tail, tagged_letter, tagged_begins, tagged_not_dotted, tagged_not_dashed, pre_word_complete, post_word_complete, no_pre_letter, no_post_letter, dev_no_pre, post_no_pre, rev_no_pre, r_no_pre, dev_no_post}

-- ---- which bytes may follow a part

abbrev pub follow_dev : List ℕ
follow_dev = 43 ∷ whites

abbrev pub follow_post : List ℕ
follow_post = 45 ∷ 95 ∷ 46 ∷ 100 ∷ 68 ∷ follow_dev

abbrev pub follow_pre : List ℕ
follow_pre = 112 ∷ 80 ∷ 114 ∷ 82 ∷ follow_post

abbrev pub follow_release : List ℕ
follow_release = 97 ∷ 65 ∷ 98 ∷ 66 ∷ 99 ∷ 67 ∷ follow_pre

optional_some : {X : Type 0} (read : List ℕ → Option (X × List ℕ)) (text : List ℕ) (x : X × List ℕ) → read text ≡ Some x → optional_at read text ≡ (Some x.0, x.1)
optional_some read text x e = rw e refl

optional_none : {X : Type 0} (read : List ℕ → Option (X × List ℕ)) (text : List ℕ) → read text ≡ None → optional_at read text ≡ (None, text)
optional_none read text e = rw e refl

-- ---- the local part

pub local_complete : (piece : List ℕ) (ss : List LocalPart) (after : List ℕ) → IsLocal piece ss → begins_in whites after ≡ true → local_at (piece ++ after) ≡ (ss, after)
unfolding local_at
local_complete piece [] after is begins =
    let none : added_segment_at after ≡ None = no_added after (begins_not (λ b. b == 43) whites refl after begins) in
    let end : local_at after ≡ ([], after) = rw none refl in
    ap (λ (t : List ℕ). local_at (t ++ after)) is ∙ end
local_complete piece (s ∷ ss) after is begins =
    let rest = is.1 ++ after in
    let stops = begins_not is_ascii_alphanumeric whites refl after begins in
    let whole : piece ++ after ≡ codes "+" ++ (is.0 ++ rest) = ap (λ (t : List ℕ). t ++ after) is.2 ∙ ap (λ (t : List ℕ). 43 ∷ t) (append_assoc is.0 is.1 after) in
    let first : added_segment_at (codes "+" ++ (is.0 ++ rest)) ≡ Some (s, rest) = added_complete is.0 s rest is.3 (separated_starts is.1 ss after is.4 stops) in
    let others : many_at separated_segment_at rest ≡ (ss, after) = separated_complete is.1 ss after is.4 stops (no_separated after (begins_not is_separator whites refl after begins)) in
    let end : local_at (codes "+" ++ (is.0 ++ rest)) ≡ prepend_item s (many_at separated_segment_at rest) = rw first refl in
    ap (λ (t : List ℕ). local_at t) whole ∙ (end ∙ ap (λ (r : List LocalPart × List ℕ). prepend_item s r) others)

pub local_begins : (piece : List ℕ) (ss : List LocalPart) (after : List ℕ) → IsLocal piece ss → begins_in whites after ≡ true → begins_in follow_dev (piece ++ after) ≡ true
local_begins piece [] after is begins = subst (λ (t : List ℕ). begins_in follow_dev (t ++ after) ≡ true) (sym is) (begins_wider whites follow_dev refl after begins)
local_begins piece (s ∷ ss) after is begins = subst (λ (t : List ℕ). begins_in follow_dev (t ++ after) ≡ true) (sym is.2) refl

-- ---- the developmental release

dev_none : (text : List ℕ) → after_word (codes "dev") (after_separator text) ≡ None → tagged_dev_at text ≡ None
unfolding tagged_dev_at
dev_none text e = rw e refl

post_none : (text : List ℕ) → dashed_number_at text ≡ None → after_post_word (after_separator text) ≡ None → dashed_or_tagged_post_at text ≡ None
unfolding dashed_or_tagged_post_at tagged_post_at
post_none text d e = rw (d, e) refl

pre_none : (text : List ℕ) → pre_word_at (after_separator text) ≡ None → tagged_pre_at text ≡ None
unfolding tagged_pre_at
pre_none text e = rw e refl

dash_none : (text : List ℕ) → starts (λ b. b == 45) text ≡ false → dashed_number_at text ≡ None
unfolding dashed_number_at
dash_none text e = not_behind_byte (λ b. b == 45) number_at text e

-- what neither begins with a separator nor with a letter is none of these parts
no_part : (text : List ℕ) → begins_in follow_dev text ≡ true → (tagged_dev_at text ≡ None) × (dashed_or_tagged_post_at text ≡ None) × (tagged_pre_at text ≡ None) × (dotted_number_at text ≡ None)
no_part text b =
    let here : after_separator text ≡ text = no_separator text (begins_not is_separator follow_dev refl text b) in
    let letter_p = begins_not (is_letter 112) follow_dev refl text b in
    let letter_r = begins_not (is_letter 114) follow_dev refl text b in
    let pre = no_pre_letter text (begins_not (is_letter 97) follow_dev refl text b) (begins_not (is_letter 98) follow_dev refl text b) (begins_not (is_letter 99) follow_dev refl text b) letter_p letter_r in
    let dashed = dash_none text (begins_not (λ c. c == 45) follow_dev refl text b) in (
      dev_none text (ap (λ (t : List ℕ). after_word (codes "dev") t) here ∙ no_word 100 (codes "ev") text (begins_not (is_letter 100) follow_dev refl text b)),
      post_none text dashed (ap (λ (t : List ℕ). after_post_word t) here ∙ no_post_letter text letter_p letter_r),
      pre_none text (ap (λ (t : List ℕ). pre_word_at t) here ∙ pre),
      no_dotted text (begins_not is_dot follow_dev refl text b),
    )

tagged_dev_complete : (piece : List ℕ) (n : ℕ) (next : List ℕ) → IsTagged (codes "dev") piece n next → begins_in follow_dev next ≡ true → tagged_dev_at (piece ++ next) ≡ Some (n, next)
unfolding tagged_dev_at
tagged_dev_complete piece n next is begins =
    let tail = is.after ++ (is.digits ++ next) in
    let at_word = tagged_word (codes "dev") piece n next is refl in
    let word = word_complete (codes "dev") is.written tail is.is_word in
    let number = tagged_tail (codes "dev") piece n next is (begins_not is_ascii_digit follow_dev refl next begins) in
    ap (λ (t : List ℕ). after_word (codes "dev") t >>= λ rest. Some (trailing_count_at rest)) at_word
    ∙ (ap (λ (o : Option (List ℕ)). o >>= λ rest. Some (trailing_count_at rest)) word ∙ ap (λ (x : ℕ × List ℕ). Some x) number)

pub dev_complete : (piece : List ℕ) (o : Option ℕ) (next : List ℕ) → IsDev piece o next → begins_in follow_dev next ≡ true → optional_at tagged_dev_at (piece ++ next) ≡ (o, next)
dev_complete piece None next is begins = ap (λ (t : List ℕ). optional_at tagged_dev_at (t ++ next)) is ∙ optional_none tagged_dev_at next (no_part next begins).0
dev_complete piece (Some n) next is begins = optional_some tagged_dev_at (piece ++ next) (n, next) (tagged_dev_complete piece n next is begins)

pub dev_begins : (piece : List ℕ) (o : Option ℕ) (next : List ℕ) → IsDev piece o next → begins_in follow_dev next ≡ true → begins_in follow_post (piece ++ next) ≡ true
dev_begins piece None next is begins = subst (λ (t : List ℕ). begins_in follow_post (t ++ next) ≡ true) (sym is) (begins_wider follow_dev follow_post refl next begins)
dev_begins piece (Some n) next is begins = tagged_begins 100 (codes "ev") piece n next is (lit≤ tt) (lit≤ tt) follow_post refl refl refl refl refl

-- a developmental release, or its absence, is none of the parts before it
abbrev pub NotBeforeDev : List ℕ → Type 0
NotBeforeDev text = (dashed_or_tagged_post_at text ≡ None) × (tagged_pre_at text ≡ None) × (dotted_number_at text ≡ None)

pub dev_apart : (piece : List ℕ) (o : Option ℕ) (next : List ℕ) → IsDev piece o next → begins_in follow_dev next ≡ true → NotBeforeDev (piece ++ next)
dev_apart piece None next is begins = let q = no_part next begins in subst (λ (t : List ℕ). NotBeforeDev (t ++ next)) (sym is) (q.1, q.2, q.3)
dev_apart piece (Some n) next is begins =
    let tail = is.after ++ (is.digits ++ next) in
    let at_word = tagged_word (codes "dev") piece n next is refl in (
      post_none (piece ++ next) (tagged_not_dashed (codes "dev") piece n next is refl) (ap (λ (t : List ℕ). after_post_word t) at_word ∙ dev_no_post is.written tail is.is_word),
      pre_none (piece ++ next) (ap (λ (t : List ℕ). pre_word_at t) at_word ∙ dev_no_pre is.written tail is.is_word),
      tagged_not_dotted (codes "dev") piece n next is refl,
    )

-- ---- the post-release

post_lettered : {word : List ℕ} → IsPostWord word → IsLettered word
post_lettered word_post = refl
post_lettered is = refl

tagged_post_complete : (word piece : List ℕ) (n : ℕ) (next : List ℕ) → IsPostWord word → IsTagged word piece n next → begins_in follow_post next ≡ true → tagged_post_at (piece ++ next) ≡ Some (n, next)
unfolding tagged_post_at
tagged_post_complete word piece n next is_word is begins =
    let tail = is.after ++ (is.digits ++ next) in
    let at_word = tagged_word word piece n next is (post_lettered is_word) in
    let no_e = tagged_letter 101 (lit≤ tt) refl refl refl word piece n next is (begins_not (is_letter 101) follow_post refl next begins) in
    let read = post_word_complete is_word is.written tail is.is_word no_e in
    let number = tagged_tail word piece n next is (begins_not is_ascii_digit follow_post refl next begins) in
    ap (λ (t : List ℕ). after_post_word t >>= λ rest. Some (trailing_count_at rest)) at_word
    ∙ (ap (λ (o : Option (List ℕ)). o >>= λ rest. Some (trailing_count_at rest)) read ∙ ap (λ (x : ℕ × List ℕ). Some x) number)

dashed_complete : (digits : List ℕ) (n : ℕ) (next : List ℕ) → IsNumber digits n → begins_in follow_post next ≡ true → dashed_number_at (codes "-" ++ (digits ++ next)) ≡ Some (n, next)
unfolding dashed_number_at
dashed_complete digits n next is begins = number_complete digits n next is (begins_not is_ascii_digit follow_post refl next begins)

some_post_complete : (piece : List ℕ) (n : ℕ) (next : List ℕ) → IsPost piece (Some n) next → begins_in follow_post next ≡ true → dashed_or_tagged_post_at (piece ++ next) ≡ Some (n, next)
unfolding dashed_or_tagged_post_at
some_post_complete piece n next (inl is) begins =
    let read = dashed_complete is.0 n next is.2 begins in
    ap (λ (t : List ℕ). dashed_or_tagged_post_at (t ++ next)) is.1 ∙ ap (λ (o : Option (ℕ × List ℕ)). either o (tagged_post_at (codes "-" ++ (is.0 ++ next)))) read
some_post_complete piece n next (inr is) begins =
    ap (λ (o : Option (ℕ × List ℕ)). either o (tagged_post_at (piece ++ next))) (tagged_not_dashed is.0 piece n next is.2 (post_lettered is.1))
    ∙ tagged_post_complete is.0 piece n next is.1 is.2 begins

pub post_complete : (piece : List ℕ) (o : Option ℕ) (next : List ℕ) → IsPost piece o next → begins_in follow_post next ≡ true → NotBeforeDev next → optional_at dashed_or_tagged_post_at (piece ++ next) ≡ (o, next)
post_complete piece None next is begins apart = ap (λ (t : List ℕ). optional_at dashed_or_tagged_post_at (t ++ next)) is ∙ optional_none dashed_or_tagged_post_at next apart.0
post_complete piece (Some n) next is begins apart = optional_some dashed_or_tagged_post_at (piece ++ next) (n, next) (some_post_complete piece n next is begins)

tagged_post_begins : {word : List ℕ} → IsPostWord word → (piece : List ℕ) (n : ℕ) (next : List ℕ) → IsTagged word piece n next → begins_in follow_pre (piece ++ next) ≡ true
tagged_post_begins word_post piece n next is = tagged_begins 112 (codes "ost") piece n next is (lit≤ tt) (lit≤ tt) follow_pre refl refl refl refl refl
tagged_post_begins word_rev piece n next is = tagged_begins 114 (codes "ev") piece n next is (lit≤ tt) (lit≤ tt) follow_pre refl refl refl refl refl
tagged_post_begins word_r piece n next is = tagged_begins 114 [] piece n next is (lit≤ tt) (lit≤ tt) follow_pre refl refl refl refl refl

pub post_begins : (piece : List ℕ) (o : Option ℕ) (next : List ℕ) → IsPost piece o next → begins_in follow_post next ≡ true → begins_in follow_pre (piece ++ next) ≡ true
post_begins piece None next is begins = subst (λ (t : List ℕ). begins_in follow_pre (t ++ next) ≡ true) (sym is) (begins_wider follow_post follow_pre refl next begins)
post_begins piece (Some n) next (inl is) begins = subst (λ (t : List ℕ). begins_in follow_pre (t ++ next) ≡ true) (sym is.1) refl
post_begins piece (Some n) next (inr is) begins = tagged_post_begins is.1 piece n next is.2

-- a post-release, or its absence, is none of the parts before it
abbrev pub NotBeforePost : List ℕ → Type 0
NotBeforePost text = (tagged_pre_at text ≡ None) × (dotted_number_at text ≡ None)

-- digits are no word
digits_no_letter : (c : ℕ) → 97 ≤ c → (digits : List ℕ) (n : ℕ) (next : List ℕ) → IsNumber digits n → starts (is_letter c) next ≡ false → starts (is_letter c) (digits ++ next) ≡ false
digits_no_letter c low digits n next is stops = starts_none is_ascii_digit (is_letter c) (λ b e. digit_not_letter b c e low) digits next is.1.digits stops

dashed_no_pre : (digits : List ℕ) (n : ℕ) (next : List ℕ) → IsNumber digits n → begins_in follow_post next ≡ true → NotBeforePost (codes "-" ++ (digits ++ next))
dashed_no_pre digits n next is begins = (
  pre_none (codes "-" ++ (digits ++ next)) (no_pre_letter (digits ++ next)
      (digits_no_letter 97 (lit≤ tt) digits n next is (begins_not (is_letter 97) follow_post refl next begins))
      (digits_no_letter 98 (lit≤ tt) digits n next is (begins_not (is_letter 98) follow_post refl next begins))
      (digits_no_letter 99 (lit≤ tt) digits n next is (begins_not (is_letter 99) follow_post refl next begins))
      (digits_no_letter 112 (lit≤ tt) digits n next is (begins_not (is_letter 112) follow_post refl next begins))
      (digits_no_letter 114 (lit≤ tt) digits n next is (begins_not (is_letter 114) follow_post refl next begins))),
  no_dotted (codes "-" ++ (digits ++ next)) refl,
)

tagged_post_no_pre : {word : List ℕ} → IsPostWord word → (piece : List ℕ) (n : ℕ) (next : List ℕ) → IsTagged word piece n next → begins_in follow_post next ≡ true → pre_word_at (after_separator (piece ++ next)) ≡ None
tagged_post_no_pre word_post piece n next is begins = ap (λ (t : List ℕ). pre_word_at t) (tagged_word (codes "post") piece n next is refl) ∙ post_no_pre is.written (is.after ++ (is.digits ++ next)) is.is_word
tagged_post_no_pre word_rev piece n next is begins = ap (λ (t : List ℕ). pre_word_at t) (tagged_word (codes "rev") piece n next is refl) ∙ rev_no_pre is.written (is.after ++ (is.digits ++ next)) is.is_word
tagged_post_no_pre word_r piece n next is begins =
    ap (λ (t : List ℕ). pre_word_at t) (tagged_word (codes "r") piece n next is refl)
    ∙ r_no_pre is.written (is.after ++ (is.digits ++ next)) is.is_word (tagged_letter 99 (lit≤ tt) refl refl refl (codes "r") piece n next is (begins_not (is_letter 99) follow_post refl next begins))

pub post_apart : (piece : List ℕ) (o : Option ℕ) (next : List ℕ) → IsPost piece o next → begins_in follow_post next ≡ true → NotBeforeDev next → NotBeforePost (piece ++ next)
post_apart piece None next is begins apart = subst (λ (t : List ℕ). NotBeforePost (t ++ next)) (sym is) (apart.1, apart.2)
post_apart piece (Some n) next (inl is) begins apart = subst (λ (t : List ℕ). NotBeforePost (t ++ next)) (sym is.1) (dashed_no_pre is.0 n next is.2 begins)
post_apart piece (Some n) next (inr is) begins apart = (pre_none (piece ++ next) (tagged_post_no_pre is.1 piece n next is.2 begins), tagged_not_dotted is.0 piece n next is.2 (post_lettered is.1))

-- ---- the pre-release

pre_lettered : {word : List ℕ} {kind : PreKind} → IsPreWord word kind → IsLettered word
pre_lettered word_a = refl
pre_lettered is = refl

tagged_pre_complete : (word piece : List ℕ) (kind : PreKind) (n : ℕ) (next : List ℕ) → IsPreWord word kind → IsTagged word piece n next → begins_in follow_pre next ≡ true → tagged_pre_at (piece ++ next) ≡ Some ((kind, n), next)
unfolding tagged_pre_at
tagged_pre_complete word piece kind n next is_word is begins =
    let tail = is.after ++ (is.digits ++ next) in
    let at_word = tagged_word word piece n next is (pre_lettered is_word) in
    let no_l = tagged_letter 108 (lit≤ tt) refl refl refl word piece n next is (begins_not (is_letter 108) follow_pre refl next begins) in
    let no_e = tagged_letter 101 (lit≤ tt) refl refl refl word piece n next is (begins_not (is_letter 101) follow_pre refl next begins) in
    let no_v = tagged_letter 118 (lit≤ tt) refl refl refl word piece n next is (begins_not (is_letter 118) follow_pre refl next begins) in
    let read = pre_word_complete is_word is.written tail is.is_word no_l no_e no_v in
    let number = tagged_tail word piece n next is (begins_not is_ascii_digit follow_pre refl next begins) in
    ap (λ (t : List ℕ). pre_word_at t >>= λ w. Some ((w.0, (trailing_count_at w.1).0), (trailing_count_at w.1).1)) at_word
    ∙ (ap (λ (o : Option (PreKind × List ℕ)). o >>= λ w. Some ((w.0, (trailing_count_at w.1).0), (trailing_count_at w.1).1)) read ∙ ap (λ (x : ℕ × List ℕ). Some ((kind, x.0), x.1)) number)

pub pre_complete : (piece : List ℕ) (o : Option (PreKind × ℕ)) (next : List ℕ) → IsPre piece o next → begins_in follow_pre next ≡ true → NotBeforePost next → optional_at tagged_pre_at (piece ++ next) ≡ (o, next)
pre_complete piece None next is begins apart = ap (λ (t : List ℕ). optional_at tagged_pre_at (t ++ next)) is ∙ optional_none tagged_pre_at next apart.0
pre_complete piece (Some pre) next is begins apart = optional_some tagged_pre_at (piece ++ next) ((pre.0, pre.1), next) (tagged_pre_complete is.0 piece pre.0 pre.1 next is.1 is.2 begins)

tagged_pre_begins : {word : List ℕ} {kind : PreKind} → IsPreWord word kind → (piece : List ℕ) (n : ℕ) (next : List ℕ) → IsTagged word piece n next → begins_in follow_release (piece ++ next) ≡ true
tagged_pre_begins word_a piece n next is = tagged_begins 97 [] piece n next is (lit≤ tt) (lit≤ tt) follow_release refl refl refl refl refl
tagged_pre_begins word_alpha piece n next is = tagged_begins 97 (codes "lpha") piece n next is (lit≤ tt) (lit≤ tt) follow_release refl refl refl refl refl
tagged_pre_begins word_b piece n next is = tagged_begins 98 [] piece n next is (lit≤ tt) (lit≤ tt) follow_release refl refl refl refl refl
tagged_pre_begins word_beta piece n next is = tagged_begins 98 (codes "eta") piece n next is (lit≤ tt) (lit≤ tt) follow_release refl refl refl refl refl
tagged_pre_begins word_c piece n next is = tagged_begins 99 [] piece n next is (lit≤ tt) (lit≤ tt) follow_release refl refl refl refl refl
tagged_pre_begins word_rc piece n next is = tagged_begins 114 (codes "c") piece n next is (lit≤ tt) (lit≤ tt) follow_release refl refl refl refl refl
tagged_pre_begins word_pre piece n next is = tagged_begins 112 (codes "re") piece n next is (lit≤ tt) (lit≤ tt) follow_release refl refl refl refl refl
tagged_pre_begins word_preview piece n next is = tagged_begins 112 (codes "review") piece n next is (lit≤ tt) (lit≤ tt) follow_release refl refl refl refl refl

pub pre_begins : (piece : List ℕ) (o : Option (PreKind × ℕ)) (next : List ℕ) → IsPre piece o next → begins_in follow_pre next ≡ true → begins_in follow_release (piece ++ next) ≡ true
pre_begins piece None next is begins = subst (λ (t : List ℕ). begins_in follow_release (t ++ next) ≡ true) (sym is) (begins_wider follow_pre follow_release refl next begins)
pre_begins piece (Some pre) next is begins = tagged_pre_begins is.1 piece pre.1 next is.2

pub pre_not_dotted : (piece : List ℕ) (o : Option (PreKind × ℕ)) (next : List ℕ) → IsPre piece o next → NotBeforePost next → dotted_number_at (piece ++ next) ≡ None
pre_not_dotted piece None next is apart = ap (λ (t : List ℕ). dotted_number_at (t ++ next)) is ∙ apart.1
pre_not_dotted piece (Some pre) next is apart = tagged_not_dotted is.0 piece pre.1 next is.2 (pre_lettered is.1)
