-- What is read of a version is spelt so.
use Rattle.std.proofs.Common.{◌≡◌, ℕ, true, false, List, [], ◌∷◌, ◌++◌, drop, Option, Some, None, refl, sym, ap, subst, ◌∙◌, append_assoc, inl, inr}
use Rattle.std.specs.Prelude.{option_map, codes, ◌==◌}
use Rattle.std.specs.List.{list_all}
use Rattle.std.proofs.lemmas.Bool.{eqb-true, cases_Bool}
use Rattle.std.proofs.lemmas.Option.{cond_some}
use Rattle.pyver_core.specs.Version.Parts.{Parts}
use Rattle.pytext.specs.Bytes.{is_separator, is_white, starts}
use Rattle.pyver_core.specs.Version.Grammar.{is_dot, IsNumber, IsWord, IsPrefix, IsEpoch, IsRelease, IsTagged, IsPreWord, word_a, word_alpha, word_b, word_beta, word_c, word_rc, word_pre, word_preview, IsPre, IsPostWord, word_post, word_rev, word_r, IsPost, IsDev, IsSegment, IsLocal, Spells}
use Rattle.pytext.specs.Options.{◌>>=◌}
use Rattle.pytext.specs.White.{after_white}
use Rattle.pyver_core.specs.Version.Reading.{prepend_item, optional_at, many_at, after_separator, number_at, after_word, after_either_word, after_prefix, head_at, dotted_number_at, base_at, trailing_count_at, pre_word_at, after_post_word, tagged_pre_at, dashed_number_at, tagged_post_at, dashed_or_tagged_post_at, tagged_dev_at, separated_segment_at, added_segment_at, local_at, parts_at, version_of}
use Rattle.pyver_core.specs.declared.version.part.PreKind.{PreKind}
use Rattle.pyver_core.specs.declared.version.part.PreKind.TheVariants.{A, B, Rc}
use Rattle.pyver_core.specs.declared.version.part.LocalPart.{LocalPart}
use Rattle.pytext.proofs.OptionsLemmas.{bind_some, either_some, map_some, option_cases}
use Rattle.pytext.proofs.WhiteLemmas.{after_white_splits}
use Rattle.pyver_core.proofs.Lemmas.Version.Reading.Sound.Pieces.{separator_sound, count_sound, number_sound, word_sound, many_at_sound, dotted_sound, dashed_sound, separated_sound, added_sound}

-- ---- the epoch and the release

abbrev IsHead : List ℕ → (ℕ × ℕ) × List ℕ → Type 0
IsHead text x = (epoch : List ℕ) × (first : List ℕ) × (text ≡ epoch ++ (first ++ x.1)) × IsEpoch epoch x.0.0 × IsNumber first x.0.1

bang_sound : (text : List ℕ) → starts (λ b. b == 33) text ≡ true → text ≡ codes "!" ++ drop 1 text
bang_sound [] e = absurd (let n : false ≡ true = e in cc)
bang_sound (b ∷ rest) e = ap (λ (n : ℕ). n ∷ rest) (eqb-true b 33 e)

-- an epoch, where `!` stands behind the digits
epoch_sound : (text digits rest : List ℕ) (e : ℕ) → text ≡ digits ++ rest → IsNumber digits e → starts (λ b. b == 33) rest ≡ true → (x : ℕ × List ℕ) → number_at (drop 1 rest) ≡ Some x → IsHead text ((e, x.0), x.1)
epoch_sound text digits rest e whole is bang x read =
    let s = number_sound (drop 1 rest) x read in
    let behind : rest ≡ codes "!" ++ (s.0 ++ x.1) = bang_sound rest bang ∙ ap (λ (r : List ℕ). codes "!" ++ r) s.1 in
    let grouped : digits ++ (codes "!" ++ (s.0 ++ x.1)) ≡ (digits ++ codes "!") ++ (s.0 ++ x.1) = sym (append_assoc digits (codes "!") (s.0 ++ x.1)) in
    (digits ++ codes "!", s.0, whole ∙ (ap (λ (r : List ℕ). digits ++ r) behind ∙ grouped), inr (digits, refl, is), s.2)

head_sound : (text : List ℕ) (x : (ℕ × ℕ) × List ℕ) → head_at text ≡ Some x → IsHead text x
unfolding head_at
head_sound text x e =
    let a = bind_some (number_at text) _ x e in
    let first = a.0 in
    let t = number_sound text first a.1 in
    elim (cases_Bool (starts (λ b. b == 33) first.1)) [
      | inl bang ↦
          let step : (number_at (drop 1 first.1) >>= λ second. Some ((first.0, second.0), second.1)) ≡ Some x = rw bang at a.2 in
          let b = bind_some (number_at (drop 1 first.1)) (λ second. Some ((first.0, second.0), second.1)) x step in
          let end : ((first.0, b.0.0), b.0.1) ≡ x = cc in
          subst (IsHead text) end (epoch_sound text t.0 first.1 first.0 t.1 t.2 bang b.0 b.1)
      | inr other ↦
          let step : ◌≡◌ {A = Option ((ℕ × ℕ) × List ℕ)} (Some ((0, first.0), first.1)) (Some x) = rw other at a.2 in
          let end : ((0, first.0), first.1) ≡ x = cc in
          subst (IsHead text) end ([], t.0, t.1, inl (refl, refl), t.2)
    ]

prefix_sound : (text : List ℕ) → (prefix : List ℕ) × (text ≡ prefix ++ after_prefix text) × IsPrefix prefix
prefix_sound text = elim (option_cases (after_word (codes "v") text)) [
  | inl none ↦ ([], rw none refl, inl refl)
  | inr some ↦ let t = word_sound (codes "v") text some.0 some.1 in (t.0, rw some.1 t.1, inr t.2)
]

abbrev pub IsBase : List ℕ → (ℕ × List ℕ) × List ℕ → Type 0
IsBase text x = (prefix : List ℕ) × (epoch : List ℕ) × (release : List ℕ) × (text ≡ prefix ++ (epoch ++ (release ++ x.1))) × IsPrefix prefix × IsEpoch epoch x.0.0 × IsRelease release x.0.1

pub base_sound : (text : List ℕ) (x : (ℕ × List ℕ) × List ℕ) → base_at text ≡ Some x → IsBase text x
unfolding base_at
base_sound text x e =
    let p = prefix_sound text in
    let a = bind_some (head_at (after_prefix text)) _ x e in
    let h = head_sound (after_prefix text) a.0 a.1 in
    let others = many_at dotted_number_at a.0.1 in
    let d = many_at_sound is_dot IsNumber dotted_number_at dotted_sound a.0.1 in
    let end : ((a.0.0.0, a.0.0.1 ∷ others.0), others.1) ≡ x = cc in
    let release : h.1 ++ a.0.1 ≡ (h.1 ++ d.0) ++ others.1 = ap (λ (r : List ℕ). h.1 ++ r) d.1 ∙ sym (append_assoc h.1 d.0 others.1) in
    let whole : text ≡ p.0 ++ (h.0 ++ ((h.1 ++ d.0) ++ others.1)) = p.1 ∙ ap (λ (r : List ℕ). p.0 ++ r) (h.2 ∙ ap (λ (r : List ℕ). h.0 ++ r) release) in
    subst (IsBase text) end (p.0, h.0, h.1 ++ d.0, whole, p.2, h.3, (h.1, d.0, refl, h.4, d.2))

-- ---- parts with a word

append_nil_left : (a b : List ℕ) → a ++ b ≡ [] → a ≡ []
append_nil_left [] b e = refl
append_nil_left (x ∷ a) b e = absurd cc

-- what stands first, where a word stands after an optional separator
pub tagged_sound : (word text rest : List ℕ) → ((written : List ℕ) × (after_separator text ≡ written ++ rest) × IsWord word written) → (piece : List ℕ) × (text ≡ piece ++ (trailing_count_at rest).1) × IsTagged word piece (trailing_count_at rest).0 (trailing_count_at rest).1
tagged_sound word text rest w =
    let before = separator_sound text in
    let after = separator_sound rest in
    let digits = count_sound (after_separator rest) in
    let next = (trailing_count_at rest).1 in
    let tail : rest ≡ (after.0 ++ digits.0) ++ next = after.1 ∙ (ap (λ (r : List ℕ). after.0 ++ r) digits.1 ∙ sym (append_assoc after.0 digits.0 next)) in
    let from_word : after_separator text ≡ (w.0 ++ (after.0 ++ digits.0)) ++ next = w.1 ∙ (ap (λ (r : List ℕ). w.0 ++ r) tail ∙ sym (append_assoc w.0 (after.0 ++ digits.0) next)) in
    let whole : text ≡ (before.0 ++ (w.0 ++ (after.0 ++ digits.0))) ++ next = before.1 ∙ (ap (λ (r : List ℕ). before.0 ++ r) from_word ∙ sym (append_assoc before.0 (w.0 ++ (after.0 ++ digits.0)) next)) in
    let greedy : after.0 ++ digits.0 ≡ [] → starts is_separator next ≡ false = λ none.
    let alone : rest ≡ next = tail ∙ ap (λ (r : List ℕ). r ++ next) none in
    subst (λ (r : List ℕ). starts is_separator r ≡ false) alone (after.3 (append_nil_left after.0 digits.0 none)) in (
      before.0 ++ (w.0 ++ (after.0 ++ digits.0)),
      whole,
      record {
        before = before.0;
        written = w.0;
        after = after.0;
        digits = digits.0;
        whole = refl;
        is_before = before.2;
        is_word = w.2;
        is_after = after.2;
        is_number = digits.2;
        greedy = greedy;
      },
    )

-- what an optional reader gives is what it read, or nothing
optional_sound : {X : Type 0} (read : List ℕ → Option (X × List ℕ)) (P : Option X × List ℕ → Type 0) (text : List ℕ) → P (None, text) → ((x : X × List ℕ) → read text ≡ Some x → P (Some x.0, x.1)) → P (optional_at read text)
optional_sound {X} read P text none some = elim (option_cases (read text)) [
  | inl n ↦ let end : (None, text) ≡ optional_at read text = rw n refl in subst P end none
  | inr s ↦ let end : (Some s.0.0, s.0.1) ≡ optional_at read text = rw s.1 refl in subst P end (some s.0 s.1)
]

-- ---- the pre-release

abbrev IsPreRead : List ℕ → PreKind × List ℕ → Type 0
IsPreRead text x = (word : List ℕ) × IsPreWord word x.0 × (written : List ℕ) × (text ≡ written ++ x.1) × IsWord word written

kind_sound : (kind : PreKind) (longer shorter : List ℕ) → IsPreWord longer kind → IsPreWord shorter kind → (text : List ℕ) (x : PreKind × List ℕ) → option_map (λ rest. (kind, rest)) (after_either_word longer shorter text) ≡ Some x → IsPreRead text x
kind_sound kind longer shorter is_longer is_shorter text x e =
    let m = map_some (after_either_word longer shorter text) (λ (rest : List ℕ). (kind, rest)) x e in
    subst (IsPreRead text) m.2 (elim (either_some (after_word longer text) (after_word shorter text) m.0 m.1) [
      | inl a ↦ let t = word_sound longer text m.0 a in (longer, is_longer, t.0, t.1, t.2)
      | inr b ↦ let t = word_sound shorter text m.0 b in (shorter, is_shorter, t.0, t.1, t.2)
    ])

pre_word_sound : (text : List ℕ) (x : PreKind × List ℕ) → pre_word_at text ≡ Some x → IsPreRead text x
unfolding pre_word_at
pre_word_sound text x e = elim (either_some _ _ x e) [
  | inl a ↦ kind_sound A (codes "alpha") (codes "a") word_alpha word_a text x a
  | inr not_a ↦ elim (either_some _ _ x not_a) [
    | inl b ↦ kind_sound B (codes "beta") (codes "b") word_beta word_b text x b
    | inr not_b ↦ elim (either_some _ _ x not_b) [
      | inl pre ↦ kind_sound Rc (codes "preview") (codes "pre") word_preview word_pre text x pre
      | inr rc ↦ kind_sound Rc (codes "rc") (codes "c") word_rc word_c text x rc
    ]
  ]
]

abbrev IsSoundPre : List ℕ → Option (PreKind × ℕ) × List ℕ → Type 0
IsSoundPre text r = (piece : List ℕ) × (text ≡ piece ++ r.1) × IsPre piece r.0 r.1

tagged_pre_sound : (text : List ℕ) (x : (PreKind × ℕ) × List ℕ) → tagged_pre_at text ≡ Some x → IsSoundPre text (Some x.0, x.1)
unfolding tagged_pre_at
tagged_pre_sound text x e =
    let a = bind_some (pre_word_at (after_separator text)) (λ word. Some ((word.0, (trailing_count_at word.1).0), (trailing_count_at word.1).1)) x e in
    let w = pre_word_sound (after_separator text) a.0 a.1 in
    let t = tagged_sound w.0 text a.0.1 (w.2, w.3, w.4) in
    let end : ((a.0.0, (trailing_count_at a.0.1).0), (trailing_count_at a.0.1).1) ≡ x = cc in
    subst (λ (y : (PreKind × ℕ) × List ℕ). IsSoundPre text (Some y.0, y.1)) end (t.0, t.1, (w.0, w.1, t.2))

pub pre_sound : (text : List ℕ) → IsSoundPre text (optional_at tagged_pre_at text)
pre_sound text = optional_sound tagged_pre_at (IsSoundPre text) text ([], refl, refl) (tagged_pre_sound text)

-- ---- the post-release

abbrev IsPostRead : List ℕ → List ℕ → Type 0
IsPostRead text rest = (word : List ℕ) × IsPostWord word × (written : List ℕ) × (text ≡ written ++ rest) × IsWord word written

post_word_sound : (text rest : List ℕ) → after_post_word text ≡ Some rest → IsPostRead text rest
unfolding after_post_word
post_word_sound text rest e = elim (either_some _ _ rest e) [
  | inl post ↦ let t = word_sound (codes "post") text rest post in (codes "post", word_post, t.0, t.1, t.2)
  | inr other ↦ elim (either_some _ _ rest other) [
    | inl rev ↦ let t = word_sound (codes "rev") text rest rev in (codes "rev", word_rev, t.0, t.1, t.2)
    | inr r ↦ let t = word_sound (codes "r") text rest r in (codes "r", word_r, t.0, t.1, t.2)
  ]
]

abbrev IsSoundPost : List ℕ → Option ℕ × List ℕ → Type 0
IsSoundPost text r = (piece : List ℕ) × (text ≡ piece ++ r.1) × IsPost piece r.0 r.1

tagged_post_sound : (text : List ℕ) (x : ℕ × List ℕ) → tagged_post_at text ≡ Some x → IsSoundPost text (Some x.0, x.1)
unfolding tagged_post_at
tagged_post_sound text x e =
    let a = bind_some (after_post_word (after_separator text)) (λ rest. Some (trailing_count_at rest)) x e in
    let w = post_word_sound (after_separator text) a.0 a.1 in
    let t = tagged_sound w.0 text a.0 (w.2, w.3, w.4) in
    let end : trailing_count_at a.0 ≡ x = cc in
    subst (λ (y : ℕ × List ℕ). IsSoundPost text (Some y.0, y.1)) end (t.0, t.1, inr (w.0, w.1, t.2))

dashed_post_sound : (text : List ℕ) (x : ℕ × List ℕ) → dashed_number_at text ≡ Some x → IsSoundPost text (Some x.0, x.1)
dashed_post_sound text x e =
    let t = dashed_sound text x e in
    let whole : text ≡ codes "-" ++ (t.1 ++ x.1) = t.2 ∙ ap (λ (b : ℕ). b ∷ (t.1 ++ x.1)) (eqb-true t.0 45 t.3) in
    (codes "-" ++ t.1, whole, inl (t.1, refl, t.4))

pub post_sound : (text : List ℕ) → IsSoundPost text (optional_at dashed_or_tagged_post_at text)
unfolding dashed_or_tagged_post_at
post_sound text = optional_sound dashed_or_tagged_post_at (IsSoundPost text) text ([], refl, refl) (λ x e. elim (either_some (dashed_number_at text) (tagged_post_at text) x e) [
  | inl dashed ↦ dashed_post_sound text x dashed
  | inr tagged ↦ tagged_post_sound text x tagged
])

-- ---- the developmental release

abbrev IsSoundDev : List ℕ → Option ℕ × List ℕ → Type 0
IsSoundDev text r = (piece : List ℕ) × (text ≡ piece ++ r.1) × IsDev piece r.0 r.1

tagged_dev_sound : (text : List ℕ) (x : ℕ × List ℕ) → tagged_dev_at text ≡ Some x → IsSoundDev text (Some x.0, x.1)
unfolding tagged_dev_at
tagged_dev_sound text x e =
    let a = bind_some (after_word (codes "dev") (after_separator text)) (λ rest. Some (trailing_count_at rest)) x e in
    let t = tagged_sound (codes "dev") text a.0 (word_sound (codes "dev") (after_separator text) a.0 a.1) in
    let end : trailing_count_at a.0 ≡ x = cc in
    subst (λ (y : ℕ × List ℕ). IsSoundDev text (Some y.0, y.1)) end (t.0, t.1, t.2)

pub dev_sound : (text : List ℕ) → IsSoundDev text (optional_at tagged_dev_at text)
dev_sound text = optional_sound tagged_dev_at (IsSoundDev text) text ([], refl, refl) (tagged_dev_sound text)

-- ---- the local part

abbrev IsSoundLocal : List ℕ → List LocalPart × List ℕ → Type 0
IsSoundLocal text r = (piece : List ℕ) × (text ≡ piece ++ r.1) × IsLocal piece r.0

pub local_sound : (text : List ℕ) → IsSoundLocal text (local_at text)
unfolding local_at
local_sound text = elim (option_cases (added_segment_at text)) [
  | inl none ↦
      let end : ([], text) ≡ local_at text = rw none refl in
      subst (IsSoundLocal text) end ([], refl, refl)
  | inr some ↦
      let x = some.0 in
      let t = added_sound text x some.1 in
      let others = many_at separated_segment_at x.1 in
      let d = many_at_sound is_separator IsSegment separated_segment_at separated_sound x.1 in
      let end : prepend_item x.0 others ≡ local_at text = rw some.1 refl in
      let run : t.1 ++ x.1 ≡ (t.1 ++ d.0) ++ others.1 = ap (λ (r : List ℕ). t.1 ++ r) d.1 ∙ sym (append_assoc t.1 d.0 others.1) in
      let whole : text ≡ codes "+" ++ ((t.1 ++ d.0) ++ others.1) = t.2 ∙ (ap (λ (b : ℕ). b ∷ (t.1 ++ x.1)) (eqb-true t.0 43 t.3) ∙ ap (λ (r : List ℕ). 43 ∷ r) run) in
      subst (IsSoundLocal text) end (codes "+" ++ (t.1 ++ d.0), whole, (t.1, d.0, refl, t.4, d.2))
]

-- ---- the whole text

all_sound : (text body rest : List ℕ) (e : ℕ) (ns : List ℕ) (pre : Option (PreKind × ℕ) × List ℕ) (post dev : Option ℕ × List ℕ) (local : List LocalPart × List ℕ)
    → (before : List ℕ) → text ≡ before ++ body → list_all is_white before ≡ true → IsBase body ((e, ns), rest)
    → IsSoundPre rest pre → IsSoundPost pre.1 post → IsSoundDev post.1 dev → IsSoundLocal dev.1 local → list_all is_white local.1 ≡ true
    → Spells text (record { epoch = e; release = ns; pre = pre.0; post = post.0; dev = dev.0; local = local.0 })
all_sound text body rest e ns pre post dev local before whole white base p o d l end =
    let from_dev : post.1 ≡ d.0 ++ (l.0 ++ local.1) = d.1 ∙ ap (λ (r : List ℕ). d.0 ++ r) l.1 in
    let from_post : pre.1 ≡ o.0 ++ (d.0 ++ (l.0 ++ local.1)) = o.1 ∙ ap (λ (r : List ℕ). o.0 ++ r) from_dev in
    let from_pre : rest ≡ p.0 ++ (o.0 ++ (d.0 ++ (l.0 ++ local.1))) = p.1 ∙ ap (λ (r : List ℕ). p.0 ++ r) from_post in
    record {
      before = before;
      prefix = base.0;
      epoch = base.1;
      release = base.2;
      pre = p.0;
      post = o.0;
      dev = d.0;
      local = l.0;
      after = local.1;
      whole = whole ∙ ap (λ (r : List ℕ). before ++ r) (base.3 ∙ ap (λ (r : List ℕ). base.0 ++ (base.1 ++ (base.2 ++ r))) from_pre);
      is_before = white;
      is_prefix = base.4;
      is_epoch = base.5;
      is_release = base.6;
      is_pre = subst (λ (r : List ℕ). IsPre p.0 pre.0 r) from_post p.2;
      is_post = subst (λ (r : List ℕ). IsPost o.0 post.0 r) from_dev o.2;
      is_dev = subst (λ (r : List ℕ). IsDev d.0 dev.0 r) l.1 d.2;
      is_local = l.2;
      is_after = end;
    }

version_end : (text : List ℕ) (p : Parts) (x : (ℕ × List ℕ) × List ℕ) → base_at (after_white text) ≡ Some x → (parts_at x.0 x.1).0 ≡ p → list_all is_white (parts_at x.0 x.1).1 ≡ true → Spells text p
unfolding parts_at
version_end text p x base end white =
    let before = after_white_splits text in
    let pre = optional_at tagged_pre_at x.1 in
    let post = optional_at dashed_or_tagged_post_at pre.1 in
    let dev = optional_at tagged_dev_at post.1 in
    subst (λ (q : Parts). Spells text q) end (all_sound text (after_white text) x.1 x.0.0 x.0.1 pre post dev (local_at dev.1) before.0 before.1 before.2 (base_sound (after_white text) x base) (pre_sound x.1) (post_sound pre.1) (dev_sound post.1) (local_sound dev.1) white)

pub version_sound : (text : List ℕ) (p : Parts) → version_of text ≡ Some p → Spells text p
unfolding version_of
version_sound text p e =
    let a = bind_some (base_at (after_white text)) _ p e in
    let c = cond_some (list_all is_white (parts_at a.0.0 a.0.1).1) (parts_at a.0.0 a.0.1).0 p a.2 in
    version_end text p a.0 a.1 c.1 c.0
