-- The version that a text spells is read, so that a text spells one version at most.
use Rattle.std.proofs.Common.{◌≡◌, ℕ, ◌≤◌, Bool, true, false, List, [], ◌∷◌, ◌++◌, Option, Some, None, refl, sym, ap, subst, ◌∙◌, append_assoc, arith, inl, inr, lit≤}
use Rattle.std.specs.Prelude.{codes, ◌==◌}
use Rattle.std.specs.Char.{is_ascii_digit, to_ascii_lowercase}
use Rattle.std.specs.List.{list_all}
use Rattle.std.proofs.lemmas.Bool.Decides.{nat_tests}
use Rattle.std.proofs.lemmas.Option.{same_Some}
use Rattle.pyver_core.specs.Version.Parts.{Parts}
use Rattle.pytext.specs.Bytes.{is_white, starts}
use Rattle.pyver_core.specs.Version.Grammar.{IsNumber, IsPrefix, IsEpoch, IsRelease, Spells}
use Rattle.pytext.specs.White.{after_white}
use Rattle.pyver_core.specs.Version.Reading.{optional_at, many_at, number_at, after_word, after_prefix, head_at, dotted_number_at, base_at, tagged_pre_at, dashed_or_tagged_post_at, tagged_dev_at, local_at, parts_at, version_of}
use Rattle.pyver_core.specs.declared.version.part.PreKind.{PreKind}
use Rattle.pyver_core.specs.declared.version.part.LocalPart.{LocalPart}
use Rattle.pyver_core.proofs.Lemmas.Version.Reading.FirstBytes.{is_letter, begins_not, all_white_begins, digit_not_letter}
use Rattle.pytext.proofs.BytesLemmas.{starts_all}
use Rattle.pytext.proofs.WhiteLemmas.{after_white_exact}
use Rattle.pyver_core.proofs.Lemmas.Version.Reading.Complete.Pieces.{number_complete, dotted_complete, dotted_starts, word_complete, no_word}
use Rattle.pyver_core.proofs.Lemmas.Version.Reading.Complete.Words.{word_starts}
use Rattle.pyver_core.proofs.Lemmas.Version.Reading.Complete.Parts.{follow_release, local_complete, local_begins, dev_complete, dev_begins, dev_apart, post_complete, post_begins, post_apart, pre_complete, pre_begins, pre_not_dotted}

-- a text that begins with what passes one test doesn't begin with what passes another
pub starts_other : (test other : ℕ → Bool) → ((b : ℕ) → test b ≡ true → other b ≡ false) → (text : List ℕ) → starts test text ≡ true → starts other text ≡ false
starts_other test other apart [] e = refl
starts_other test other apart (b ∷ rest) e = apart b e

-- ---- the epoch and the release

head_complete : (epoch first : List ℕ) (e n : ℕ) (rest : List ℕ) → IsEpoch epoch e → IsNumber first n → starts is_ascii_digit rest ≡ false → starts (λ b. b == 33) rest ≡ false → head_at (epoch ++ (first ++ rest)) ≡ Some ((e, n), rest)
unfolding head_at
head_complete epoch first e n rest (inl none) is stops no_bang =
    let read : number_at (first ++ rest) ≡ Some (n, rest) = number_complete first n rest is stops in
    let end : head_at (first ++ rest) ≡ Some ((0, n), rest) = rw (read, no_bang) refl in
    ap (λ (t : List ℕ). head_at (t ++ (first ++ rest))) none.0 ∙ (end ∙ ap (λ (z : ℕ). Some ((z, n), rest)) (sym none.1))
head_complete epoch first e n rest (inr some) is stops no_bang =
    let behind = first ++ rest in
    let whole : epoch ++ behind ≡ some.0 ++ (codes "!" ++ behind) = ap (λ (t : List ℕ). t ++ behind) some.1 ∙ append_assoc some.0 (codes "!") behind in
    let read : number_at (some.0 ++ (codes "!" ++ behind)) ≡ Some (e, codes "!" ++ behind) = number_complete some.0 e (codes "!" ++ behind) some.2 refl in
    let second : number_at behind ≡ Some (n, rest) = number_complete first n rest is stops in
    let end : head_at (some.0 ++ (codes "!" ++ behind)) ≡ Some ((e, n), rest) = rw (read, second) refl in
    ap (λ (t : List ℕ). head_at t) whole ∙ end

pub body_digit : (epoch release next : List ℕ) (e : ℕ) (ns : List ℕ) → IsEpoch epoch e → IsRelease release ns → starts is_ascii_digit (epoch ++ (release ++ next)) ≡ true
body_digit epoch release next e [] is_epoch is = absurd is
body_digit epoch release next e (n ∷ ns) (inl none) is =
    let whole : epoch ++ (release ++ next) ≡ is.0 ++ (is.1 ++ next) = ap (λ (t : List ℕ). t ++ (release ++ next)) none.0 ∙ (ap (λ (t : List ℕ). t ++ next) is.2 ∙ append_assoc is.0 is.1 next) in
    subst (λ (t : List ℕ). starts is_ascii_digit t ≡ true) (sym whole) (starts_all is_ascii_digit is.0 (is.1 ++ next) is.3.0 is.3.1.digits)
body_digit epoch release next e (n ∷ ns) (inr some) is =
    let whole : epoch ++ (release ++ next) ≡ some.0 ++ (codes "!" ++ (release ++ next)) = ap (λ (t : List ℕ). t ++ (release ++ next)) some.1 ∙ append_assoc some.0 (codes "!") (release ++ next) in
    subst (λ (t : List ℕ). starts is_ascii_digit t ≡ true) (sym whole) (starts_all is_ascii_digit some.0 (codes "!" ++ (release ++ next)) some.2.0 some.2.1.digits)

digit_not_white : (b : ℕ) → is_ascii_digit b ≡ true → is_white b ≡ false
digit_not_white b e = grind (arith, nat_tests)

letter_not_white : (b : ℕ) → 97 ≤ to_ascii_lowercase b → is_white b ≡ false
letter_not_white b low = grind (arith, nat_tests)

pub prefix_complete : (prefix body : List ℕ) → IsPrefix prefix → starts is_ascii_digit body ≡ true → after_prefix (prefix ++ body) ≡ body
prefix_complete prefix body (inl none) digit =
    let no : after_word (codes "v") body ≡ None = no_word 118 [] body (starts_other is_ascii_digit (is_letter 118) (λ b e. digit_not_letter b 118 e (lit≤ tt)) body digit) in
    let end : after_prefix body ≡ body = rw no refl in
    ap (λ (t : List ℕ). after_prefix (t ++ body)) none ∙ end
prefix_complete prefix body (inr is) digit =
    let yes : after_word (codes "v") (prefix ++ body) ≡ Some body = word_complete (codes "v") prefix body is in
    rw yes refl

pub prefix_not_white : (prefix body : List ℕ) → IsPrefix prefix → starts is_ascii_digit body ≡ true → starts is_white (prefix ++ body) ≡ false
prefix_not_white prefix body (inl none) digit = subst (λ (t : List ℕ). starts is_white (t ++ body) ≡ false) (sym none) (starts_other is_ascii_digit is_white digit_not_white body digit)
prefix_not_white prefix body (inr is) digit = word_starts (codes "v") prefix body refl is is_white letter_not_white

pub base_complete : (prefix epoch release next : List ℕ) (e : ℕ) (ns : List ℕ) → IsPrefix prefix → IsEpoch epoch e → IsRelease release ns → starts is_ascii_digit next ≡ false → starts (λ b. b == 33) next ≡ false → dotted_number_at next ≡ None → base_at (prefix ++ (epoch ++ (release ++ next))) ≡ Some ((e, ns), next)
unfolding base_at
base_complete prefix epoch release next e [] is_prefix is_epoch is stops no_bang no_dot = absurd is
base_complete prefix epoch release next e (n ∷ ns) is_prefix is_epoch is stops no_bang no_dot =
    let body = epoch ++ (release ++ next) in
    let rest = is.1 ++ next in
    let whole : release ++ next ≡ is.0 ++ rest = ap (λ (t : List ℕ). t ++ next) is.2 ∙ append_assoc is.0 is.1 next in
    let start : after_prefix (prefix ++ body) ≡ epoch ++ (is.0 ++ rest) = prefix_complete prefix body is_prefix (body_digit epoch release next e (n ∷ ns) is_epoch is) ∙ ap (λ (t : List ℕ). epoch ++ t) whole in
    let head : head_at (epoch ++ (is.0 ++ rest)) ≡ Some ((e, n), rest) = head_complete epoch is.0 e n rest is_epoch is.3 (dotted_starts is_ascii_digit refl is.1 ns next is.4 stops) (dotted_starts (λ b. b == 33) refl is.1 ns next is.4 no_bang) in
    let others : many_at dotted_number_at rest ≡ (ns, next) = dotted_complete is.1 ns next is.4 stops no_dot in
    rw (start, head, others) refl

-- ---- the whole text

parts_complete : (e : ℕ) (ns t0 t1 t2 t3 t4 : List ℕ) (pre : Option (PreKind × ℕ)) (post dev : Option ℕ) (local : List LocalPart)
    → optional_at tagged_pre_at t0 ≡ (pre, t1) → optional_at dashed_or_tagged_post_at t1 ≡ (post, t2) → optional_at tagged_dev_at t2 ≡ (dev, t3) → local_at t3 ≡ (local, t4)
    → parts_at (e, ns) t0 ≡ (record { epoch = e; release = ns; pre = pre; post = post; dev = dev; local = local }, t4)
unfolding parts_at
parts_complete e ns t0 t1 t2 t3 t4 pre post dev local h1 h2 h3 h4 = rw (h1, h2, h3, h4) refl

version_end : (text : List ℕ) (base : (ℕ × List ℕ) × List ℕ) (parts : Parts × List ℕ) → base_at (after_white text) ≡ Some base → parts_at base.0 base.1 ≡ parts → list_all is_white parts.1 ≡ true → version_of text ≡ Some parts.0
unfolding version_of
version_end text base parts h1 h2 h3 = rw (h1, h2, h3) refl

pub version_complete : (text : List ℕ) (p : Parts) → Spells text p → version_of text ≡ Some p
version_complete text p s =
    let t3 = s.local ++ s.after in
    let t2 = s.dev ++ t3 in
    let t1 = s.post ++ t2 in
    let t0 = s.pre ++ t1 in
    let body = s.epoch ++ (s.release ++ t0) in
    let b4 = all_white_begins s.after s.is_after in
    let b3 = local_begins s.local p.local s.after s.is_local b4 in
    let b2 = dev_begins s.dev p.dev t3 s.is_dev b3 in
    let a2 = dev_apart s.dev p.dev t3 s.is_dev b3 in
    let b1 = post_begins s.post p.post t2 s.is_post b2 in
    let a1 = post_apart s.post p.post t2 s.is_post b2 a2 in
    let b0 = pre_begins s.pre p.pre t1 s.is_pre b1 in
    let parts = parts_complete p.epoch p.release t0 t1 t2 t3 s.after p.pre p.post p.dev p.local (pre_complete s.pre p.pre t1 s.is_pre b1 a1) (post_complete s.post p.post t2 s.is_post b2 a2) (dev_complete s.dev p.dev t3 s.is_dev b3) (local_complete s.local p.local s.after s.is_local b4) in
    let base = base_complete s.prefix s.epoch s.release t0 p.epoch p.release s.is_prefix s.is_epoch s.is_release (begins_not is_ascii_digit follow_release refl t0 b0) (begins_not (λ b. b == 33) follow_release refl t0 b0) (pre_not_dotted s.pre p.pre t1 s.is_pre a1) in
    let digit = body_digit s.epoch s.release t0 p.epoch p.release s.is_epoch s.is_release in
    let white = ap (λ (t : List ℕ). after_white t) s.whole ∙ after_white_exact s.before (s.prefix ++ body) s.is_before (prefix_not_white s.prefix body s.is_prefix digit) in
    version_end text ((p.epoch, p.release), t0) (p, s.after) (ap (λ (t : List ℕ). base_at t) white ∙ base) parts s.is_after

-- a text spells at most one version
pub one_spelling_at : (text : List ℕ) (p q : Parts) → Spells text p → Spells text q → p ≡ q
one_spelling_at text p q s t = same_Some p q (sym (version_complete text p s) ∙ version_complete text q t)
