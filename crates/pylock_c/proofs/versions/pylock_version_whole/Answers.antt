-- What is told of what one reading gives, and of a refusal.
use Rattle.std.proofs.Common.{◌≡◌, ℕ, List, Result, Ok, Err, refl, rules, subst, sym}
use Rattle.pytext.specs.Agreement.{Gives}
use Rattle.pylock_values.specs.declared.versions.VersionKind.{VersionKind}
use Rattle.pylock_values.specs.declared.versions.VersionNumbers.{VersionNumbers}
use Rattle.pylock_c.specs.Versions.{whole_of}
use Rattle.pylock_slots.specs.declared.refusal.Refusal.{Refusal}
use Rattle.pylock_slots.specs.declared.refusal.Refusal.TheVariants.{Memory}
use Rattle.pylock_c.specs.declared.versions.Reading.{Reading}
use Rattle.pylock_c.proofs.versions.pylock_version_whole.Goals as goal

-- what this outcome says of the bytes
abbrev Gave : List ℕ → Result Reading Refusal → Type 0
Gave bytes outcome = Gives Memory (λ whole. (whole.key.items, whole.release.items, (whole.kind, whole.parts))) outcome (whole_of bytes)

pub returns-in-Ok : goal.returns-in-Ok
returns-in-Ok c =
    let told : VersionKind × VersionNumbers = (c.in-Ok.whole.kind, c.in-Ok.whole.parts) in
    let gave = subst (Gave c.args.text.now) c.in-Ok.is c.whole.ensures in
    let key = subst (λ (key : List ℕ). whole_of c.args.text.now ≡ Ok (key, c.in-Ok.whole.release.items, told)) (sym c.deref.ensures.value) gave in
    let both = subst (λ (words : List ℕ). whole_of c.args.text.now ≡ Ok (c.deref.result.now, words, told)) (sym c.deref-in-Ok.ensures.value) key in
    (Ok (c.deref.result.now, c.deref-in-Ok.result.now, told), both, Prim.search rules, c.put_both.ensures.first, c.put_both.ensures.second, refl)

pub returns-in-Err : goal.returns-in-Err
returns-in-Err c =
    let gave = subst (Gave c.args.text.now) c.in-Err.is c.whole.ensures in
    (Err c.in-Err.refusal, gave, Prim.search rules, refl, refl, refl)
