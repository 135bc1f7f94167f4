-- An operand that is a version in normal form.
use Rattle.std.proofs.Common.{◌≡◌, ℕ, ◌≤◌, false, List, Some, ◌++◌, length, refl, sym, subst, ap, ◌∙◌, append_assoc}
use Rattle.std.specs.Option.{IfSome}
use Rattle.std.proofs.lemmas.List.Folds.{list_all-append}
use Rattle.pytext.specs.Bytes.{is_white}
use Rattle.pytext.specs.White.{after_white}
use Rattle.pytext.proofs.WhiteLemmas.{after_white_splits}
use Rattle.pyver_core.specs.Inner.NormalVersion.{IsNormalVersion}
use Rattle.pyver_core.specs.Inner.NormalOperand.{least_numbers, with_version}
use Rattle.pyver_core.specs.Set.Grammar.{specifier_numbers}
use Rattle.pyver_core.specs.Set.Reading.{operand_of}
use Rattle.pyver_core.specs.Version.Grammar.{Spells, has_large, numbers}
use Rattle.pyver_core.specs.Version.Parts.{Parts}
use Rattle.pyver_core.specs.declared.set.specifier.Operator.{Operator}
use Rattle.pyver_core.specs.declared.set.specifier.Operator.TheVariants as operator
use Rattle.pyver_core.specs.declared.set.specifier.Specifier.{Specifier}
use Rattle.pyver_core.specs.declared.set.specifier.Specifier.TheVariants as specifier
use Rattle.pyver_core.proofs.Lemmas.Set.Reading.Complete.{operand_complete}
use Rattle.pyver_core.proofs.Lemmas.Version.NormalVersion.{normal_version_spells}

-- what is read of the operand is this specifier, and none of its numbers is past the limit
abbrev IsRead : Operator → List ℕ → Specifier → Type 0
IsRead o text s = (operand_of o text ≡ Some s) × (has_large (specifier_numbers s) ≡ false)

-- a text spells what it spells after white space
spells_after_white : (text : List ℕ) (v : Parts) → Spells (after_white text) v → Spells text v
spells_after_white text v s =
    let w = after_white_splits text in
    let rest = s.prefix ++ (s.epoch ++ (s.release ++ (s.pre ++ (s.post ++ (s.dev ++ (s.local ++ s.after)))))) in
    record {
      before = w.0 ++ s.before;
      prefix = s.prefix;
      epoch = s.epoch;
      release = s.release;
      pre = s.pre;
      post = s.post;
      dev = s.dev;
      local = s.local;
      after = s.after;
      whole = w.1 ∙ ap (λ (t : List ℕ). w.0 ++ t) s.whole ∙ sym (append_assoc w.0 s.before rest);
      is_before = rw (list_all-append is_white w.0 s.before, w.2, s.is_before) refl;
      is_prefix = s.is_prefix;
      is_epoch = s.is_epoch;
      is_release = s.is_release;
      is_pre = s.is_pre;
      is_post = s.is_post;
      is_dev = s.is_dev;
      is_local = s.is_local;
      is_after = s.is_after;
    }

normal_after_white : (text : List ℕ) (v : Parts) → IsNormalVersion (after_white text) v → Spells text v
normal_after_white text v is = spells_after_white text v (normal_version_spells (after_white text) v is)

pub normal_operand : (o : Operator) (text : List ℕ) (v : Parts) (least : ℕ) → least_numbers o ≡ Some least → least ≤ length v.release
    → IsNormalVersion (after_white text) v → has_large (numbers v) ≡ false → IfSome (with_version o v) (IsRead o text)
normal_operand operator.Equal text v least e enough is fits = (operand_complete (specifier.Equal v) text (normal_after_white text v is), fits)
normal_operand operator.NotEqual text v least e enough is fits = (operand_complete (specifier.NotEqual v) text (normal_after_white text v is), fits)
normal_operand operator.AtMost text v least e enough is fits = (operand_complete (specifier.AtMost v) text (normal_after_white text v is, is.local), fits)
normal_operand operator.AtLeast text v least e enough is fits = (operand_complete (specifier.AtLeast v) text (normal_after_white text v is, is.local), fits)
normal_operand operator.Before text v least e enough is fits = (operand_complete (specifier.Before v) text (normal_after_white text v is, is.local), fits)
normal_operand operator.After text v least e enough is fits = (operand_complete (specifier.After v) text (normal_after_white text v is, is.local), fits)
normal_operand operator.Compatible text v least e enough is fits =
    let two : 2 ≡ least = cc in
    (operand_complete (specifier.Compatible v) text (normal_after_white text v is, is.local, subst (λ n. n ≤ length v.release) (sym two) enough), fits)
normal_operand operator.Arbitrary text v least e enough is fits = tt
