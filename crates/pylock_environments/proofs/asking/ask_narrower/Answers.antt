use Rattle.std.proofs.Common.{◌≡◌, ◌<◌, ◌≤◌, ◌∙◌, true, false, ap, arith, length, subst, sym}
use Rattle.std.specs.Option.{option_copied}
use Rattle.std.proofs.lemmas.List.{take_all}
use Rattle.std.proofs.lemmas.List.Elements.{All-more, All-same, All-weaker}
use Rattle.pyver_core.specs.declared.set.specifier.Specifier.{Specifier}
use Rattle.pymark_algebra.specs.declared.answer.Answer.{Answer}
use Rattle.pylock_core.specs.Session.Steps.{python_check}
use Rattle.pymark_algebra.specs.Questions.{PythonSays}
use Rattle.pylock_environments.specs.Environments.{IsNarrower, IsNowhere}
use Rattle.pylock_environments.specs.Inner.{IsRefused, Says}
use Rattle.pylock_environments.proofs.AskingLemmas.{says_where}
use Rattle.pylock_environments.proofs.WantedLemmas.{one_refuses}
use Rattle.pylock_environments.proofs.asking.ask_narrower.Goals as goal
use Rattle.pylock_environments.proofs.asking.ask_narrower.Goals.{in-Yes, in-Undecided}

pub loop-specifier-preserved : goal.loop-specifier-preserved
loop-specifier-preserved c =
    let head = c.args.lock.now.head.now in
    let entry = c.args.weighed.now.entry.now in
    let set = c.items-specifier-items.result.now in
    let s = c.specifier-item.result in
    let below : c.loop-specifier.specifier-index < length set = omega arith in
    elim c.match-branch-2.branch [
      | in-Yes w ↦ λ decided.
          All-more (λ (s : Specifier). IsNowhere head (IsRefused entry s)) set c.loop-specifier.specifier-index s below
          (c.loop-specifier.invariant (sym w.is_decided-is ∙ decided))
          (subst (λ (s : Specifier). IsNowhere head (IsRefused entry s)) c.specifier-item.is
          (subst (λ (a : Answer). Says head (IsRefused entry s) (IsNarrower entry) a) w.in-Yes.is c.in_ok-ask.ensures))
      | in-Undecided w ↦ λ decided. let no : false ≡ true = sym w.is_decided-is ∙ decided in absurd cc
    ]

pub returns : goal.returns
returns c =
    let head = c.args.lock.now.head.now in
    let entry = c.args.weighed.now.entry.now in
    let items = c.items-specifier-items.result.now in
    let set = c.in-Some.set.now in
    let past : length items ≤ c.loop-specifier.specifier-index = omega arith in
    says_where head (IsNarrower entry) (IsNarrower entry) c.loop-specifier.is_decided
    (λ decided. λ e of narrow. one_refuses set e
    (ap (λ set. python_check set e) (sym (ap option_copied c.in-Some.is) ∙ c.requires_python.ensures) ∙ narrow.unmet)
    (All-weaker (λ (s : Specifier). IsNowhere head (IsRefused entry s)) (λ s. PythonSays e s false → ⊥) (λ s never says. never e of (narrow.marked, says)) set
    (All-same (λ (s : Specifier). IsNowhere head (IsRefused entry s)) set _
    (sym c.items-specifier-items.ensures ∙ sym (take_all c.loop-specifier.specifier-index items past)) (c.loop-specifier.invariant decided))))
    _ c.yes_where.ensures
