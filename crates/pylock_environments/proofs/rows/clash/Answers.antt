use Rattle.std.proofs.Common.{ℕ, ◌+◌, ◌<◌, ◌≤◌, List, Option, arith, length, subst, sym, take}
use Rattle.std.specs.List.{All, Contains}
use Rattle.std.specs.Option.{MatchOption}
use Rattle.std.proofs.lemmas.List.{take_all}
use Rattle.std.proofs.lemmas.List.Elements.{All-more}
use Rattle.pymark_algebra.specs.declared.answer.Answer.{Answer}
use Rattle.pylock_readers.specs.Entry.{EntryValue}
use Rattle.pylock_environments.specs.Environments.{IsNowhere, StandTogether}
use Rattle.pylock_environments.specs.Inner.{Says, numbered}
use Rattle.pylock_environments.specs.declared.lock.WeighedEntry.{WeighedEntry}
use Rattle.pylock_environments.proofs.RowLemmas.{contains_numbered, known_more, known_or, known_told}
use Rattle.pylock_environments.proofs.rows.clash.Goals as goal
use Rattle.pylock_environments.proofs.rows.clash.Goals.{in-Yes, in-Undecided}

-- a number is one of the others'
abbrev Among : List WeighedEntry → ℕ → Type 0
Among ws n = (earlier : EntryValue) × Contains (numbered ws) (n, earlier)

pub returns-then-is_spent : goal.returns-then-is_spent
returns-then-is_spent c =
    let others = c.args.others.now in
    let other = c.other-item.result in
    let below : c.loop-other.other-index < length others = omega arith in
    subst (Among others) (sym c.unwrap_or-other.ensures)
    (known_or c.loop-other.undecided other.number _ (Among others) c.loop-other.invariant
    (other.entry.now, contains_numbered others c.loop-other.other-index other below c.other-item.is))

pub returns-in-No : goal.returns-in-No
returns-in-No c =
    let head = c.args.lock.now.head.now in
    let entry = c.args.weighed.now.entry.now in
    let others = c.args.others.now in
    let other = c.other-item.result in
    let below : c.loop-other.other-index < length others = omega arith in
    let says = subst (λ (a : Answer). Says head (StandTogether other.entry.now entry) (StandTogether other.entry.now entry) a) c.in-No.is c.in_ok-ask.ensures in
    (other.entry.now, contains_numbered others c.loop-other.other-index other below c.other-item.is, says.0, says.1)

pub loop-other-preserved : goal.loop-other-preserved
loop-other-preserved c =
    let head = c.args.lock.now.head.now in
    let entry = c.args.weighed.now.entry.now in
    let others = c.args.others.now in
    let other = c.other-item.result in
    let index = c.loop-other.other-index in
    let below : index < length others = omega arith in
    let known : MatchOption c.loop-other.undecided (All (λ (w : WeighedEntry). IsNowhere head (StandTogether w.entry.now entry)) (take index others)) (Among others) =
    c.loop-other.invariant in
    elim c.match-branch-2.branch [
      | in-Yes w ↦
          subst (λ (o : Option ℕ). MatchOption o (All (λ (w : WeighedEntry). IsNowhere head (StandTogether w.entry.now entry)) (take (index + 1) others)) (Among others)) (sym w.undecided-is)
          (known_more c.loop-other.undecided _ (All (λ (w : WeighedEntry). IsNowhere head (StandTogether w.entry.now entry)) (take (index + 1) others)) (Among others)
          (λ all. All-more (λ (w : WeighedEntry). IsNowhere head (StandTogether w.entry.now entry)) others index other below all
          (subst (λ (w : WeighedEntry). IsNowhere head (StandTogether w.entry.now entry)) c.other-item.is
          (subst (λ (a : Answer). Says head (StandTogether other.entry.now entry) (StandTogether other.entry.now entry) a) w.in-Yes.is c.in_ok-ask.ensures)))
          known)
      | in-Undecided w ↦
          subst (λ (o : Option ℕ). MatchOption o (All (λ (w : WeighedEntry). IsNowhere head (StandTogether w.entry.now entry)) (take (index + 1) others)) (Among others)) (sym w.undecided-is)
          (subst (Among others) (sym w.unwrap_or.ensures)
          (known_or c.loop-other.undecided other.number _ (Among others) known (other.entry.now, contains_numbered others index other below c.other-item.is)))
    ]

pub returns : goal.returns
returns c =
    let head = c.args.lock.now.head.now in
    let entry = c.args.weighed.now.entry.now in
    let others = c.args.others.now in
    let past : length others ≤ c.loop-other.other-index = omega arith in
    known_told head others entry c.loop-other.undecided
    (subst (λ (ws : List WeighedEntry). MatchOption c.loop-other.undecided (All (λ (w : WeighedEntry). IsNowhere head (StandTogether w.entry.now entry)) ws) (Among others))
    (take_all c.loop-other.other-index others past) c.loop-other.invariant)
    c.may_clash.result c.may_clash.ensures
