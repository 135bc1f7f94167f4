use Rattle.std.proofs.Common.{◌≡◌, ◌<◌, ◌≤◌, ◌∙◌, Some, ap, arith, length, sym}
use Rattle.std.proofs.lemmas.List.{take_all}
use Rattle.std.proofs.lemmas.List.Elements.{All-same}
use Rattle.pymark_core.specs.Marker.Reading.{MarkerValue}
use Rattle.pylock_environments.specs.Environments.{IsMarked, IsNowhere}
use Rattle.pylock_environments.specs.Inner.{IsShownBy, IsSoughtIn}
use Rattle.pylock_environments.proofs.AskingLemmas.{nowhere_by_each, says_where, some_of}
use Rattle.pylock_environments.proofs.asking.ask.Goals as goal

pub returns : goal.returns
returns c =
    let head = c.args.lock.now.head.now in
    let markers = c.environments-markers.result.now in
    let same : markers ≡ head.environments = c.environments-markers.ensures in
    let some : 0 < length markers = some_of (length markers) (sym c.is_empty.ensures ∙ c.if-is_empty.false) in
    let past : length markers ≤ c.loop-index.index = omega arith in
    says_where head (λ e. IsSoughtIn e c.args.sought.now) (λ e. IsShownBy e c.args.sought.now) c.loop-index.is_decided
    (λ decided. nowhere_by_each head (λ e. IsSoughtIn e c.args.sought.now) (omega (arith, some, ap length same))
    (All-same (λ (m : MarkerValue). IsNowhere head (λ e. IsMarked (Some m) e × IsSoughtIn e c.args.sought.now)) head.environments _
    (sym same ∙ sym (take_all c.loop-index.index markers past)) (c.loop-index.invariant decided)))
    _ c.yes_where.ensures
