use Rattle.std.proofs.Common.{◌≡◌, rules, arith, sym}
use Rattle.std.specs.Prelude.{ok_or, Ok, Err, Some, None}
use Rattle.pymark_core.proofs.Lemmas.Marker.Token.Tokens.{front_less}
use Rattle.pymark_core.specs.Inner.LentToken.{next_token, token_view}
use Rattle.pymark_core.specs.declared.marker.error.MarkerError.TheVariants.{Syntax}
use Rattle.pymark_expected.proofs.PlaceLemmas.{ended, passed, stuck, unread}
use Rattle.pymark_expected.specs.Marker.Following.{follow}
use Rattle.pymark_expected.proofs.marker.pass_token.Goals as goal
use Rattle.pymark_expected.proofs.marker.pass_token.Goals.{in-Ok+in-None-1, in-Err+in-Syntax-1}

pub returns-in-Some-clause-shorter : goal.returns-in-Some-clause-shorter
returns-in-Some-clause-shorter c =
    let front : ok_or (next_token c.args.reading.rest.now) Syntax ≡ Ok (Some (token_view c.in-Ok-Some.token, c.in-Ok-Some.rest.now)) = search rules in
    front_less c.args.reading.rest.now (token_view c.in-Ok-Some.token) c.in-Ok-Some.rest.now front

pub returns-in-Some-clause-depth : goal.returns-in-Some-clause-depth
returns-in-Some-clause-depth c =
    let front : ok_or (next_token c.args.reading.rest.now) Syntax ≡ Ok (Some (token_view c.in-Ok-Some.token, c.in-Ok-Some.rest.now)) = search rules in
    let less = front_less c.args.reading.rest.now (token_view c.in-Ok-Some.token) c.in-Ok-Some.rest.now front in
    omega (arith, less, c.depth_after.ensures.most)

pub returns-in-Some-clause-exact : goal.returns-in-Some-clause-exact
returns-in-Some-clause-exact c =
    let front : ok_or (next_token c.args.reading.rest.now) Syntax ≡ Ok (Some (token_view c.in-Ok-Some.token, c.in-Ok-Some.rest.now)) = search rules in
    let may : follow c.args.reading.next c.args.reading.depth (token_view c.in-Ok-Some.token) ≡ Some c.in-Some.next = sym c.in-Some.ensures in
    rw c.depth_after.ensures.value
    (sym (passed c.args.reading.rest.now c.in-Ok-Some.rest.now c.args.reading.next c.in-Some.next c.args.reading.depth (token_view c.in-Ok-Some.token) front may))

pub returns-in-None-clause-exact : goal.returns-in-None-clause-exact
returns-in-None-clause-exact c =
    let front : ok_or (next_token c.args.reading.rest.now) Syntax ≡ Ok (Some (token_view c.in-Ok-Some.token, c.in-Ok-Some.rest.now)) = search rules in
    sym (stuck c.args.reading.rest.now c.in-Ok-Some.rest.now c.args.reading.next c.args.reading.depth (token_view c.in-Ok-Some.token) front (sym c.in-None.ensures))

pub returns-in-Ok-None-clause-exact : goal.returns-in-Ok-None-clause-exact
returns-in-Ok-None-clause-exact c = elim c.in-Ok-None-1.branch [
  | in-Ok+in-None-1 w ↦
      let front : ok_or (next_token c.args.reading.rest.now) Syntax ≡ Ok None = search rules in
      sym (ended c.args.reading.rest.now c.args.reading.next c.args.reading.depth front)
  | in-Err+in-Syntax-1 w ↦
      let front : ok_or (next_token c.args.reading.rest.now) Syntax ≡ Err Syntax = search rules in
      sym (unread c.args.reading.rest.now c.args.reading.next c.args.reading.depth Syntax front)
]
