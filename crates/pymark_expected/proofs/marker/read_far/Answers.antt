use Rattle.std.proofs.Common.{◌≡◌, rules, arith}
use Rattle.std.specs.Prelude.{Some}
use Rattle.pymark_expected.specs.Marker.Place.{at_start, behind_token, next_place, place_of}
use Rattle.pymark_expected.proofs.marker.read_far.Goals as goal

pub loop-further-init : goal.loop-further-init
loop-further-init c = record { reached = at_start c.args.text.now; depth = omega arith; utf8 = search rules }

pub loop-further-preserved : goal.loop-further-preserved
loop-further-preserved c =
    let passed : next_place (place_of c.loop-further.reading) ≡ Some (place_of c.in-Some.further) = search rules in
    record {
      reached = behind_token c.args.text.now (place_of c.loop-further.reading) (place_of c.in-Some.further) c.loop-further.invariant.reached passed;
      depth = search (rules, arith);
      utf8 = search rules;
    }
