-- Sources that are given, in a list of any order.
use Rattle.std.specs.Prelude.{List, map}
use Rattle.pylock_core.specs.Session.Picks.{lent_source}
use Rattle.pylock_exports.specs.Listed.{ListedValue, listed}
use Rattle.pylock_exports.specs.declared.listed.GivenSource.{GivenSource}

-- one that is given, under its number
abbrev pub given_source : GivenSource → ListedValue
given_source given = listed given.number given.entry.now (lent_source given.source)

abbrev pub given_sources : List GivenSource → List ListedValue
given_sources list = map given_source list
