use Rattle.std.proofs.Common.{◌≡◌, map, take}
use Rattle.pylock_exports.specs.Given.{given_sources}
use Rattle.pylock_union.specs.Listed.{all_lent}
use Rattle.pylock_program.specs.Files.{form_source}
use Rattle.pylock_program.proofs.files.given_sources.Given as goal

-- the sources so far
abbrev pub invariant-loop-source : goal.invariant-loop-source
invariant-loop-source l = given_sources l.given.items ≡ map form_source (all_lent (take l.source-index l.list))
