use Rattle.std.proofs.Common.{◌≡◌, take}
use Rattle.pylock_compare.specs.Lent.{lent_texts}
use Rattle.pylock_diff.specs.Files.{parts_of}
use Rattle.pylock_diff.specs.Inner.Lent.{lent_sources}
use Rattle.pylock_diff.proofs.places.parts_of.Given as goal

abbrev pub invariant-loop-file : goal.invariant-loop-file
invariant-loop-file l = lent_texts l.list.items ≡ parts_of l.urls (lent_sources (take l.file-index l.files))
