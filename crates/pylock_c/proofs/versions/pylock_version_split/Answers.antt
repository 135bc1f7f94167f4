-- What is told of the numbers that the call made.
use Rattle.std.proofs.Common.{rules}
use Rattle.pylock_c.specs.Versions.{split_of}
use Rattle.pylock_c.proofs.versions.pylock_version_split.Goals as goal

pub returns : goal.returns
returns c =
    let w = c.write_with.ensures (split_of c.args.text.now) c.split.ensures in
    (w.0, w.1, Prim.search rules, w.3, w.4, w.5)
