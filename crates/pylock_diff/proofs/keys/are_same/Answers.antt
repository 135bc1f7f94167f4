use Rattle.std.proofs.Common.{◌∙◌, ◌&&◌, nat_eq, sym}
use Rattle.std.specs.Cmp.Derive.Mapped.{pointwise-map}
use Rattle.std.specs.Str.{bytes_eq}
use Rattle.pylock_diff.specs.Inner.Lent.{lent_place}
use Rattle.pylock_diff.specs.Keys.{Placed}
use Rattle.pylock_diff.proofs.keys.are_same.Goals as goal

pub returns : goal.returns
returns c =
    c.eq.ensures
    ∙ sym (pointwise-map lent_place (λ (old new : Placed). nat_eq old.0 new.0 && bytes_eq old.1 new.1) c.args.olds.now c.args.news.now)
