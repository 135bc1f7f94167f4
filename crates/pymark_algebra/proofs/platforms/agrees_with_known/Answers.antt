use Rattle.std.proofs.Common.{◌∙◌, ap, sym}
use Rattle.std.specs.Option.{option_copied}
use Rattle.pymark_algebra.proofs.PlatformLemmas.{never_known}
use Rattle.pymark_algebra.proofs.platforms.agrees_with_known.Goals as goal

pub can_hold_at-requires : goal.can_hold_at-requires
can_hold_at-requires c = c.in-Some-known_text.ensures.spells

pub returns-in-Some-known_text : goal.returns-in-Some-known_text
returns-in-Some-known_text c = λ no.
    never_known c.args.platform c.args.literal.now c.in-Some.variable c.in-Some-known_text.text.now c.in-Some.ensures
    (sym c.known_text.ensures.value ∙ ap option_copied c.in-Some-known_text.is) (c.can_hold_at.ensures no)
