use Rattle.std.proofs.Common.{◌≡◌, ap, arith, sym, true, ◌∙◌}
use Rattle.std.proofs.lemmas.Bool.Decides.{nat_tests}
use Rattle.pywheel_core.specs.Target.Value.{is_platform}
use Rattle.pywheel_core.proofs.TargetLemmas.{mac_small, manylinux_small, musllinux_small}
use Rattle.pywheel_core.proofs.target.words.Words.with_platforms.Goals as goal

pub with_manylinux-requires : goal.with_manylinux-requires
with_manylinux-requires c = manylinux_small c.in-Manylinux.minor c.in-Manylinux.arch (ap is_platform (sym c.in-Manylinux.is) ∙ c.requires)

pub with_musllinux-requires : goal.with_musllinux-requires
with_musllinux-requires c = musllinux_small c.in-Musllinux.minor c.in-Musllinux.arch (ap is_platform (sym c.in-Musllinux.is) ∙ c.requires)

pub with_macos-requires-clause-major : goal.with_macos-requires-clause-major
with_macos-requires-clause-major c = (mac_small c.in-MacOs.major c.in-MacOs.minor c.in-MacOs.arch (ap is_platform (sym c.in-MacOs.is) ∙ c.requires)).0

pub with_macos-requires-clause-minor : goal.with_macos-requires-clause-minor
with_macos-requires-clause-minor c = (mac_small c.in-MacOs.major c.in-MacOs.minor c.in-MacOs.arch (ap is_platform (sym c.in-MacOs.is) ∙ c.requires)).1
