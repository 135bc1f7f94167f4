-- The first two numbers of a version's release, as a version (PEP 508, "Environment Markers":
-- `python_version` has those of `python_full_version`).
use Rattle.std.specs.Prelude.{take}
use Rattle.pyver_core.specs.Version.Parts.{Parts, release_alone}

abbrev pub first_two : Parts → Parts
first_two v = release_alone (take 2 v.release)
