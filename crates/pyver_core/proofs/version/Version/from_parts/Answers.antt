use Rattle.pyver_core.proofs.Lemmas.Version.FromParts.{made_ok, made_refused}
use Rattle.pyver_core.proofs.version.Version.from_parts.Goals as goal

pub returns-clause-ok : goal.returns-clause-ok
returns-clause-ok c = made_ok c.args.parts c.version_from_parts.result c.version_from_parts.ensures

pub returns-clause-refused : goal.returns-clause-refused
returns-clause-refused c = made_refused c.args.parts c.version_from_parts.result c.version_from_parts.ensures
