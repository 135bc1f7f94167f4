use Rattle.std.proofs.Common.{◌∙◌, Bor, Result, Some, ap, refl, sym}
use Rattle.std.specs.Cmp.{booleans_Decides}
use Rattle.std.specs.Option.{option_map}
use Rattle.pyver_core.specs.Version.Parts.{Parts}
use Rattle.pyver_core.specs.declared.version.error.VersionError.{VersionError}
use Rattle.pymark_core.specs.Environment.{variable_in}
use Rattle.pymark_core.specs.declared.variable.Var.TheVariants.{PythonFullVersion}
use Rattle.pymark_algebra.proofs.PythonLemmas.{says_it}
use Rattle.pymark_algebra.proofs.witness.says.Goals as goal

pub returns : goal.returns
returns c = λ is.
    says_it c.args.environment.now c.args.python.now.specifier.now c.args.python.now.wanted c.in-Some-Ok.version
    (variable_in PythonFullVersion c.args.environment.now) refl
    (sym c.version.ensures ∙ ap (option_map (λ (read : Bor (Result Parts VersionError)). read.now)) c.in-Some-Ok.is
    ∙ ap Some c.in-Some-Ok.field-0-is)
    (sym c.admits.ensures ∙ (booleans_Decides c.admits.result c.args.python.now.wanted).0 is)
