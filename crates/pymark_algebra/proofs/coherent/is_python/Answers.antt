use Rattle.std.proofs.Common.{◌∙◌, Bor, Ok, Result, Some, ap, sym}
use Rattle.std.specs.Option.{option_map}
use Rattle.pyver_algebra.specs.FirstTwo.{first_two}
use Rattle.pyver_core.specs.Version.Parts.{Parts}
use Rattle.pyver_core.specs.declared.version.error.VersionError.{VersionError}
use Rattle.pymark_core.specs.Environment.{variable_in}
use Rattle.pymark_core.specs.declared.variable.Var.TheVariants.{PythonFullVersion, PythonVersion}
use Rattle.pymark_algebra.proofs.PythonLemmas.{spelt}
use Rattle.pymark_algebra.proofs.coherent.is_python.Goals as goal

pub returns : goal.returns
returns c = λ is. (
  c.in-Some-Ok.whole,
  record {
    epoch = sym c.epoch.ensures ∙ c.if-epoch-ne0.false;
    whole = spelt (variable_in PythonFullVersion c.args.environment.now) c.in-Some-Ok.whole
        (sym c.version.ensures ∙ ap (option_map (λ (read : Bor (Result Parts VersionError)). read.now)) c.in-Some-Ok.is
        ∙ ap Some c.in-Some-Ok.field-0-is);
    first = spelt (variable_in PythonVersion c.args.environment.now) (first_two c.in-Some-Ok.whole)
        (sym c.version-2.ensures ∙ ap (option_map (λ (read : Bor (Result Parts VersionError)). read.now)) c.in-Some-Ok-version.is
        ∙ ap Some c.in-Some-Ok-version.field-0-is ∙ ap (λ v. Some (Ok v)) (c.is_first_two.ensures is));
  },
)
