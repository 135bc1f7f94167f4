-- Reading the name of a source distribution: the first refusal in order, or what the name says. It
-- gives an answer only where `Sdist` holds, and that of which it holds (the law
-- `sdist_of_is_the_answer`), and wherever `Sdist` holds (the law `sdist_of_is_complete`).
use Rattle.std.specs.Prelude.{ℕ, if◌then◌else◌, List, Option, codes, ok_or, Result, Ok, Err}
use Rattle.std.specs.Result.{result_ok}
use Rattle.pytext.specs.Options.{either}
use Rattle.pytext.specs.Results.{◌>>=◌}
use Rattle.pyver_core.specs.Name.{is_name, normal_name}
use Rattle.pyver_core.specs.Parsed.{parsed_version}
use Rattle.pyver_core.specs.Version.Parts.{Parts}
use Rattle.pywheel_core.specs.Sdist.Value.{SdistValue}
use Rattle.pywheel_core.specs.Texts.{before_ending, cut_at_last}
use Rattle.pywheel_core.specs.declared.error.SdistError.{SdistError}
use Rattle.pywheel_core.specs.declared.error.SdistError.TheVariants as sdist

-- what stands before the extension
abbrev pub sdist_stem : List ℕ → Option (List ℕ)
sdist_stem text =
    either (before_ending (codes ".tar.gz") text) (before_ending (codes ".zip") text)

-- each part, or its refusal

unfoldable pub sdist_name_in : List ℕ → Result (List ℕ) SdistError
sdist_name_in name = if is_name name then Ok (normal_name name) else Err sdist.Name

unfoldable pub sdist_version_in : List ℕ → Result Parts SdistError
sdist_version_in text = ok_or (result_ok (parsed_version text)) sdist.Version

-- What the text says as the name of a source distribution, or the first reason why it is none.
unfoldable pub sdist_of : List ℕ → Result SdistValue SdistError
sdist_of text = do
  stem ← ok_or (sdist_stem text) sdist.Extension
  parts ← ok_or (cut_at_last 45 stem) sdist.Parts
  name ← sdist_name_in parts.0
  version ← sdist_version_in parts.1
  Ok (record { name = name; version = version })
