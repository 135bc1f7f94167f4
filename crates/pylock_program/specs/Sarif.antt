-- What `audit` prints as a SARIF document.
use Rattle.std.specs.Prelude.{◌≡◌, ℕ, List, Result, option_map, string_bytes}
use Rattle.std.specs.Option.{option_copied}
use Rattle.pylock_audit.specs.Finding.{LockFindingValue}
use Rattle.pylock_audit.specs.Words.{finding_word}
use Rattle.pylock_documents.specs.Written.{object_text}
use Rattle.pylock_json.specs.Json.{members_of}
use Rattle.pylock_run.specs.Report.{Report}
use Rattle.pylock_run.specs.Report.Print.{Prints}
use Rattle.pylock_run.specs.Stream.{SinkValue}
use Rattle.pylock_run.specs.declared.report.fault.RunFault.{RunFault}
use Rattle.pylock_sarif.specs.Document.{sarif_rows}
use Rattle.pylock_sarif.specs.declared.run.Run.{Run}
use Rattle.pylock_sarif.specs.declared.run.SarifResult.{SarifResult}
use Rattle.pylock_sarif.specs.declared.run.TextPlace.{TextPlace}
use Rattle.pylock_spans.specs.declared.place.Place.{Place}
use Rattle.pylock_program.specs.Each.{AreEach}
use Rattle.pylock_program.specs.Located.{AreLocated}
use Rattle.pylock_program.specs.declared.located.Located.{Located}

abbrev pub text_place : Place → TextPlace
text_place place = record { line = place.line; column = place.column }

-- the result that tells a finding, at its place, if it has one
pub record IsResult (located : Located) (told : SarifResult) : Type 0 where
  pub rule : told.rule.now ≡ finding_word located.finding.now.finding.kind
  pub number : told.number ≡ located.finding.now.number
  pub name : option_copied told.name ≡ located.finding.now.name
  pub detail : option_map string_bytes told.detail ≡ located.finding.now.finding.detail
  pub place : told.place ≡ option_map text_place located.place

-- the document of a run
abbrev pub run_report : Run → ℕ → Report
run_report run status = record {
  text = object_text (members_of (sarif_rows run));
  status = status;
}

-- there is a run over the lock, with a result for each finding in order, of which the document is
-- printed
pub record PrintsSarif (path bytes : List ℕ) (found : List LockFindingValue) (status : ℕ)
    (sink sink' : SinkValue) (result : Result ℕ RunFault) : Type 0 where
  pub run : Run
  pub lock : run.lock.now ≡ path
  pub located : List Located
  pub are_located : AreLocated bytes found located
  pub results : AreEach IsResult located run.results.now
  pub prints : Prints (run_report run status) sink sink' result
