-- What `show` prints: what a lock says of itself.
use Rattle.std.specs.Prelude.{ℕ, List, Option, Some}
use Rattle.pylock_command.specs.declared.form.Form.{Form}
use Rattle.pylock_command.specs.declared.form.Form.TheVariants.{Lines, Json}
use Rattle.pylock_messages.specs.Diagnostic.{DiagnosticValue}
use Rattle.pylock_run.specs.Report.{Report}
use Rattle.pylock_summary.specs.Document.{summary_rows}
use Rattle.pylock_summary.specs.Fact.{FactValue}
use Rattle.pylock_summary.specs.Summary.{summary_of}
use Rattle.pylock_program.specs.Refusal.{report_or_refusal}
use Rattle.pylock_program.specs.Reply.{answered, read_or_refused}
use Rattle.pylock_program.specs.Text.Json.{json_text}
use Rattle.pylock_program.specs.Text.Summary.{summary_text}

abbrev pub facts_shown : Form → List FactValue → List ℕ
facts_shown Lines facts = summary_text facts
facts_shown Json facts = json_text (summary_rows facts)

abbrev pub facts_report : Form → List FactValue → Report
facts_report form facts = answered (facts_shown form facts)

abbrev pub summary_report : Form → Option DiagnosticValue → List ℕ → Report
summary_report form diagnostic bytes =
    report_or_refusal (Some form) diagnostic (facts_report form)
    (read_or_refused (summary_of bytes))
