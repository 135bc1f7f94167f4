use Rattle.std.proofs.Common.{◌≡◌, drop, map}
use Rattle.serde_json.specs.View.{members_view}
use Rattle.pylock_json.specs.Json.{members_of, with_rows}
use Rattle.pylock_summary.specs.Document.{fact_row, summary_rows}
use Rattle.pylock_summary.proofs.document.summary_document.Given as goal

-- the facts that are left are still to be put
abbrev pub invariant-loop-fact : goal.invariant-loop-fact
invariant-loop-fact l = with_rows (map fact_row (drop l.fact-index l.facts)) (members_view l.object) ≡ members_of (summary_rows l.facts)
