use Rattle.std.proofs.Common.{◌≡◌, ℕ, ◌<◌, ◌≤◌, length, suc, []}
use denote.Text.{Utf8}
use denote.Shadow.{shadow}
use Rattle.toml.specs.Tables.{Document, no_nodes}
use Rattle.toml.specs.Parse.{lines, skip_bom}
use Rattle.pytoml.proofs.document.add_lines.Given as goal

abbrev pub invariant-lines : goal.invariant-lines
invariant-lines g l =
    shadow (Utf8 l.rest) × (length l.rest ≤ length l.fn.s)
    × (doc : Document) × g.L.Lines.stands l.draft doc × (m : ℕ) × (length l.rest < m)
    × (lines (suc (length l.fn.s)) (no_nodes, []) (skip_bom l.fn.s) ≡ lines m doc l.rest)

abbrev pub decreases-lines : goal.decreases-lines
decreases-lines g l = length l.rest
