use Rattle.std.proofs.Common.{◌≤◌, length, string_bytes}
use denote.Text.{Utf8}
use denote.Shadow.{shadow}
use Rattle.pytoml.specs.Text.{GoesOn}
use Rattle.pytoml.proofs.basic.more.Given as goal

abbrev pub invariant-pieces : goal.invariant-pieces
invariant-pieces l =
    shadow (Utf8 l.rest) × (length l.rest ≤ length l.s)
    × GoesOn l.s (string_bytes l.initial.text) l.rest (string_bytes l.text)

abbrev pub decreases-pieces : goal.decreases-pieces
decreases-pieces l = length l.rest
