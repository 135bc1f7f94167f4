use Rattle.std.proofs.Common.{◌≡◌, ℕ, ◌<◌, ◌≤◌, length}
use denote.Text.{Utf8}
use denote.Shadow.{shadow}
use Rattle.toml.specs.Data.{Items, no_items}
use Rattle.toml.specs.Parse.{items, val}
use Rattle.pytoml.proofs.inline.take_elements.Given as goal

abbrev pub invariant-items : goal.invariant-items
invariant-items g l =
    shadow (Utf8 l.rest) × (length l.rest ≤ length l.fn.s)
    × (g.E.Elements.holds l.fn.elements no_items → (n : ℕ) → length l.fn.s < n → (taken : Items) × g.E.Elements.holds l.elements taken × (m : ℕ) × (length l.rest < m)
    × (items (val l.fn.depth) n no_items l.fn.s ≡ items (val l.fn.depth) m taken l.rest))

abbrev pub decreases-items : goal.decreases-items
decreases-items g l = length l.rest
