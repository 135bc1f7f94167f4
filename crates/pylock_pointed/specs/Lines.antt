-- The lines with which a refused text is shown, and where the place is in them.
use Rattle.std.specs.Prelude.{◌≡◌, ◌<◌, ◌≤◌, ℕ, ◌-◌, ◌==◌, nat_le, if◌then◌else◌, List, ◌++◌}
use Rattle.std.specs.Prelude.{codes, length, replicate, reverse, take}
use Rattle.std.specs.List.{prefix_len, zip}
use Rattle.std.specs.Str.{IsCharBoundary, chars}
use Rattle.pylock_shown.specs.Visible.{visible}
use Rattle.pymark_expected.specs.declared.fault.Fault.{Fault}

-- four spaces and the text; four spaces, as many as stand before the stretch, the stretch and `^`
abbrev pub lines : List ℕ → ℕ → ℕ → List ℕ
lines shown before within =
    codes "    " ++ (shown ++ (codes "\n    "
    ++ (replicate before 32 ++ (replicate within 126 ++ codes "^"))))

-- how many characters stand before the place, as the text is shown
abbrev pub column : List ℕ → ℕ → ℕ
column text place = length (chars (visible (take place text)))

-- how many bytes two texts begin with alike
abbrev pub alike_len : List ℕ → List ℕ → ℕ
alike_len text other = prefix_len (λ pair. pair.0 == pair.1) (zip text other)

-- Where a place of a text is in the text with its secrets hidden. Before and behind what is hidden
-- the two are alike; of a place between, it is where that begins.
abbrev pub place_in : List ℕ → List ℕ → ℕ → ℕ
place_in text hidden place =
    if nat_le place (alike_len text hidden) then place
    else if nat_le (length text - place) (alike_len (reverse text) (reverse hidden))
    then length hidden - (length text - place)
    else alike_len text hidden

-- the last place up to this one that cuts no character
pub record IsLastCut (text : List ℕ) (most place : ℕ) : Type 0 where
  pub within : place ≤ most
  pub boundary : IsCharBoundary text place
  pub last : (other : ℕ) → place < other → other ≤ most → IsCharBoundary text other → ⊥

-- the lines of a text with its secrets hidden, and below it the stretch of the fault
pub record ArePointed (text hidden : List ℕ) (fault : Fault) (result : List ℕ) : Type 0 where
  pub begin : ℕ
  pub end : ℕ
  pub begins : IsLastCut hidden (place_in text hidden fault.begin) begin
  pub ends : IsLastCut hidden (place_in text hidden fault.end) end
  pub are_lines : result ≡ lines (visible hidden) (column hidden begin)
      (column hidden end - column hidden begin)
