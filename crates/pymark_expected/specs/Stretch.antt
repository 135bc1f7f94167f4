-- Stretches of a text.
use Rattle.std.specs.Prelude.{◌≡◌, ◌≤◌, ℕ, List, ◌++◌, length}
use Rattle.std.specs.Str.{IsCharBoundary}
use Rattle.pymark_expected.specs.declared.fault.Fault.{Fault}

-- the stretch lies in the text, and cuts no character
pub record IsStretch (text : List ℕ) (fault : Fault) : Type 0 where
  pub order : fault.begin ≤ fault.end
  pub within : fault.end ≤ length text
  pub begin : IsCharBoundary text fault.begin
  pub end : IsCharBoundary text fault.end

-- a text ends with another one
pub record EndsWith (text end : List ℕ) : Type 0 where
  pub before : List ℕ
  pub whole : text ≡ before ++ end
