-- The targets of a matrix, from the words of their Pythons and platforms.
use Rattle.std.specs.Prelude.{ℕ, ◌++◌, List, [], ◌∷◌, Result, Ok, Err}
use Rattle.pytext.specs.Results.{◌>>=◌}
use Rattle.pywheel_core.specs.Target.Reading.{target_of}
use Rattle.pywheel_core.specs.Target.Value.{TargetValue}
use Rattle.pywheel_core.specs.Texts.{pieces_at}
use Rattle.pywheel_core.specs.declared.error.TargetError.{TargetError}
use Rattle.pywheel_core.specs.declared.error.TargetError.TheVariants as target
use Rattle.pylock_matrix.specs.declared.cell.CellError.{CellError}
use Rattle.pylock_matrix.specs.declared.cell.CellError.TheVariants.{Python, Platform}

-- the words of a list, with `,` between them
abbrev pub words_in : List ℕ → List (List ℕ)
words_in text = pieces_at 44 text

-- a target, and the words that name it
pub record CellValue : Type 0 where
  pub python : List ℕ
  pub platform : List ℕ
  pub target : TargetValue

-- which of two words is none, where they name no target
abbrev pub refused_word : List ℕ → List ℕ → TargetError → CellError
refused_word python platform target.Python = Python python
refused_word python platform target.Platform = Platform platform

-- the cell of a target, as it was read from two words
abbrev pub cell_by : List ℕ → List ℕ → Result TargetValue TargetError → Result CellValue CellError
cell_by python platform (Ok read) =
    Ok (record { python = python; platform = platform; target = read })
cell_by python platform (Err error) = Err (refused_word python platform error)

-- the cell that a Python and a platform name
abbrev pub cell_of : List ℕ → List ℕ → Result CellValue CellError
cell_of python platform = cell_by python platform (target_of python platform)

-- these cells before the others, unless there is a refusal
abbrev pub before : List CellValue → Result (List CellValue) CellError
    → Result (List CellValue) CellError
before cells others = others >>= λ others. Ok (cells ++ others)

-- the cells of a Python on each platform, or the first refusal
abbrev pub cells_with : List ℕ → List (List ℕ) → Result (List CellValue) CellError
cells_with python [] = Ok []
cells_with python (platform ∷ platforms) =
    cell_of python platform >>= λ cell. before (cell ∷ []) (cells_with python platforms)

-- the cells of each Python on each platform, or the first refusal: the platform runs fastest
abbrev pub cells_of : List (List ℕ) → List (List ℕ) → Result (List CellValue) CellError
cells_of [] platforms = Ok []
cells_of (python ∷ pythons) platforms =
    cells_with python platforms >>= λ cells. before cells (cells_of pythons platforms)
