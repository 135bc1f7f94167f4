-- The codes of the keys of a table.
use Rattle.std.specs.Prelude.{ℕ, List, [], ◌∷◌, string_bytes}
use Rattle.std.specs.Global.{Global}
use Rattle.std.specs.declared.string.String.{String}
use Rattle.std.specs.declared.vec.Vec.{Vec}
use Rattle.toml.specs.Data.{Members, no_members, member}
use Rattle.pylock_compare.specs.Rows.{Row}
use Rattle.pytoml_code.specs.Code.{code}

-- keys, each with the code of its value
abbrev pub Rows : Type 0
Rows = List (Row (List ℕ))

abbrev pub member_rows : Members → Rows
member_rows no_members = []
member_rows (member key d ds) = (key, code d) ∷ member_rows ds

-- what stands for a row of strings and bytes
abbrev pub code_row : String Global × Vec ℕ Global → Row (List ℕ)
code_row row = (string_bytes row.0, row.1.items)
