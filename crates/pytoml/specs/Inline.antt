-- How an array that is one value, of which the elements are handed out, begins. Only private
-- clauses cite these words.
use Rattle.std.specs.Prelude.{ℕ, Bool, not, ◌&&◌, ◌==◌, List, drop}
use Rattle.toml_parser.specs.Lexical.{first, left_bracket, right_bracket, skip_blank}

-- an array that isn't empty
abbrev pub begins_elements : List ℕ → Bool
begins_elements text =
    (first text == left_bracket) && not (first (skip_blank (drop 1 text)) == right_bracket)
