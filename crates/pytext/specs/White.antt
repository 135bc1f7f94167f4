-- White space before a text, and round it.
use Rattle.std.specs.Prelude.{◌≡◌, ℕ, ◌-◌, true, List, ◌++◌, length, take, drop}
use Rattle.std.specs.List.{list_all, prefix_len, suffix_len}
use Rattle.pytext.specs.Bytes.{is_white}

-- the text after the white space that it begins with
abbrev pub after_white : List ℕ → List ℕ
after_white text = drop (prefix_len is_white text) text

-- the text without the white space that it begins and ends with
abbrev pub trim_white : List ℕ → List ℕ
trim_white text =
    let rest = after_white text in
    take (length rest - suffix_len is_white rest) rest

-- The text is this inner one with white space round it, and the inner one neither begins nor ends
-- with any.
pub record IsTrimmed (text inner : List ℕ) : Type 0 where
  pub before : List ℕ
  pub after : List ℕ
  pub whole : text ≡ before ++ (inner ++ after)
  pub is_before : list_all is_white before ≡ true
  pub is_after : list_all is_white after ≡ true
  pub begins : prefix_len is_white inner ≡ 0
  pub ends : suffix_len is_white inner ≡ 0
