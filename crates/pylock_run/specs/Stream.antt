-- Where the program's bytes come from and where they go, as contracts see it.
pub mod Memory
pub mod Output
pub mod Terminal
pub mod Whole
use Rattle.std.specs.Prelude.{◌≡◌, ℕ, ◌+◌, ◌==◌, if◌then◌else◌, List, ◌++◌, Option}
use Rattle.std.specs.Io.KnownBytes.{Appends}

-- a source: the bytes to come, where it exposes them, and how many calls have failed
pub record SourceValue : Type 0 where
  pub rest : Option (List ℕ)
  pub failures : ℕ

-- a sink: the bytes that it took, where it exposes them, and how many calls have failed
pub record SinkValue : Type 0 where
  pub held : Option (List ℕ)
  pub failures : ℕ

-- the last value of a count of failures, the greatest number of 64 bits
abbrev pub most_failures : ℕ
most_failures = 18446744073709551615

-- the count after one more failure: at its last value it stays
abbrev pub one_more : ℕ → ℕ
one_more n = (if n == most_failures then n else n + 1)

-- the sink took a prefix of the text
pub record TakesPrefix (old new : SinkValue) (text : List ℕ) : Type 0 where
  pub prefix : List ℕ
  pub rest : List ℕ
  pub whole : text ≡ prefix ++ rest
  pub held : Appends old.held new.held prefix
