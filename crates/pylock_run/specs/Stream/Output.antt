-- A sink that may be a terminal's, as contracts see it.
use Rattle.std.specs.Prelude.{None}
use Rattle.pylock_run.specs.Stream.{SinkValue}
use Rattle.pylock_run.specs.declared.stream.output.Output.{Output}
use Rattle.pylock_run.specs.declared.stream.output.Output.TheVariants.{Bytes, Terminal}

-- the bytes that go as they are, where their sink exposes them, or the failures of a terminal's
abbrev pub output_value : {S : Type 0} → (S → SinkValue) → Output S → SinkValue
output_value value (Bytes sink) = value sink
output_value value (Terminal terminal) = record { held = None; failures = terminal.failures }
