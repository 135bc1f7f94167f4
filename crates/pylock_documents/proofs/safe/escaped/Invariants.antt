use Rattle.std.proofs.Common.{◌≡◌, flat_map, string_bytes}
use Rattle.pylock_documents.specs.Safe.{safe_character}
use Rattle.pylock_documents.proofs.safe.escaped.Given as goal

abbrev pub invariant-loop-character : goal.invariant-loop-character
invariant-loop-character l = string_bytes l.safe ≡ flat_map safe_character l.yielded
