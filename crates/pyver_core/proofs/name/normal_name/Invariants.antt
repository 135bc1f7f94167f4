use Rattle.std.proofs.Common.{◌≡◌, ◌++◌, string_bytes}
use Rattle.pyver_core.proofs.Lemmas.Name.Collapse.{collapse}
use Rattle.pyver_core.specs.Name.{normal_name}
use Rattle.pyver_core.proofs.name.normal_name.Given as goal

abbrev pub invariant-loop-character : goal.invariant-loop-character
invariant-loop-character l = string_bytes l.name ++ collapse l.in_run l.character-iterator.rest.now ≡ normal_name l.fn.text
