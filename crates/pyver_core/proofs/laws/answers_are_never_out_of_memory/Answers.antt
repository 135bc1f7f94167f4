use Rattle.pyver_core.proofs.Lemmas.Parsed.NeverMemory.{operand_never_memory, parts_never_memory, set_never_memory, specifier_never_memory, version_never_memory}
use Rattle.pyver_core.proofs.laws.answers_are_never_out_of_memory.Goals as goal

pub returns : goal.returns
returns c = record { version = version_never_memory; set = set_never_memory; operand = operand_never_memory; specifier = specifier_never_memory; parts = parts_never_memory }
