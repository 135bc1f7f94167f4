-- The environment of a machine, as it is read from what was found of the machine.
use Rattle.pylock_program.specs.declared.file.MachineInput.{MachineInput}
use Rattle.pylock_program.specs.declared.file.MachineInput.TheVariants.{File, Target}
use Rattle.pylock_readers.specs.Environment.{EnvironmentRead, env_of}
use Rattle.pylock_readers.specs.Target.{target_env_of}

abbrev pub machine_read : MachineInput → EnvironmentRead
machine_read (File file) = env_of file.bytes.items
machine_read (Target target) = target_env_of target.python.now target.platform.now
