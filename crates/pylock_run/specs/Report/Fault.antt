-- Why a run ends before its report.
use Rattle.pylock_run.specs.declared.report.fault.RunFault.{RunFault}
use Rattle.pylock_run.specs.declared.report.fault.RunFault.TheVariants as fault

-- what each fault needs: that a read failed, that a write failed, that the input passes a limit, or
-- that an allocation was refused
pub record Causes : Type 1 where
  pub read : Type 0
  pub write : Type 0
  pub input : Type 0
  pub memory : Type 0

-- the fault has its cause
abbrev pub HasCause : Causes → RunFault → Type 0
HasCause causes fault.Read = causes.read
HasCause causes fault.Write = causes.write
HasCause causes fault.Input = causes.input
HasCause causes fault.Memory = causes.memory
