-- How far the reading of a whole source has come.
use Rattle.std.proofs.Common.{◌≡◌, ℕ, ◌-◌, ◌<◌, ◌≤◌, List, [], ◌++◌, length, take, ap, ◌∙◌, subst, length-append, arith, Result, Ok, Err, IfOk, OnErr, Some}
use Rattle.std.proofs.KnownBytes.{Consumes-trans}
use Rattle.std.specs.Io.KnownBytes.{Consumes, ReadConsumes}
use Rattle.pylock_run.specs.Stream.{SourceValue, one_more}
use Rattle.pylock_run.specs.Stream.Whole.{GivesWithin, GivesPast, IsCause}
use Rattle.pylock_run.specs.declared.stream.whole.FileFault.{FileFault}
use Rattle.pylock_run.specs.declared.stream.whole.FileFault.TheVariants.{Read, Limit, Memory, Missing, Directory, Permission}

-- the bytes read so far, of a source that has failed no more than at first
pub record HasRead (limit : ℕ) (old new : SourceValue) (bytes : List ℕ) : Type 0 where
  pub gave : Consumes old.rest new.rest bytes
  pub within : length bytes ≤ limit
  pub counted : new.failures ≡ old.failures

-- what follows the bytes read so far, within what is left of the limit
GivesWithin-after : (limit : ℕ) (old mid new : SourceValue) (bytes : List ℕ) → HasRead limit old mid bytes
    → GivesWithin (limit - length bytes) mid new → GivesWithin limit old new
GivesWithin-after limit old mid new bytes read more = record {
  given = bytes ++ more.given;
  gave = Consumes-trans old.rest mid.rest new.rest bytes more.given read.gave more.gave;
  within = omega (arith, length-append bytes more.given, read.within, more.within);
}

GivesPast-after : (limit : ℕ) (old mid new : SourceValue) (bytes : List ℕ) → HasRead limit old mid bytes
    → GivesPast (limit - length bytes) mid new → GivesPast limit old new
GivesPast-after limit old mid new bytes read more = record {
  given = bytes ++ more.given;
  gave = Consumes-trans old.rest mid.rest new.rest bytes more.given read.gave more.gave;
  past = omega (arith, length-append bytes more.given, read.within, more.past);
}

cause_after : (limit : ℕ) (old mid new : SourceValue) (bytes : List ℕ) (fault : FileFault) → HasRead limit old mid bytes
    → IsCause (limit - length bytes) mid new fault → IsCause limit old new fault
cause_after limit old mid new bytes Read read cause = (GivesWithin-after limit old mid new bytes read cause.0, cause.1 ∙ ap one_more read.counted)
cause_after limit old mid new bytes Limit read cause = (GivesPast-after limit old mid new bytes read cause.0, cause.1 ∙ read.counted)
cause_after limit old mid new bytes Memory read cause = (GivesWithin-after limit old mid new bytes read cause.0, cause.1 ∙ read.counted)
cause_after limit old mid new bytes Missing read cause = absurd cause
cause_after limit old mid new bytes Directory read cause = absurd cause
cause_after limit old mid new bytes Permission read cause = absurd cause

pub IsCause-after : (limit size : ℕ) (old mid new : SourceValue) (bytes : List ℕ) (fault : FileFault) → HasRead limit old mid bytes
    → size ≡ length bytes → IsCause (limit - size) mid new fault → IsCause limit old new fault
IsCause-after limit size old mid new bytes fault read same cause =
    cause_after limit old mid new bytes fault read (subst (λ n. IsCause (limit - n) mid new fault) same cause)

-- a call over known bytes
pub ReadConsumes-known : {E : Type 0} (r : Result ℕ E) (old new buf : List ℕ) → IfOk r (λ n. old ≡ take n buf ++ new)
    → IfOk r (λ n. n ≡ 0 → 0 < length buf → new ≡ []) → OnErr r (new ≡ old) → ReadConsumes (Some old) (Some new) r buf
ReadConsumes-known (Ok n) old new buf given end kept_part = (given, end)
ReadConsumes-known (Err e) old new buf given end kept_part = kept_part
