-- The environment that is made from its text, or from a target in its place.
use Rattle.pylock_readers.specs.Environment.{EnvironmentRead, env_of}
use Rattle.pylock_readers.specs.Target.{target_env_of}
use Rattle.pylock_readers.specs.declared.environment.EnvironmentInput.{EnvironmentInput}
use Rattle.pylock_readers.specs.declared.environment.EnvironmentInput.TheVariants.{Text, Target}

abbrev pub input_env_of : EnvironmentInput → EnvironmentRead
input_env_of (Text bytes) = env_of bytes.now
input_env_of (Target python platform) = target_env_of python.now platform.now
