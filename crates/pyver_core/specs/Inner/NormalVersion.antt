-- Versions of which the text is the normal form.
use Rattle.std.specs.Prelude.{◌≡◌, ◌≢◌, ℕ, List, [], take}
use Rattle.pyver_core.specs.Version.Normal.{normal_text}
use Rattle.pyver_core.specs.Version.Parts.{Parts}
use Rattle.pyver_core.specs.declared.version.reading.normal_version.NormalVersion.{NormalVersion}

-- the parts, where these are the numbers of the release and others behind them
abbrev pub normal_parts : List ℕ → NormalVersion → Parts
normal_parts capacity p = record {
  epoch = 0;
  release = take p.count capacity;
  pre = p.pre;
  post = p.post;
  dev = p.dev;
  local = [];
}

-- the text is the normal form of parts that a text spells
pub record IsNormalVersion (text : List ℕ) (p : Parts) : Type 0 where
  pub text_is : normal_text p ≡ text
  pub release : p.release ≢ []
  pub local : p.local ≡ []
