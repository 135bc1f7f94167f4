-- How severe a result is (SARIF 2.1.0, section 3.27.10).
use Rattle.std.specs.Prelude.{ℕ, List, codes}
use Rattle.pylock_sarif.specs.declared.rule.Level.{Level}
use Rattle.pylock_sarif.specs.declared.rule.Level.TheVariants.{Error, Warning, Note}

abbrev pub level_word : Level → List ℕ
level_word Error = codes "error"
level_word Warning = codes "warning"
level_word Note = codes "note"
