-- What an edit leaves of a session: it is made or refused.
use Rattle.std.specs.Prelude.{◌≡◌, ℕ, ◌++◌, List, Result, Ok, Err, IsTrue}
use Rattle.pymark_core.specs.Environment.{EnvironmentValue}
use Rattle.pymark_core.specs.Marker.Value.{AgreeAt}
use Rattle.pymark_core.specs.declared.marker.keys.Key.{Key}
use Rattle.pylock_core.specs.Inner.Parts.{shown, state_of}
use Rattle.pylock_core.specs.Session.Judgement.{touched}
use Rattle.pylock_core.specs.Session.State.{apply, takes_memory}
use Rattle.pylock_core.specs.declared.edit.Edit.{Edit}
use Rattle.pylock_core.specs.declared.edit.EditError.{EditError}
use Rattle.pylock_core.specs.declared.edit.EditError.TheVariants.{Memory}
use Rattle.pylock_core.specs.declared.session.parts.Parts.{Parts}

-- ---- environments

-- two environments differ at this key alone
abbrev pub DifferAt : Key → EnvironmentValue → EnvironmentValue → Type 0
DifferAt key e f = (other : Key) → (other ≡ key → ⊥) → AgreeAt other e f

-- the state after it is that of the definition; what it judged comes after what was judged before
pub record Made (edit : Edit) (old new : Parts) (before after : List ℕ) : Type 0 where
  pub applied : apply edit (state_of old) ≡ Ok (state_of new)
  pub judged : after ≡ before ++ touched edit (state_of old)

-- the definition refuses it so, or memory ran out; all that is shown stays
pub record Refused (edit : Edit) (old new : Parts) (error : EditError) : Type 0 where
  pub reason : (error ≡ Memory → ⊥) → apply edit (state_of old) ≡ Err error
  pub memory : error ≡ Memory → IsTrue (takes_memory edit)
  pub kept : shown new ≡ shown old

abbrev pub Leaves : {A : Type 0} → Edit → Parts → Parts → List ℕ → List ℕ → Result A EditError
    → Type 0
Leaves edit old new before after (Ok x) = Made edit old new before after
Leaves edit old new before after (Err error) = Refused edit old new error
