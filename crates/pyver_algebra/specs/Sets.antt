-- What is asked of specifier sets, and what the answers say.
use Rattle.std.specs.Prelude.{◌≡◌, IsTrue, List}
use Rattle.pyver_core.specs.Set.Admission.{admits_all}
use Rattle.pyver_core.specs.Version.Parts.{Parts}
use Rattle.pyver_core.specs.declared.set.specifier.Specifier.{Specifier}
use Rattle.pyver_algebra.specs.declared.witness.Quest.{Quest}
use Rattle.pyver_algebra.specs.declared.sets.Answer.{Answer}
use Rattle.pyver_algebra.specs.declared.sets.Answer.TheVariants.{Yes, No, Undecided}

-- no version is admitted
abbrev pub IsEmpty : List Specifier → Type 0
IsEmpty set = (v : Parts) → IsTrue (admits_all set v) → ⊥

-- no version is admitted by both
abbrev pub HaveNothingInCommon : List Specifier → List Specifier → Type 0
HaveNothingInCommon a b = (v : Parts) → IsTrue (admits_all a v) → IsTrue (admits_all b v) → ⊥

-- each version that a admits, b admits
abbrev pub LiesIn : List Specifier → List Specifier → Type 0
LiesIn a b = (v : Parts) → IsTrue (admits_all a v) → IsTrue (admits_all b v)

-- yes says this, no says that of its version, and undecided says nothing
abbrev pub Says : Answer → Type 0 → (Parts → Type 0) → Type 0
Says Yes this that = this
Says (No v) this that = that v
Says Undecided this that = Unit {0}

-- what is looked for: admitted by the first set, and by the second one as wanted
abbrev pub IsShownBy : Quest → Parts → Type 0
IsShownBy quest v =
    IsTrue (admits_all quest.first.now v) × (admits_all quest.second.now v ≡ quest.wanted)
