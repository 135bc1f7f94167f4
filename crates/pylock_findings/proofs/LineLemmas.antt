-- The lines of findings, one more of them.
use Rattle.std.proofs.Common.{◌≡◌, ℕ, ◌+◌, ◌<◌, ◌++◌, List, [], ◌∷◌, get_or, length, map, subst, sym, take, Result, Ok, Err, IfOk, Vec, Global}
use Rattle.std.proofs.lemmas.List.{take_more}
use Rattle.pylock_audit.specs.Finding.{LockFindingValue}
use Rattle.std.specs.List.{All}
use Rattle.pylock_core.specs.Session.State.{Rises}
use Rattle.pylock_readers.specs.Entry.{EntryValue}
use Rattle.pylock_readers.specs.Lock.{HeadValue, LockValue}
use Rattle.pylock_environments.specs.Findings.{AreWhole, IsShown, place_of}
use Rattle.pylock_environments.specs.declared.finding.EnvironmentFinding.{EnvironmentFinding}
use Rattle.pylock_findings.specs.Environments.{AreEnvironmentLines, AreLines, IsLine}

lines_behind : (entries : List EntryValue) (findings : List EnvironmentFinding) (lines : List LockFindingValue)
    (finding : EnvironmentFinding) (line : LockFindingValue)
    → AreLines entries findings lines → IsLine entries finding line → AreLines entries (findings ++ finding ∷ []) (lines ++ line ∷ [])
lines_behind entries [] [] finding line are is = (is, tt)
lines_behind entries [] (m ∷ ms) finding line are is = absurd are
lines_behind entries (f ∷ fs) [] finding line are is = absurd are
lines_behind entries (f ∷ fs) (m ∷ ms) finding line are is = (are.0, lines_behind entries fs ms finding line are.1 is)

pub one_more : (entries : List EntryValue) (findings : List EnvironmentFinding) (i : ℕ) (other : EnvironmentFinding) (lines lines' : List LockFindingValue)
    (line : LockFindingValue) → i < length findings → AreLines entries (take i findings) lines → lines' ≡ lines ++ line ∷ []
    → IsLine entries (get_or findings i other) line → AreLines entries (take (i + 1) findings) lines'
one_more entries findings i other lines lines' line within are behind is =
    subst (AreLines entries (take (i + 1) findings)) (sym behind)
    (subst (λ fs. AreLines entries fs (lines ++ line ∷ [])) (sym (take_more findings i other within))
    (lines_behind entries (take i findings) lines (get_or findings i other) line are is))

-- the lines of what is found in a lock are those of its environments
pub of_lock : {E : Type 0} (lock : LockValue) (head : HeadValue) (entries others : List EntryValue)
    (findings seen : List EnvironmentFinding) (result : Result (Vec LockFindingValue Global) E)
    → head ≡ lock.head → entries ≡ lock.entries → others ≡ lock.entries → seen ≡ findings
    → All (IsShown head entries) findings → AreWhole head entries findings → Rises 0 (map place_of findings)
    → IfOk result (λ lines. AreLines others seen lines.items) → IfOk result (λ lines. AreEnvironmentLines lock lines.items)
of_lock lock head entries others findings seen (Err error) same-head same-entries same-others same shown whole order told = tt
of_lock lock head entries others findings seen (Ok lines) same-head same-entries same-others same shown whole order told = record {
  findings = findings;
  shown = subst (λ h. All (IsShown h lock.entries) findings) same-head (subst (λ es. All (IsShown head es) findings) same-entries shown);
  whole = subst (λ h. AreWhole h lock.entries findings) same-head (subst (λ es. AreWhole head es findings) same-entries whole);
  order = order;
  told = subst (λ es. AreLines es findings lines.items) same-others (subst (λ fs. AreLines others fs lines.items) same told);
}
