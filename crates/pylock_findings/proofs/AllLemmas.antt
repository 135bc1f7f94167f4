-- All that is found in a lock, put together from its parts.
use Rattle.std.proofs.Common.{◌≡◌, ◌∙◌, ◌<◌, ℕ, Bool, Bor, arith, length, true, false, List, [], ◌∷◌, ap, refl, sym}
use Rattle.pylock_advisories.specs.Advisory.{AdvisoryValue}
use Rattle.pylock_audit.specs.Finding.{LockFindingValue}
use Rattle.pylock_findings.specs.All.{AreAll, AreOthers, all_found, lines_of_advisories, lines_of_hosts}
use Rattle.pylock_findings.specs.Environments.{AreEnvironmentLines}
use Rattle.pylock_findings.specs.Inner.{AreWithOthers}
use Rattle.pylock_findings.specs.Merging.{merged}
use Rattle.pylock_findings.specs.Texts.{lent_texts}
use Rattle.pylock_readers.specs.Entry.{EntryValue}
use Rattle.pylock_readers.specs.Lock.{LockValue}

-- nothing comes between
pub with_none : (found : List LockFindingValue) → merged found [] ≡ found
with_none [] = refl
with_none (one ∷ found) = ap (λ rest. one ∷ rest) (with_none found)

pub none_between : (found others all : List LockFindingValue) → others ≡ [] → all ≡ found → all ≡ merged found others
none_between found others all none same = same ∙ sym (with_none found) ∙ ap (merged found) (sym none)

pub ruleset merged_none = (none_between)

-- nothing is asked of hosts
pub no_hosts : (found : List LockFindingValue) (hosts : List (Bor (List ℕ))) (entries : List EntryValue) → length hosts < 1
    → found ≡ merged found (lines_of_hosts (lent_texts hosts) entries)
no_hosts found [] entries none = sym (with_none found)
no_hosts found (host ∷ hosts) entries none = absurd (omega (arith, none))

module _ (lock : LockValue) (found all : List LockFindingValue) where
  pub are_none : (environments : Bool) → environments ≡ false → all ≡ found → AreWithOthers environments lock found all
  are_none environments unasked same = rw unasked record { others = []; are_others = refl; is = same ∙ sym (with_none found) }

  pub are_more : (environments : Bool) (others : List LockFindingValue) → environments ≡ true → AreEnvironmentLines lock others
      → all ≡ merged found others → AreWithOthers environments lock found all
  are_more environments others asked are same = rw asked record { others = others; are_others = are; is = same }

pub ruleset others = (are_none, are_more)

module _ (environments : Bool) (advisories : List AdvisoryValue) (hosts : List (List ℕ)) (lock : LockValue) (found first second all : List LockFindingValue) where
  pub put_together : AreWithOthers environments lock found first
      → second ≡ merged first (lines_of_advisories advisories lock.entries)
      → all ≡ merged second (lines_of_hosts hosts lock.entries)
      → AreAll environments advisories hosts lock found all
  put_together with_others by_advisories by_hosts = record {
    others = with_others.others;
    are_others = with_others.are_others;
    is = by_hosts
        ∙ ap (λ some. merged some (lines_of_hosts hosts lock.entries))
        (by_advisories ∙ ap (λ some. merged some (lines_of_advisories advisories lock.entries)) with_others.is);
  }

pub ruleset alls = (put_together)
