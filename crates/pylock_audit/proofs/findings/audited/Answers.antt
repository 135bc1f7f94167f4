use Rattle.std.proofs.Common.{◌∙◌, ap, codes, subst, sym}
use Rattle.toml.specs.View.{table_view}
use Rattle.pytext.specs.Agreement.{Gives}
use Rattle.pytoml.specs.Members.{with_elements}
use Rattle.pylock_readers.specs.Lock.Packages.{HasRead}
use Rattle.pylock_readers.specs.Lock.Reading.{lock_in}
use Rattle.pylock_readers.specs.declared.error.LockError.TheVariants.{Memory}
use Rattle.pylock_audit.specs.Audit.{head_findings_where}
use Rattle.pylock_audit.specs.Inner.Tables.{has_no_packages, tables_after, with_findings}
use Rattle.pylock_audit.proofs.TableLemmas.{looked_is}
use Rattle.pylock_audit.proofs.findings.audited.Goals as goal

pub returns : goal.returns
returns c = λ taken read looked.
    let document = table_view c.args.document in
    let lock = lock_in (with_elements (codes "packages") taken document) in
    let parts = subst (λ p. HasRead p taken) (sym c.into_parts-packages.ensures.packages) read in
    let gives = c.with_findings.ensures lock (c.into_lock.ensures taken parts) in
    let tables = c.args.looked.tables.items in
    let head = c.in_ok-head.ensures ∙ ap (λ absent. head_findings_where absent document) (c.has_no_packages-is_absent.ensures ∙ ap (λ ts. has_no_packages ts document) (c.deref.ensures.value ∙ ap (λ v. v.items) c.into_parts-packages.ensures.tables)) in
    let after = c.in_ok-tables.ensures ∙ ap (λ ts. tables_after ts document) (ap (λ v. v.items) c.into_parts-packages.ensures.tables) in
    let same = ap (λ h. with_findings c.args.asked h c.in_ok-tables.tables.items lock) head ∙ ap (λ ts. with_findings c.args.asked (head_findings_where (has_no_packages tables document) document) ts lock) after ∙ looked_is c.args.asked document taken tables looked in
    subst (Gives Memory (λ audited. (audited.0, audited.1.items)) c.with_findings.result) same gives
