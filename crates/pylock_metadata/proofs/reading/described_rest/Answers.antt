use Rattle.std.proofs.Common.{◌∙◌, ap, codes, subst, sym}
use Rattle.toml.specs.View.{table_view}
use Rattle.pytext.specs.Agreement.{Gives}
use Rattle.pytoml.specs.Members.{with_elements}
use Rattle.pylock_readers.specs.Lock.Packages.{HasRead}
use Rattle.pylock_readers.specs.Lock.Reading.{lock_in}
use Rattle.pylock_readers.specs.declared.error.LockError.TheVariants.{Memory}
use Rattle.pylock_metadata.specs.Inner.Described.{entries_after, with_metadata}
use Rattle.pylock_metadata.specs.View.{entries_view, metadata_view}
use Rattle.pylock_metadata.proofs.DescribedLemmas.{described_is}
use Rattle.pylock_metadata.proofs.reading.described_rest.Goals as goal

pub returns : goal.returns
returns c = λ taken read described.
    let document = table_view c.args.document in
    let lock = lock_in (with_elements (codes "packages") taken document) in
    let parts = subst (λ p. HasRead p taken) (sym c.into_parts-packages.ensures.packages) read in
    let gives = c.with_metadata.ensures lock (c.into_lock.ensures taken parts) in
    let after = c.in_ok-entries.ensures ∙ ap (λ es. entries_after es document) (ap (λ v. entries_view v.items) c.into_parts-packages.ensures.entries) in
    let same = ap (λ es. with_metadata es lock) after ∙ described_is document taken (entries_view c.args.described.entries.items) described in
    subst (Gives Memory (λ read. (read.0, metadata_view read.1)) c.with_metadata.result) same gives
