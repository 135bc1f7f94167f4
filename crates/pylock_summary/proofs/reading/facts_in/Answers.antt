use Rattle.std.proofs.Common.{◌∙◌, ap, codes, option_and_then, refl, subst, sym}
use Rattle.toml.specs.Data.{as_str}
use Rattle.toml.specs.View.{table_view}
use Rattle.pytext.specs.Agreement.{Gives}
use Rattle.pytoml.specs.Members.{with_elements}
use Rattle.pytoml.proofs.Others.{with_elements-other}
use Rattle.pylock_readers.specs.Lock.Reading.{lock_in}
use Rattle.pylock_readers.specs.declared.error.LockError.TheVariants.{Memory}
use Rattle.pylock_summary.specs.Summary.{summary_in, with_facts}
use Rattle.pylock_summary.proofs.reading.facts_in.Goals as goal

pub returns : goal.returns
unfolding summary_in
returns c = λ taken read.
    let document = table_view c.args.document in
    let lock = lock_in (with_elements (codes "packages") taken document) in
    let gives = c.with_facts.ensures lock (c.into_lock.ensures taken read) in
    let creator = c.in_ok-creator.ensures
    ∙ sym (ap (option_and_then as_str) (with_elements-other (codes "created-by") (codes "packages") taken document refl)) in
    subst (Gives Memory (λ facts. facts.items) c.with_facts.result) (ap (λ creator. with_facts creator lock) creator) gives
