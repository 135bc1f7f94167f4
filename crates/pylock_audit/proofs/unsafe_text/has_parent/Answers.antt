use Rattle.std.proofs.Common.{rules, tests}
use Rattle.std.proofs.lemmas.Iterator.Search.{any_from_yields_List}
use Rattle.std.proofs.lemmas.Iterator.Splits.{YieldsList-from_slice_split}
use Rattle.pylock_readers.specs.Entry.FileName.{ends_segment}
use Rattle.pylock_audit.specs.Unsafe.{is_folder_above}
use Rattle.pylock_audit.proofs.unsafe_text.has_parent.Goals as goal

pub returns : goal.returns
returns c =
    any_from_yields_List is_folder_above _ _ c.any.result c.any.ensures.ran
    (YieldsList-from_slice_split _ ends_segment c.args.text.now c.split.ensures.rest c.split.ensures.done c.split.ensures.closure (λ x b q k. search (rules, tests)))
    (λ x b q k. search (rules, tests))
