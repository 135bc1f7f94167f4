use Rattle.std.proofs.Common.{◌≡◌, ◌∙◌, ◌++◌, ◌∷◌, ◌+◌, [], ap, append_assoc, sym, take}
use Rattle.std.proofs.lemmas.List.{take_all, take_more}
use Rattle.pylock_readers.specs.Entry.{FileValue}
use Rattle.pylock_audit.specs.Entry.{same_names, with_names}
use Rattle.pylock_audit.proofs.NameLemmas.{same_name, same_names_more, with_names_more}
use Rattle.pylock_audit.proofs.files.push_same_names.Goals as goal

pub loop-file-preserved : goal.loop-file-preserved
loop-file-preserved c = λ names holds.
    let files = take c.loop-file.file-index c.args.files.now in
    let next : take (c.loop-file.file-index + 1) c.args.files.now ≡ files ++ c.file-item.result ∷ [] =
    take_more c.args.files.now c.loop-file.file-index c.file-item.result c.loop-file-test.true
    ∙ ap (λ (file : FileValue). files ++ file ∷ []) (sym c.file-item.is) in
    let so_far = c.loop-file.invariant names holds in
    let earlier = with_names files names in
    let front = c.args.list.now.items in (
      rw (next, with_names_more files c.file-item.result names) (c.in_ok-push_same_name.ensures.earlier earlier so_far.0),
      c.in_ok-push_same_name.ensures.list earlier so_far.0
          ∙ ap (λ list. list ++ same_name earlier c.file-item.result) so_far.1
          ∙ append_assoc front (same_names names files) (same_name earlier c.file-item.result)
          ∙ ap (λ more. front ++ more) (sym (same_names_more files c.file-item.result names))
          ∙ ap (λ files. front ++ same_names names files) (sym next),
    )

pub returns-clause-list : goal.returns-clause-list
returns-clause-list c = λ names holds.
    let all = take_all c.loop-file.file-index c.args.files.now c.loop-file-test.false in
    (c.loop-file.invariant names holds).1 ∙ ap (λ files. c.args.list.now.items ++ same_names names files) all

pub returns-clause-earlier : goal.returns-clause-earlier
returns-clause-earlier c = λ names holds.
    let all = take_all c.loop-file.file-index c.args.files.now c.loop-file-test.false in
    rw (← all) (c.loop-file.invariant names holds).0
