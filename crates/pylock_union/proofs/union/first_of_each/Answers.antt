use Rattle.std.proofs.Common.{◌≡◌, ◌∙◌, ◌+◌, ◌∷◌, [], ◌++◌, ap, drop, false, not, sym, take, true}
use Rattle.std.proofs.lemmas.Bool.{not-true, not-false}
use Rattle.std.proofs.lemmas.List.{map-append}
use Rattle.std.specs.List.{list_any}
use Rattle.pylock_compare.proofs.KeyLemmas.{any_grown, any_mapped}
use Rattle.pylock_compare.specs.Texts.{are_alike}
use Rattle.pylock_union.specs.Listed.{LockSourceValue, all_lent, lent}
use Rattle.pylock_union.specs.Union.{file_key, firsts_after, is_same_file}
use Rattle.pylock_union.specs.declared.listed.LockSource.{LockSource}
use Rattle.pylock_union.proofs.FirstLemmas.{again, first_more, next_mapped, taken_mapped}
use Rattle.pylock_union.proofs.union.first_of_each.Goals.{then-branch+in_ok-push, else-branch}
use Rattle.pylock_union.proofs.union.first_of_each.Goals as goal

pub loop-source-preserved : goal.loop-source-preserved
loop-source-preserved c =
    let list = c.args.list.now in
    let place = c.loop-source.source-index in
    let one = c.source-item.result in
    let key = c.in_ok-file_key.field-0 in
    let so_far = all_lent c.loop-source.firsts.items in
    let before = all_lent (take place list) in
    let rest = all_lent (drop (place + 1) list) in
    let front = next_mapped lent list place one c.loop-source-test.true c.source-item.is in
    let grown = taken_mapped lent list place one c.loop-source-test.true c.source-item.is in
    let told : c.in_ok-insert.field-0 ≡ not (list_any (is_same_file (lent one)) before) =
    c.in_ok-insert.ensures.added ∙ ap not (c.loop-source.invariant.1 key)
    ∙ ap (λ k. not (list_any (λ (other : LockSourceValue). are_alike k (file_key other.source)) before)) c.in_ok-file_key.ensures in
    let left : so_far ++ firsts_after before (lent one ∷ rest) ≡ firsts_after [] (all_lent list) =
    ap (λ ones. so_far ++ firsts_after before ones) (sym front) ∙ c.loop-source.invariant.0 in (
      elim c.if-branch.branch [
        | then-branch+in_ok-push w ↦
            ap (λ firsts. all_lent firsts.items ++ firsts_after (all_lent (take (place + 1) list)) rest) w.firsts-is
            ∙ ap (λ firsts. all_lent firsts ++ firsts_after (all_lent (take (place + 1) list)) rest) w.in_ok-push.ensures.items
            ∙ ap (λ firsts. firsts ++ firsts_after (all_lent (take (place + 1) list)) rest) (map-append lent c.loop-source.firsts.items (one ∷ []))
            ∙ ap (λ ones. (so_far ++ lent one ∷ []) ++ firsts_after ones rest) grown
            ∙ first_more so_far before rest (lent one) (not-true _ (sym told ∙ w.if-branch.true)) ∙ left
        | else-branch w ↦
            ap (λ firsts. all_lent firsts.items ++ firsts_after (all_lent (take (place + 1) list)) rest) w.firsts-is
            ∙ ap (λ ones. so_far ++ firsts_after ones rest) grown
            ∙ again so_far before rest (lent one) (not-false _ (sym told ∙ w.if-branch.false)) ∙ left
      ],
      λ key_asked.
          any_grown key_asked key c.loop-source.seen.keys c.insert.new.self.keys false (λ (s : LockSource). are_alike key_asked (file_key (lent s).source))
          list place one c.loop-source-test.true c.in_ok-insert.ensures.keys
          (ap (are_alike key_asked) c.in_ok-file_key.ensures ∙ ap (λ (s : LockSource). are_alike key_asked (file_key (lent s).source)) c.source-item.is)
          (c.loop-source.invariant.1 key_asked ∙ any_mapped (λ (s : LockSourceValue). are_alike key_asked (file_key s.source)) lent (take place list))
          ∙ sym (any_mapped (λ (s : LockSourceValue). are_alike key_asked (file_key s.source)) lent (take (place + 1) list)),
    )
