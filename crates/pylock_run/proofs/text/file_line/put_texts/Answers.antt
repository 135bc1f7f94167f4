use Rattle.std.proofs.Common.{◌∙◌, ◌≤◌, length, rules, sym}
use Rattle.std.proofs.lemmas.List.{take_all}
use Rattle.pylock_run.proofs.FileLineLemmas.{parts_joined}
use Rattle.pylock_run.proofs.text.file_line.put_texts.Goals as goal

pub returns : goal.returns
returns c =
    let all : length c.put.new.line ≤ c.put.result = search rules in
    sym (take_all c.put.result c.put.new.line all)
    ∙ parts_joined 45 45 _ _ _ _ _ _ _ _ _ _ _ _ _ _ _ _ _ _ _ c.put-at.ensures.front c.put_after-at.ensures.front
    c.put_after-at-2.ensures.front c.put_after-at-3.ensures.front c.put_after-at-4.ensures.front c.put_after-at-5.ensures.front
    c.put_after-at-6.ensures.front c.put_after-at-7.ensures.front c.put.ensures.front
