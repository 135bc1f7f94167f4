use Rattle.std.proofs.Common.{◌≡◌, ◌∙◌, ◌≤◌, ◌++◌, length, take, refl, ap, rules, sym, arith}
use Rattle.std.specs.Prelude.{codes}
use Rattle.std.proofs.lemmas.List.{length-take-le, take_all}
use Rattle.pylock_run.proofs.FileLineLemmas.{marked, parts_joined, stands_behind, up_to}
use Rattle.pylock_run.proofs.text.file_line.put_marks.Goals as goal

pub returns : goal.returns
returns c =
    let old = take c.args.start c.args.line.now in
    let long : c.args.start ≡ length old = sym (length-take-le c.args.start c.args.line.now (omega arith)) in
    let p0 = stands_behind _ c.args.start _ old _ _ refl long c.requires.texts in
    let p1 = marked 45 9 _ _ _ _ _ _ _ p0 c.mark-at.ensures.end c.mark-at.ensures.line in
    let p2 = marked 45 9 _ _ _ _ _ _ _ p1 c.mark-at-2.ensures.end c.mark-at-2.ensures.line in
    let p3 = marked 45 9 _ _ _ _ _ _ _ p2 c.mark-at-3.ensures.end c.mark-at-3.ensures.line in
    let p4 = marked 45 9 _ _ _ _ _ _ _ p3 c.mark-at-4.ensures.end c.mark-at-4.ensures.line in
    let p5 = marked 45 9 _ _ _ _ _ _ _ p4 c.mark-at-5.ensures.end c.mark-at-5.ensures.line in
    let p6 = marked 45 9 _ _ _ _ _ _ _ p5 c.mark-at-6.ensures.end c.mark-at-6.ensures.line in
    let p7 = marked 45 61 _ _ _ _ _ _ _ p6 c.mark-at-7.ensures.end c.mark-at-7.ensures.line in
    let all : length c.put.new.line ≤ c.put.result = search rules in
    sym (take_all c.put.result c.put.new.line all)
    ∙ parts_joined 9 61 old _ _ _ _ _ _ _ _ _ _ _ _ _ _ _ _ _ _ refl refl refl refl refl refl refl refl
    (c.put.ensures.front ∙ ap (λ t. t ++ codes "\t-\t-\n") (up_to _ _ _ _ p7))
