use Rattle.std.proofs.Common.{◌≡◌, ◌∙◌, [], Ok, ap, flat_map, rules, string_bytes, sym}
use Rattle.pylock_exports.specs.Inner.{all_lent}
use Rattle.pylock_exports.specs.Lists.{source_lines, with_sources}
use Rattle.pylock_exports.specs.Texts.{lines_text}
use Rattle.pylock_exports.proofs.TextLemmas.{lines_each}
use Rattle.pylock_exports.proofs.lists.list_text.Goals as goal

pub returns : goal.returns
returns c =
    let kept : with_sources c.args.form [] (all_lent c.args.list.now) ≡ Ok (all_lent c.in_ok-kept.kept.items) = search rules in
    let text : string_bytes c.push_kept.new.text ≡ flat_map (λ s. lines_text (source_lines c.args.form s.source)) (all_lent c.in_ok-kept.kept.items) = search rules in
    rw kept (ap Ok (lines_each (λ s. source_lines c.args.form s.source) (all_lent c.in_ok-kept.kept.items) ∙ sym text))
