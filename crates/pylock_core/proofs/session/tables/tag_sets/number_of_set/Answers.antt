use Rattle.std.proofs.Common.{rules, ◌≡◌, ◌∙◌, Some, None, ap, cond, string_bytes}
use Rattle.std.specs.BTreeMap.{btree_map_len, get_by_text}
use Rattle.std.specs.Str.{bytes_eq}
use Rattle.std.proofs.lemmas.Map.Text.{btree_map_updates_text}
use Rattle.pylock_core.specs.Inner.Tables.TagSets.{set_number}
use Rattle.pylock_core.proofs.Lemmas.Tables.Names.{gains, gains_keeps, gains_numbering}
use Rattle.pylock_core.proofs.session.tables.tag_sets.number_of_set.Goals as goal

pub returns-clause-kept : goal.returns-clause-kept
returns-clause-kept c =
    let old = set_number c.args.sets.now in
    let new = get_by_text c.give_number.new.numbers in
    let set = c.args.set.now in
    let count = btree_map_len c.args.sets.now.numbers in
    let absent : old set ≡ None = search rules in
    let updated = btree_map_updates_text (string_bytes c.in_ok-key.key) c.args.sets.now.numbers c.give_number.new.numbers _ c.in_ok-give_number.ensures.given in
    let gained = gains old new set count (λ q. updated q ∙ ap (λ key. cond (bytes_eq key q) (Some c.len-number.result) (old q)) c.in_ok-key.ensures.ok
    ∙ ap (λ n. cond (bytes_eq set q) (Some n) (old q)) c.len-number.ensures.len) in
    record {
      numbers = gains_keeps old new set count gained absent;
      is = gains_numbering old new set count (btree_map_len c.give_number.new.numbers) gained (c.in_ok-give_number.ensures.len (ap old c.in_ok-key.ensures.ok ∙ absent)) c.requires;
    }
