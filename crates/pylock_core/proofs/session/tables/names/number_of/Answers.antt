use Rattle.std.proofs.Common.{rules, ◌≡◌, Some, ◌∙◌, ◌++◌, ◌∷◌, [], ap, cond, string_bytes, length}
use Rattle.std.specs.Str.{bytes_eq}
use Rattle.std.proofs.lemmas.Map.Text.{btree_map_updates_text}
use Rattle.pylock_core.specs.Inner.Tables.Names.{number_named}
use Rattle.pylock_core.specs.declared.edit.Policy.TheVariants.{Any}
use Rattle.pylock_core.proofs.Lemmas.Tables.Names.{Grown, gains, gains_keeps, grown_members, grown_policies, grown_is}
use Rattle.pylock_core.proofs.session.tables.names.number_of.Goals as goal
use Rattle.pylock_core.proofs.session.tables.names.number_of.Goals.{After-push_within-2}

grown : (c : After-push_within-2) → Grown c.args.names.now (record { numbers = c.give_number.new.numbers; policies = c.push_within.new.items; members = c.push_within-2.new.items }) c.args.name.now c.new.result
grown c =
    let old = c.args.names.now in
    let name = c.args.name.now in
    let number : c.len-number.result ≡ length old.policies.items = c.len-number.ensures ∙ old.policies.ok.0 in
    let updated = btree_map_updates_text (string_bytes c.in_ok-key.key) old.numbers c.give_number.new.numbers _ c.in_ok-give_number.ensures.given in
    record {
      numbers = gains (number_named old) _ name (length old.policies.items) (λ q. updated q ∙ ap (λ key. cond (bytes_eq key q) (Some c.len-number.result) (number_named old q)) c.in_ok-key.ensures.ok ∙ ap (λ n. cond (bytes_eq name q) (Some n) (number_named old q)) number);
      absent = search rules;
      policies = c.push_within.ensures.items ∙ ap (λ ps. ps ++ Any ∷ []) c.in_ok-reserve.ensures.items;
      members = c.push_within-2.ensures.items ∙ ap (λ ms. ms ++ c.new.result ∷ []) c.in_ok-reserve-2.ensures.items;
      empty = c.new.ensures.items;
    }

pub returns-clause-kept : goal.returns-clause-kept
returns-clause-kept c =
    let g = grown c in
    record {
      numbers = gains_keeps (number_named c.args.names.now) _ c.args.name.now _ g.numbers g.absent;
      policies = grown_policies _ _ _ _ c.requires g;
      members = grown_members _ _ _ _ c.requires g;
      is = grown_is _ _ _ _ c.requires g;
    }
