use Rattle.std.proofs.Common.{[], ◌≡◌, ◌∙◌, ◌++◌, ◌∷◌, None, Ok, Some, ap, option_copied, option_map, rules, string_bytes, subst, sym}
use Rattle.std.proofs.lemmas.List.{map-append}
use Rattle.std.proofs.lemmas.Map.Text.{btree_map_updates_text}
use Rattle.std.specs.BTreeMap.{get_by_text}
use denote.Ref.{Bor}
use Rattle.std.specs.Prelude.{ℕ, List}
use Rattle.pylock_exports.specs.Inner.{all_lent, Holds, lent}
use Rattle.pylock_exports.specs.Lists.{key_of, list_check, value_named}
use Rattle.pylock_exports.specs.Parts.{at_number}
use Rattle.pylock_exports.proofs.KeptLemmas.{holds_more, kept_again, kept_newly}
use Rattle.pylock_exports.proofs.lists.keep_named.Goals as goal

-- what is found under the key
abbrev shown : Bor (List ℕ) → List ℕ
shown value = value.now

pub returns-in_ok-push-in-None-clause-holds : goal.returns-in_ok-push-in-None-clause-holds
returns-in_ok-push-in-None-clause-holds c =
    let kept = all_lent c.args.kept.now.items in
    let updated = btree_map_updates_text (string_bytes c.args.key) c.args.values.now c.insert.new.self _ c.in_ok-insert-in-None.ensures.updates in
    let items : c.push.new.self.items ≡ c.args.kept.now.items ++ c.args.listed.now ∷ [] = search rules in
    let pushed : all_lent c.push.new.self.items ≡ kept ++ lent c.args.listed.now ∷ [] = ap all_lent items ∙ map-append lent c.args.kept.now.items (c.args.listed.now ∷ []) in
    let none : value_named c.args.format (string_bytes c.args.key) kept ≡ None =
    ap (λ key. value_named c.args.format key kept) (sym c.as_str-2.ensures.value) ∙ sym (c.requires.holds c.as_str-2.result.now)
    ∙ ap (option_map shown) (sym c.get.ensures.value ∙ ap option_copied c.in-None.is) in
    subst (Holds c.args.format (get_by_text c.insert.new.self)) (sym pushed)
    (holds_more c.args.format (get_by_text c.args.values.now) (get_by_text c.insert.new.self) kept (lent c.args.listed.now) (string_bytes c.args.key) c.value_of-value.result
    c.requires.named c.value_of-value.ensures updated none c.requires.holds)

pub returns-in_ok-push-in-None-clause-kept : goal.returns-in_ok-push-in-None-clause-kept
returns-in_ok-push-in-None-clause-kept c =
    let s = lent c.args.listed.now in
    let kept = all_lent c.args.kept.now.items in
    let taken : at_number s.number (list_check c.args.format s.source) ≡ Ok tt = search rules in
    let items : c.push.new.self.items ≡ c.args.kept.now.items ++ c.args.listed.now ∷ [] = search rules in
    let pushed : all_lent c.push.new.self.items ≡ kept ++ s ∷ [] = ap all_lent items ∙ map-append lent c.args.kept.now.items (c.args.listed.now ∷ []) in
    let none : value_named c.args.format (key_of c.args.format s.source) kept ≡ None =
    ap (λ key. value_named c.args.format key kept) (sym (c.as_str-2.ensures.value ∙ c.requires.named)) ∙ sym (c.requires.holds c.as_str-2.result.now)
    ∙ ap (option_map shown) (sym c.get.ensures.value ∙ ap option_copied c.in-None.is) in
    kept_newly c.args.format kept (all_lent c.push.new.self.items) s c.requires.held taken none pushed

pub returns-in-Some-clause-kept : goal.returns-in-Some-clause-kept
returns-in-Some-clause-kept c =
    let s = lent c.args.listed.now in
    let kept = all_lent c.args.kept.now.items in
    let taken : at_number s.number (list_check c.args.format s.source) ≡ Ok tt = search rules in
    let named : value_named c.args.format (key_of c.args.format s.source) kept ≡ Some c.in-Some.known.now.now =
    ap (λ key. value_named c.args.format key kept) (sym (c.as_str-2.ensures.value ∙ c.requires.named)) ∙ sym (c.requires.holds c.as_str-2.result.now)
    ∙ ap (option_map shown) (sym c.get.ensures.value ∙ ap option_copied c.in-Some.is) in
    kept_again c.args.format kept s c.in-Some.known.now.now c.at_number.result c.requires.held taken named (search rules)
