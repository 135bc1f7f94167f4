use Rattle.std.proofs.Common.{◌≡◌, ◌++◌, ◌∷◌, ◌∙◌, ℕ, List, Option, Some, ap}
use Rattle.std.specs.Prelude.{decimal}
use Rattle.pylock_core.specs.Session.Picks.{lent_source, source_word}
use Rattle.pylock_run.specs.Text.Field.{field}
use Rattle.pylock_values.specs.Picks.{place_text, source_fields}
use Rattle.pylock_values.proofs.PicksLemmas.{one_field, one_line}
use Rattle.pylock_values.proofs.picks.push_line.Goals as goal

pub returns : goal.returns
returns c =
    let s = lent_source c.args.source in
    let entry = c.args.entry.now in
    let kind : c.push_word.new.out.items ≡ c.push_decimal.new.out.items ++ 9 ∷ source_word s =
    c.in_ok-push_word.ensures ∙ ap (λ (t : List ℕ). c.push_decimal.new.out.items ++ 9 ∷ t) (c.as_bytes.ensures.value ∙ c.word.ensures) in
    let name : c.push_next_field.new.out.items ≡ c.push_place.new.out.items ++ 9 ∷ field (Some entry.name) =
    c.in_ok-push_next_field.ensures ∙ ap (λ (t : List ℕ). c.push_place.new.out.items ++ 9 ∷ field (Some t)) c.name.ensures in
    let version : c.push_next_field-2.new.out.items ≡ c.push_next_field.new.out.items ++ 9 ∷ field entry.version =
    c.in_ok-push_next_field-2.ensures ∙ ap (λ (t : Option (List ℕ)). c.push_next_field.new.out.items ++ 9 ∷ field t) c.version.ensures in
    let source = source_fields s in
    let from_version = field entry.version ∷ source in
    let from_name = field (Some entry.name) ∷ from_version in
    let from_place = place_text c.args.place ∷ from_name in
    one_line _ _ _ _ (decimal c.args.number) (source_word s ∷ from_place) c.in_ok-push_decimal.ensures
    (one_field _ _ _ (source_word s) from_place kind
    (one_field _ _ _ (place_text c.args.place) from_name c.in_ok-push_place.ensures
    (one_field _ _ _ (field (Some entry.name)) from_version name
    (one_field _ _ _ (field entry.version) source version c.in_ok-push_source.ensures))))
    c.in_ok-push.ensures.items
