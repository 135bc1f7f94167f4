use Rattle.std.proofs.Common.{◌≡◌, ◌++◌, ◌∙◌, List, ℕ, Some, ap, drop, map}
use Rattle.std.specs.Prelude.{option_map}
use Rattle.std.specs.List.{flat_map}
use Rattle.pywheel_core.specs.Tag.{TagParts, pieces, tags_in}
use Rattle.pywheel_core.specs.Texts.{three_parts}
use Rattle.pylock_values.specs.Record.{record_of}
use Rattle.pylock_values.specs.Tags.{python_fields, tag_part}
use Rattle.pylock_values.proofs.TagsLemmas.{tags_record_is}
use Rattle.pylock_values.proofs.tags.tags_record.Goals as goal

pub returns : goal.returns
returns c =
    let parts : TagParts = (c.in-Some.pythons.now, c.in-Some.abis.now, c.in-Some.platforms.now) in
    let cut : Some parts ≡ three_parts 45 c.args.text.now = c.in-Some.ensures in
    let fields : c.push_pythons.new.out.items ≡ flat_map (python_fields (pieces parts.1) (pieces parts.2)) (pieces parts.0) =
    c.in_ok-push_pythons.ensures
    ∙ ap (λ (t : List ℕ). t ++ flat_map (python_fields (pieces parts.1) (pieces parts.2)) (pieces parts.0)) c.new-fields.ensures.items in
    let made : c.in_ok-without_first.field-0.items ≡ drop 1 c.deref.result.now = c.in_ok-without_first.ensures in
    ap Some (made ∙ ap (drop 1) (c.deref.ensures.value ∙ fields) ∙ tags_record_is parts)
    ∙ ap (option_map (λ (p : TagParts). record_of (map tag_part (tags_in p)))) cut
