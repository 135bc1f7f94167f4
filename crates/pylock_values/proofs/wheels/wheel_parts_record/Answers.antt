use Rattle.std.proofs.Common.{◌≡◌, ◌++◌, Some, rules}
use Rattle.std.specs.List.{flat_map}
use Rattle.pyver_core.specs.Name.{normal_name}
use Rattle.pyver_core.specs.Version.Normal.{normal_text}
use Rattle.pylock_run.specs.Text.Field.{field}
use Rattle.pylock_values.specs.Record.{next_field}
use Rattle.pylock_values.specs.Tags.{tag_field}
use Rattle.pylock_values.specs.WheelParts.{build_parts}
use Rattle.pylock_values.proofs.TagsLemmas.{pushed_record}
use Rattle.pylock_values.proofs.wheels.wheel_parts_record.Goals as goal

pub returns : goal.returns
returns c =
    let wheel = c.args.wheel.now in
    let name : c.push_field.new.out.items ≡ field (Some (normal_name wheel.name)) = search rules in
    let version : c.push_next_field.new.out.items ≡ c.push_field.new.out.items ++ next_field (Some (normal_text wheel.version)) = search rules in
    let build : c.push_build.new.out.items ≡ c.push_next_field.new.out.items ++ flat_map next_field (build_parts wheel.build) = search rules in
    let tags : c.push_tags.new.out.items ≡ c.push_build.new.out.items ++ flat_map tag_field wheel.tags = search rules in
    pushed_record (Some (normal_name wheel.name)) (Some (normal_text wheel.version)) (build_parts wheel.build) wheel.tags _ _ _ _ name version build tags
