use Rattle.std.proofs.Common.{◌∙◌, ◌++◌, ◌∷◌, ap}
use Rattle.std.specs.List.{flat_map}
use Rattle.std.proofs.lemmas.Result.{on_ok_weaker}
use Rattle.pylock_core.specs.Session.Picks.{lent_source, source_commit_id, source_file_name, source_hashes, source_location, source_subdirectory, source_vcs_kind}
use Rattle.pylock_run.specs.Text.Field.{field, fields_text}
use Rattle.pylock_values.specs.Picks.{hash_fields}
use Rattle.pylock_values.proofs.PicksLemmas.{one_given}
use Rattle.pylock_values.proofs.picks.push_source.Goals as goal

pub returns : goal.returns
returns c =
    let s = lent_source c.args.source in
    let hashes = flat_map hash_fields (source_hashes s) in
    let from_directory = field (source_subdirectory s) ∷ hashes in
    let from_commit = field (source_commit_id s) ∷ from_directory in
    let from_vcs = field (source_vcs_kind s) ∷ from_commit in
    let from_path = field (source_location s).path ∷ from_vcs in
    let from_url = field (source_location s).url ∷ from_path in
    on_ok_weaker c.push_hashes.result
    (λ more. one_given _ _ _ _ (source_file_name s) from_url c.file_name.ensures c.in_ok-push_next_field.ensures
    (one_given _ _ _ _ (source_location s).url from_path c.url.ensures c.in_ok-push_next_field-2.ensures
    (one_given _ _ _ _ (source_location s).path from_vcs c.path.ensures c.in_ok-push_next_field-3.ensures
    (one_given _ _ _ _ (source_vcs_kind s) from_commit c.vcs_kind.ensures c.in_ok-push_next_field-4.ensures
    (one_given _ _ _ _ (source_commit_id s) from_directory c.commit_id.ensures c.in_ok-push_next_field-5.ensures
    (one_given _ _ _ _ (source_subdirectory s) hashes c.subdirectory.ensures c.in_ok-push_next_field-6.ensures
    (more ∙ ap (λ pairs. c.push_next_field-6.new.out.items ++ fields_text (flat_map hash_fields pairs)) c.hashes.ensures)))))))
    c.push_hashes.ensures
