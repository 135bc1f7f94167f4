use Rattle.std.proofs.Common.{◌∙◌, ℕ, List, ap, filter}
use Rattle.std.specs.List.{flat_map}
use Rattle.pylock_core.specs.declared.fate.Fate.{Fate}
use Rattle.pylock_core.specs.declared.answer.Pick.{Pick}
use Rattle.pylock_matrix.specs.Files.{picks_of}
use Rattle.pylock_matrix.specs.Inner.Taken.{is_taken}
use Rattle.pylock_matrix.proofs.FilesLemmas.{all_taken, if_ok_also}
use Rattle.pylock_matrix.proofs.files.taken_sources.Goals as goal

pub returns : goal.returns
returns c =
    let among : List (ℕ × Fate) → List Pick = λ fates. flat_map (λ f. filter (is_taken c.args.taken.now) (picks_of c.args.session.now.state f.0)) fates in
    if_ok_also c.taken_among.result
    (λ picks found. found ∙ ap among (c.as_slice.ensures.value ∙ c.in_ok-fates.ensures) ∙ all_taken c.args.taken.now c.args.session.now.state)
    c.taken_among.ensures
