use Rattle.std.proofs.Common.{◌≡◌, ◌∙◌, ap, filter, option_copied, sym}
use Rattle.pyver_core.specs.Name.{normal_name}
use Rattle.pylock_advisories.specs.Evaluation.{affecting, version_in}
use Rattle.pylock_advisories.specs.Index.{names_package}
use Rattle.pylock_advisories.specs.Lent.{lent}
use Rattle.pylock_advisories.proofs.IndexLemmas.{all_told}
use Rattle.pylock_advisories.proofs.index.AdvisoryIndex.affecting.Goals as goal

pub returns : goal.returns
returns c =
    let named : c.as_str.result.now ≡ normal_name c.args.name.now = c.as_str.ensures ∙ c.in_ok-name.ensures in
    let name : c.as_str-2.result.now ≡ normal_name c.args.name.now = c.as_str-2.ensures ∙ c.in_ok-name.ensures in
    let parsed : option_copied c.as_ref.result ≡ version_in c.args.version.now = c.as_ref.ensures.value ∙ c.in_ok-parsed.ensures in
    c.in_ok-affecting.ensures
    ∙ all_told c.as_str-2.result.now c.args.version.now (option_copied c.as_ref.result) (lent c.under-under.result.now) c.args.self.now parsed
    (c.under-under.ensures ∙ ap (λ n. filter (names_package n) c.args.self.now) (named ∙ sym name))
    ∙ ap (λ n. affecting n c.args.version.now c.args.self.now) name
