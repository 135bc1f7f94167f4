use Rattle.std.proofs.Common.{rules, ◌≡◌, false, option_map, sym, ◌∙◌}
use Rattle.std.specs.Prelude.{codes}
use Rattle.std.specs.Str.{bytes_eq}
use Rattle.pymark_core.specs.Variables.{variable_of}
use Rattle.pymark_core.specs.declared.operand.Operand.TheVariants.{Variable}
use Rattle.pymark_core.proofs.Lemmas.Building.Steps.{other_way, word_is_variable}
use Rattle.pymark_core.proofs.marker.builder.word_operand.Goals as goal

pub returns : goal.returns
returns c =
    let letters = c.args.letters.now in
    let a : bytes_eq letters (codes "extra") ≡ false = sym c.eq.ensures ∙ c.if-eq.false in
    let b : bytes_eq letters (codes "extras") ≡ false = sym c.eq-2.ensures ∙ c.if-eq-2.false in
    let d : bytes_eq letters (codes "dependency_groups") ≡ false = sym c.eq-3.ensures ∙ c.if-eq-3.false in
    (let found : c.map.result ≡ option_map Variable (variable_of letters) = search rules in found) ∙ sym (word_is_variable letters (other_way letters (codes "extra") a) (other_way letters (codes "extras") b) (other_way letters (codes "dependency_groups") d))
