use Rattle.std.proofs.Common.{◌≡◌, ap, sym, ◌∙◌, rules}
use Rattle.std.specs.Prelude.{ok_or, Ok, Some, None}
use Rattle.std.proofs.lemmas.Result.{err_from_is_err_and}
use Rattle.pymark_core.proofs.Lemmas.Building.Kept.{kept_end, kept_step}
use Rattle.pymark_core.proofs.Lemmas.Marker.Token.Tokens.{front_less, read_tokens_next, read_tokens_bad, read_tokens_end, read_tokens_stuck}
use Rattle.pymark_core.specs.Inner.Building.{state_view}
use Rattle.pymark_core.specs.Inner.LentToken.{next_token, token_view}
use Rattle.pymark_core.specs.Marker.Reading.{final_tree}
use Rattle.pymark_core.specs.Marker.View.{tree_view}
use Rattle.pymark_core.specs.declared.marker.error.MarkerError.TheVariants.{Syntax}
use Rattle.pymark_core.proofs.marker.parse.read_tree.Goals as goal

pub returns-in_err-token-clause-tree : goal.returns-in_err-token-clause-tree
returns-in_err-token-clause-tree c =
    let state = state_view c.loop-stage.builder c.loop-stage.stage in
    let p = err_from_is_err_and c.from_residual.result c.from_residual.ensures.1 in
    rw (p.1, p.2) (λ e. ap (λ o. ok_or o Syntax) (sym c.loop-stage.invariant.tree) ∙ read_tokens_bad state c.in_err-token.field-0.0 c.loop-stage.rest.now (c.in_err-token.ensures e))

pub returns-in_err-stage-clause-tree : goal.returns-in_err-stage-clause-tree
returns-in_err-stage-clause-tree c =
    let state = state_view c.loop-stage.builder c.loop-stage.stage in
    let p = err_from_is_err_and c.from_residual-in_err-stage.result c.from_residual-in_err-stage.ensures.1 in
    rw (p.1, p.2) (λ e. ap (λ o. ok_or o Syntax) (sym c.loop-stage.invariant.tree)
    ∙ read_tokens_stuck state c.in_err-stage.field-0.0 (token_view c.in-Some.token) c.loop-stage.rest.now c.in-Some.after.now (search rules) (c.in_err-stage.ensures.state e))

pub loop-stage-smaller : goal.loop-stage-smaller
loop-stage-smaller c = front_less c.loop-stage.rest.now (token_view c.in-Some.token) c.in-Some.after.now (search rules)

pub loop-stage-preserved : goal.loop-stage-preserved
loop-stage-preserved c =
    let before = state_view c.loop-stage.builder c.loop-stage.stage in
    let next = state_view c.take_token.new.self c.in_ok-stage.stage in
    let front : ok_or (next_token c.loop-stage.rest.now) Syntax ≡ Ok (Some (token_view c.in-Some.token, c.in-Some.after.now)) = search rules in
    record {
      tree = read_tokens_next before next (token_view c.in-Some.token) c.loop-stage.rest.now c.in-Some.after.now front c.in_ok-stage.ensures.state ∙ c.loop-stage.invariant.tree;
      kept = kept_step c.loop-stage.notes c.take_token.new.notes before next (token_view c.in-Some.token) c.loop-stage.invariant.kept c.in_ok-stage.ensures.state c.in_ok-stage.ensures.notes;
      utf8 = search rules;
    }

pub returns-in-Some-final_tree-clause-tree : goal.returns-in-Some-final_tree-clause-tree
returns-in-Some-final_tree-clause-tree c =
    let state = state_view c.loop-stage.builder c.loop-stage.stage in
    let front : ok_or (next_token c.loop-stage.rest.now) Syntax ≡ Ok None = search rules in
    let end : final_tree state ≡ Some (tree_view c.in-Some-final_tree.tree) = sym c.in-Some-final_tree.ensures in
    ap (λ o. ok_or o Syntax) (sym c.loop-stage.invariant.tree ∙ read_tokens_end state c.loop-stage.rest.now front ∙ end)

pub returns-in-Some-final_tree-clause-notes : goal.returns-in-Some-final_tree-clause-notes
returns-in-Some-final_tree-clause-notes c =
    let state = state_view c.loop-stage.builder c.loop-stage.stage in
    kept_end c.loop-stage.notes state (tree_view c.in-Some-final_tree.tree) c.loop-stage.invariant.kept (sym c.in-Some-final_tree.ensures)

pub returns-in-None-clause-tree : goal.returns-in-None-clause-tree
returns-in-None-clause-tree c = λ e.
    let state = state_view c.loop-stage.builder c.loop-stage.stage in
    let front : ok_or (next_token c.loop-stage.rest.now) Syntax ≡ Ok None = search rules in
    let end : final_tree state ≡ None = sym c.in-None.ensures in
    ap (λ o. ok_or o Syntax) (sym c.loop-stage.invariant.tree ∙ read_tokens_end state c.loop-stage.rest.now front ∙ end)
