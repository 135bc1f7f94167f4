use Rattle.std.proofs.Common.{◌++◌, ◌∙◌, ap, string_bytes}
use Rattle.std.proofs.lemmas.Iterator.Consumers.{YieldsList-end, YieldsList-from_first}
use Rattle.pylock_environments.specs.Detail.{name_words}
use Rattle.pylock_environments.proofs.shell.push_names.Goals as goal

pub returns : goal.returns
returns c =
    let end = YieldsList-end (YieldsList-from_first (λ name. name.now) (λ rest. rest) c.args.names cc) c.loop-name.yielded _
    c.loop-name.yielded_by _ _ c.in-None.is c.next.ensures.steps in
    c.loop-name.invariant ∙ ap (λ names. string_bytes c.args.out.now ++ name_words c.args.option.now names) end.0
