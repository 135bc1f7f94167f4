use Rattle.std.proofs.Common.{◌≡◌, map, take}
use Rattle.serde_json.specs.View.{view as data_of}
use Rattle.pylock_sarif.specs.Document.{rule_data}
use Rattle.pylock_sarif.proofs.document.rules_list.Given as goal

-- the rules so far are in the list
abbrev pub invariant-loop-rule : goal.invariant-loop-rule
invariant-loop-rule l = map data_of l.list ≡ map rule_data (take l.rule-index l.rules)
