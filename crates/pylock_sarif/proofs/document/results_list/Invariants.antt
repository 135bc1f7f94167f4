use Rattle.std.proofs.Common.{◌≡◌, map, take}
use Rattle.serde_json.specs.View.{view as data_of}
use Rattle.pylock_sarif.specs.Document.{result_data}
use Rattle.pylock_sarif.proofs.document.results_list.Given as goal

-- the results so far are in the list
abbrev pub invariant-loop-found : goal.invariant-loop-found
invariant-loop-found l = map data_of l.list ≡ map (result_data l.lock) (take l.found-index l.results)
