-- A character that is `:`.
use Rattle.std.proofs.Common.{◌≡◌, ◌∙◌, ℕ, Bool, Option, option_map, ap, sym}
use Rattle.std.proofs.lemmas.Iterator.Adapters.{option_map_id}
use Rattle.pylock_audit.specs.Unsafe.{is_colon}

pub is_colon_by : (test : Bool) (found wanted : Option ℕ) → test ≡ is_colon found → option_map (λ c. c) found ≡ wanted
    → test ≡ is_colon wanted
is_colon_by test found wanted is second = is ∙ ap is_colon (sym (option_map_id found) ∙ second)
