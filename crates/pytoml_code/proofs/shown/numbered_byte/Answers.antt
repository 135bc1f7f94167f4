use Rattle.pytoml_code.proofs.NumberLemmas.{number_read}
use Rattle.pytoml_code.proofs.shown.numbered_byte.Goals as goal

pub returns-in-len4-up-clause-read : goal.returns-in-len4-up-clause-read
returns-in-len4-up-clause-read c = number_read c.args.bytes.now c.byte_value.result _ _ c.in-len4-up.len_at_least c.byte_value.ensures
