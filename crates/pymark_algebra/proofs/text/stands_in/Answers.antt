use Rattle.std.proofs.lemmas.Str.Pattern.{contains_text}
use Rattle.pymark_core.proofs.Lemmas.Marker.Value.Substrings.{substring_is}
use Rattle.pymark_algebra.proofs.text.stands_in.Goals as goal

pub returns : goal.returns
returns c = substring_is _ _ _ (contains_text _ c.args.part.now c.args.whole.now c.contains.ensures.cases)
