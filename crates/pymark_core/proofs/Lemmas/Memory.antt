-- No definition answers out of memory.
use Rattle.std.proofs.Common.{◌≡◌, ℕ, List, [], ◌∷◌, take, drop, Option, Some, None, ok_or, Result, Ok, Err}
use Rattle.std.specs.Prelude.{◌==◌}
use Rattle.std.specs.List.{list_all, prefix_len, slice_split}
use Rattle.pytext.proofs.NeverLemmas.{Never, never_cond, never_err, never_or, never_then}
use Rattle.pytext.specs.Bytes.{is_name_byte, is_white}
use Rattle.pyver_core.specs.Name.{is_name}
use Rattle.pyver_core.specs.Parsed.{parsed_set}
use Rattle.pytext.specs.Results.{◌>>=◌}
use Rattle.pytext.specs.White.{after_white, trim_white}
use Rattle.pymark_core.specs.Environment.{EnvironmentValue, variable_in}
use Rattle.pymark_core.specs.Marker.Depth.{is_deep}
use Rattle.pymark_core.specs.Marker.Grammar.{has_misuse}
use Rattle.pymark_core.specs.Marker.Reading.{marker_from, marker_of, tree_text}
use Rattle.pymark_core.specs.Marker.Tree.{Tree}
use Rattle.pymark_core.specs.Marker.Value.{operand_text, value_with}
use Rattle.pymark_core.proofs.Lemmas.Marker.Value.Refusals.{value_never}
use Rattle.pymark_core.specs.Requirement.Reading.{cut_around, after_byte, cut_or_whole, cut_source, extra_in, extras_at, extras_after_bracket, extras_from, extras_in, marker_in, marker_text_at, name_at, names_in, refused_as, requirement_of, set_source, source_at, source_from, url_len, url_source, within_parentheses}
use Rattle.pymark_core.specs.declared.fault.EvalFault.TheVariants as fault
use Rattle.pymark_core.specs.declared.marker.error.MarkerError.TheVariants as marker
use Rattle.pymark_core.specs.declared.operand.Operand.{Operand}
use Rattle.pymark_core.specs.declared.operand.Operand.TheVariants.{Text, Variable, Extra, Extras, Groups}
use Rattle.pymark_core.specs.declared.requirement.error.RequirementError.{RequirementError}
use Rattle.pymark_core.specs.declared.requirement.error.RequirementError.TheVariants as refusal

-- ---- markers

from_never_memory : (text : List ℕ) (tree : Option Tree) → Never marker.Memory (marker_from text tree)
from_never_memory text None = λ e. cc e
from_never_memory text (Some tree) =
    never_cond marker.Memory (has_misuse tree) (Err marker.SetMisuse) (Ok (record { text = trim_white text; tree = tree })) (λ e. cc e) (λ e. cc e)

pub marker_never_memory : (text : List ℕ) → Never marker.Memory (marker_of text)
unfolding marker_of
marker_never_memory text =
    never_cond marker.Memory (is_deep text) (Err marker.TooDeep) (marker_from text (tree_text text)) (λ e. cc e) (from_never_memory text (tree_text text))

-- ---- values

operand_never_memory : (extra : Option (List ℕ)) (environment : EnvironmentValue) (o : Operand) → Never fault.Memory (operand_text extra environment o)
operand_never_memory extra environment (Variable v) = never_or fault.Memory (fault.Unset v) (variable_in v environment) (λ e. cc e)
operand_never_memory extra environment Extra = never_or fault.Memory fault.Extra extra (λ e. cc e)
operand_never_memory extra environment o = λ e. cc e

pub value_never_memory : (extra : Option (List ℕ)) (environment : EnvironmentValue) (t : Tree) → Never fault.Memory (value_with extra environment t)
value_never_memory extra environment t = value_never fault.Memory extra environment (λ e. cc e) (λ e. cc e) (operand_never_memory extra environment) t

-- ---- requirements

refused_never_memory : {X E : Type 0} (other : RequirementError) (r : Result X E) → (other ≡ refusal.Memory → ⊥) → Never refusal.Memory (refused_as other r)
refused_never_memory other (Ok x) differ = λ e. cc e
refused_never_memory other (Err f) differ = never_err refusal.Memory other differ

name_never_memory : (text : List ℕ) → Never refusal.Memory (name_at text)
unfolding name_at
name_never_memory text =
    let run = prefix_len is_name_byte text in
    never_cond refusal.Memory (is_name (take run text)) (Ok (take run text, drop run text)) (Err refusal.Name) (λ e. cc e) (λ e. cc e)

extra_never_memory : (piece : List ℕ) → Never refusal.Memory (extra_in piece)
extra_never_memory piece = never_cond refusal.Memory (is_name (trim_white piece)) (Ok (trim_white piece)) (Err refusal.Extras) (λ e. cc e) (λ e. cc e)

names_never_memory : (pieces : List (List ℕ)) → Never refusal.Memory (names_in pieces)
unfolding names_in
names_never_memory [] = λ e. cc e
names_never_memory (piece ∷ rest) =
    never_then refusal.Memory (extra_in piece) (λ name. names_in rest >>= λ others. Ok (name ∷ others)) (extra_never_memory piece)
    (λ name. never_then refusal.Memory (names_in rest) (λ others. Ok (name ∷ others)) (names_never_memory rest) (λ others e. cc e))

extras_in_never_memory : (inner : List ℕ) → Never refusal.Memory (extras_in inner)
extras_in_never_memory inner =
    never_cond refusal.Memory (list_all is_white inner) (Ok []) (names_in (slice_split (λ b. b == 44) inner)) (λ e. cc e)
    (names_never_memory (slice_split (λ b. b == 44) inner))

extras_never_memory : (text : List ℕ) (found : Option (List ℕ)) → Never refusal.Memory (extras_from text found)
unfolding extras_after_bracket
extras_never_memory text None = λ e. cc e
extras_never_memory text (Some rest) =
    never_then refusal.Memory (ok_or (cut_around 93 rest) refusal.Extras) (λ cut. extras_in cut.0 >>= λ extras. Ok (extras, cut.1))
    (never_or refusal.Memory refusal.Extras (cut_around 93 rest) (λ e. cc e))
    (λ cut. never_then refusal.Memory (extras_in cut.0) (λ extras. Ok (extras, cut.1)) (extras_in_never_memory cut.0) (λ extras e. cc e))

extras_at_never_memory : (text : List ℕ) → Never refusal.Memory (extras_at text)
unfolding extras_at
extras_at_never_memory text = extras_never_memory text (after_byte 91 text)

marker_text_never_memory : (text : List ℕ) → Never refusal.Memory (marker_text_at text)
marker_text_never_memory [] = λ e. cc e
marker_text_never_memory (b ∷ rest) = never_cond refusal.Memory (b == 59) (Ok (Some rest)) (Err refusal.Trailing) (λ e. cc e) (λ e. cc e)

url_never_memory : (text : List ℕ) → Never refusal.Memory (url_source text)
unfolding url_source
url_never_memory text =
    let len = url_len text in
    never_cond refusal.Memory (len == 0) (Err refusal.Url) (marker_text_at (after_white (drop len text)) >>= λ marker. Ok (record { set = []; url = Some (take len text); marker = marker }))
    (λ e. cc e)
    (never_then refusal.Memory (marker_text_at (after_white (drop len text))) (λ marker. Ok (record { set = []; url = Some (take len text); marker = marker }))
    (marker_text_never_memory (after_white (drop len text))) (λ marker e. cc e))

cut_never_memory : (cut : List ℕ × Option (List ℕ)) → Never refusal.Memory (cut_source cut)
cut_never_memory cut =
    never_then refusal.Memory (ok_or (within_parentheses (trim_white cut.0)) refusal.Specifier)
    (λ inner. refused_as refusal.Specifier (parsed_set inner) >>= λ set. Ok (record { set = set; url = None; marker = cut.1 }))
    (never_or refusal.Memory refusal.Specifier (within_parentheses (trim_white cut.0)) (λ e. cc e))
    (λ inner. never_then refusal.Memory (refused_as refusal.Specifier (parsed_set inner)) (λ set. Ok (record { set = set; url = None; marker = cut.1 }))
    (refused_never_memory refusal.Specifier (parsed_set inner) (λ e. cc e)) (λ set e. cc e))

source_never_memory : (text : List ℕ) (found : Option (List ℕ)) → Never refusal.Memory (source_from text found)
unfolding set_source
source_never_memory text None = cut_never_memory (cut_or_whole text (cut_around 59 text))
source_never_memory text (Some rest) = url_never_memory (after_white rest)

source_at_never_memory : (text : List ℕ) → Never refusal.Memory (source_at text)
unfolding source_at
source_at_never_memory text = source_never_memory text (after_byte 64 text)

marker_in_never_memory : (text : Option (List ℕ)) → Never refusal.Memory (marker_in text)
marker_in_never_memory None = λ e. cc e
marker_in_never_memory (Some text) =
    never_then refusal.Memory (refused_as refusal.Marker (marker_of text)) (λ marker. Ok (Some marker))
    (refused_never_memory refusal.Marker (marker_of text) (λ e. cc e)) (λ marker e. cc e)

pub requirement_never_memory : (text : List ℕ) → Never refusal.Memory (requirement_of text)
unfolding requirement_of
requirement_never_memory text =
    never_then refusal.Memory (name_at (after_white text)) _ (name_never_memory (after_white text))
    (λ name. never_then refusal.Memory (extras_at (after_white name.1)) _ (extras_at_never_memory (after_white name.1))
    (λ extras. never_then refusal.Memory (source_at (after_white extras.1)) _ (source_at_never_memory (after_white extras.1))
    (λ source. never_then refusal.Memory (marker_in source.marker) _ (marker_in_never_memory source.marker) (λ marker e. cc e))))

-- neither the readings nor the value are out of memory
pub ruleset never_memory = (marker_never_memory, value_never_memory, requirement_never_memory)
