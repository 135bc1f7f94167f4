use Rattle.std.proofs.Common.{arith, ◌≡◌, ◌==◌, ◌&&◌, ◌||◌, ◌++◌, false, get_or, slice_index, drop}
use Rattle.std.proofs.lemmas.Grind.{common_steps}
use Rattle.std.specs.Char.{is_ascii_digit}
use Rattle.toml_datetime.specs.Text.{date_text, time_text}
use Rattle.toml_parser.specs.Lexical.{first, is_word}
use Rattle.toml_parser.proofs.LexicalLemmas.{within_from_byte}
use Rattle.pytoml.proofs.Dates.{date_time_read}
use Rattle.pytoml.proofs.date_time.plain_date_time.Goals as goal

pub returns-clause-value : goal.returns-clause-value
returns-clause-value c =
    let s = c.args.s.now in
    let is = c.as_bytes-bytes.ensures.value in
    let rest = c.skip-rest.result.now in
    let delim : get_or s 10 0 ≡ 84 = grind (arith, common_steps) in
    let zulu : get_or s 19 0 ≡ 90 = grind (arith, common_steps) in
    let within = within_from_byte s 19 (omega arith) in
    let front : s ≡ date_text c.in_ok-date.field-0 ++ drop 10 s = rw is at c.in_ok-date.ensures in
    let behind : drop 11 s ≡ time_text c.in_ok-time.field-0 ++ drop 19 s = rw is at c.in_ok-time.ensures in
    let ends : (is_word (first rest) || (first rest == 32 && is_ascii_digit (slice_index rest 1))) ≡ false = grind (arith, common_steps) in
    date_time_read s rest c.in_ok-date.field-0 c.in_ok-time.field-0 (omega arith) front delim behind zulu (grind (arith, common_steps)) c.skip-rest.ensures.rest ends
