-- A test of UTF-8 says what is so.
use Rattle.std.proofs.lemmas.Str.{is_utf8-from_IsUtf8, IsUtf8-from_is_utf8}

pub ruleset utf8_tests = (is_utf8-from_IsUtf8, IsUtf8-from_is_utf8)
