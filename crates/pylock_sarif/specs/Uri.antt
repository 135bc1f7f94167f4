-- The path of a file as a URI reference (RFC 3986, section 4.1).
use Rattle.std.specs.Prelude.{ℕ, Bool, ◌++◌, ◌==◌, ◌&&◌, List, [], codes, slice_index}
use Rattle.std.specs.Prelude.{if◌then◌else◌}
use Rattle.percent_encoding.specs.Percent.{percent_encode}
use Rattle.pylock_sarif.specs.declared.uri.TheConstants.{ESCAPED}

-- the path begins with two slashes, which would begin an authority (RFC 3986, section 4.2)
abbrev pub is_authority : List ℕ → Bool
is_authority path = slice_index path 0 == 47 && slice_index path 1 == 47

-- each byte that may not stand as itself as `%` and two hex digits
abbrev pub uri_of : List ℕ → List ℕ
uri_of path = (if is_authority path then codes "/." else []) ++ percent_encode ESCAPED path
