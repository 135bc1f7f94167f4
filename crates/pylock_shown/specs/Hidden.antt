-- How a text of a lock or of an environment is shown to a person: without what opens a URL.
-- Whatever some reader could take for a URL has a slash behind its scheme, or begins with one: RFC
-- 3986 (section 3.2) wants two, the URL standard of the WHATWG takes one, more, and `\` for `/`. So
-- what stands behind a slash may name who asks (section 3.2.1). The first `?` begins a query
-- (section 3.4), whatever stands before it.
use Rattle.std.specs.Prelude.{ℕ, Bool, ◌==◌, ◌||◌, ◌++◌, codes, List, [], ◌∷◌, map}
use Rattle.std.specs.Prelude.{if◌then◌else◌}
use Rattle.std.specs.List.{join_with_byte, list_any}
use Rattle.std.specs.Option.{option_map_or}
use Rattle.pywheel_core.specs.Texts.{cut_at, cut_at_last, pieces_at}

-- ---- before the query

-- `/` and `\`
abbrev pub is_slash : ℕ → Bool
is_slash b = b == 47 || b == 92

-- a text, with `***` for what stands before its last `@`
abbrev pub without_user : List ℕ → List ℕ
without_user text = option_map_or (λ cut. codes "***@" ++ cut.1) (cut_at_last 64 text) text

-- what stands behind a slash: without what each piece between two `/` has before its last `@`. A
-- `\` doesn't end a piece, for a password may have one; nor does a `#`, for some readers look for
-- the `@` behind it.
abbrev pub hidden_place : List ℕ → List ℕ
hidden_place text = join_with_byte 47 (map without_user (pieces_at 47 text))

-- what stands before the query: all up to the first slash stays, with the slash
abbrev pub hidden_front : List ℕ → List ℕ
hidden_front [] = []
hidden_front (b ∷ rest) = b ∷ (if is_slash b then hidden_place rest else hidden_front rest)

-- ---- the query

-- a key of a query; `***`, where it has a slash or an `@`, and so may be of a URL
abbrev pub hidden_key : List ℕ → List ℕ
hidden_key key = if list_any (λ b. is_slash b || b == 64) key then codes "***" else key

-- a piece of a query: its key, with `***` for its value; or `***`, where it has no `=`
abbrev pub hidden_piece : List ℕ → List ℕ
hidden_piece piece =
    option_map_or (λ cut. hidden_key cut.0 ++ codes "=***") (cut_at 61 piece) (codes "***")

-- the pieces of a query are what stands between each `&` and `;`
abbrev pub hidden_query : List ℕ → List ℕ
hidden_query query =
    join_with_byte 38
    (map (λ part. join_with_byte 59 (map hidden_piece (pieces_at 59 part))) (pieces_at 38 query))

-- a fragment: `***`, where it has a `?`, and so may have a query of its own
abbrev pub hidden_fragment : List ℕ → List ℕ
hidden_fragment text = if list_any (λ b. b == 63) text then codes "***" else hidden_place text

-- what stands behind the `?`: a query, and behind the first `#` a fragment
abbrev pub hidden_behind_mark : List ℕ → List ℕ
hidden_behind_mark text =
    option_map_or (λ cut. hidden_query cut.0 ++ codes "#" ++ hidden_fragment cut.1)
    (cut_at 35 text) (hidden_query text)

-- ---- the text

-- what stands before the first `?` is shown so, and what stands behind it as a query
abbrev pub with_query : (List ℕ → List ℕ) → List ℕ → List ℕ
with_query shown text =
    option_map_or (λ cut. shown cut.0 ++ codes "?" ++ hidden_behind_mark cut.1)
    (cut_at 63 text) (shown text)

-- the text as it is shown
abbrev pub hidden : List ℕ → List ℕ
hidden = with_query hidden_front

-- a file name as it is shown: it stood behind a slash
abbrev pub hidden_name : List ℕ → List ℕ
hidden_name = with_query hidden_place
