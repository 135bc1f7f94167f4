-- Texts that do harm where they are used as they stand: names and paths that leave their folder,
-- and control characters.
use Rattle.std.specs.Prelude.{ℕ, Bool, true, false, ◌==◌, ◌&&◌, ◌||◌, ◌+◌, ◌-◌, codes, List, []}
use Rattle.std.specs.Prelude.{◌∷◌, Option, Some, None, slice_get, if◌then◌else◌}
use Rattle.std.specs.List.{list_any, slice_split}
use Rattle.std.specs.Str.{bytes_eq, chars}
use Rattle.pylock_readers.specs.Entry.FileName.{ends_segment}
use Rattle.pylock_shown.specs.Visible.{has_control}

-- a file name that names no file of its folder
abbrev pub is_unsafe_name : List ℕ → Bool
is_unsafe_name name =
    list_any ends_segment name || has_control name
    || bytes_eq name (codes ".") || bytes_eq name (codes "..")

abbrev pub begins_with_root : List ℕ → Bool
begins_with_root [] = false
begins_with_root (b ∷ rest) = ends_segment b

-- the second character is `:`, as behind a drive's letter
abbrev pub is_colon : Option ℕ → Bool
is_colon None = false
is_colon (Some c) = c == 58

abbrev pub has_drive : List ℕ → Bool
has_drive text = is_colon (slice_get (chars text) 1)

-- a piece of the text is `..`
abbrev pub is_folder_above : List ℕ → Bool
is_folder_above piece = bytes_eq piece (codes "..")

abbrev pub has_parent : List ℕ → Bool
has_parent text = list_any is_folder_above (slice_split ends_segment text)

-- a path within a source that leaves the folder that it begins in, or goes up at all
abbrev pub is_unsafe_path : List ℕ → Bool
is_unsafe_path text =
    begins_with_root text || has_drive text || has_parent text

-- ---- outside of a folder

-- the pieces of a path as one system or the other cuts it: `\` ends a piece on Windows alone
abbrev pub cuts_path : Bool → ℕ → Bool
cuts_path windows b = b == 47 || (windows && b == 92)

abbrev pub path_pieces : Bool → List ℕ → List (List ℕ)
path_pieces windows text = slice_split (cuts_path windows) text

-- the folder that it stands in
abbrev pub is_same_folder : List ℕ → Bool
is_same_folder piece = bytes_eq piece [] || bytes_eq piece (codes ".")

-- these pieces, from so many folders below the first one, climb out of that
abbrev pub climb_out : ℕ → List (List ℕ) → Bool
climb_out depth [] = false
climb_out depth (piece ∷ rest) =
    if is_folder_above piece then (depth == 0 || climb_out (depth - 1) rest)
    else if is_same_folder piece then climb_out depth rest
    else climb_out (depth + 1) rest

abbrev pub climbs_out : Bool → List ℕ → Bool
climbs_out windows text = climb_out 0 (path_pieces windows text)

-- a path that names something outside of the folder that it begins in, on one system or the other;
-- a share of Windows begins with two of its roots
abbrev pub is_outside_path : List ℕ → Bool
is_outside_path text =
    begins_with_root text || has_drive text || climbs_out false text || climbs_out true text
