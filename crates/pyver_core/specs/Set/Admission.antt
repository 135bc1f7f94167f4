-- Which versions a specifier admits (PEP 440, "Version specifiers").
use Rattle.std.specs.Prelude.{ℕ, ◌-◌, ◌==◌, ◌&&◌, Bool, not, if◌then◌else◌, List, length, take}
use Rattle.std.specs.Prelude.{nat_eq}
use Rattle.std.specs.List.{list_all, starts_with}
use Rattle.std.specs.Str.{bytes_eq, str_to_ascii_lowercase}
use Rattle.pyver_core.specs.Version.Normal.{normal_text}
use Rattle.pyver_core.specs.Version.Order.{is_before, is_same, with_zeros}
use Rattle.pyver_core.specs.Version.Parts.{Parts, base_release, is_postrelease, is_prerelease}
use Rattle.pyver_core.specs.Version.Parts.{public_part}
use Rattle.pyver_core.specs.declared.set.specifier.Specifier.{Specifier}
use Rattle.pyver_core.specs.declared.set.specifier.Specifier.TheVariants as specifier

-- whether a version has a local part
abbrev pub has_local : Parts → Bool
has_local v = not (length v.local == 0)

-- "Version matching": the local part of c counts only where v has one
abbrev pub matches : Parts → Parts → Bool
matches v c = if has_local v then is_same c v else is_same (public_part c) v

-- "Version matching", a prefix: the same epoch, and the release of c, padded with zeros, begins
-- with these numbers
abbrev pub matches_prefix : ℕ → List ℕ → Parts → Bool
matches_prefix epoch release c =
    (c.epoch == epoch) && starts_with nat_eq (with_zeros (length release) c.release) release

-- whether the base releases are the same version
abbrev pub has_base_of : Parts → Parts → Bool
has_base_of v c = is_same (base_release c) (base_release v)

-- "Inclusive ordered comparison"
abbrev pub is_at_most : Parts → Parts → Bool
is_at_most v c = not (is_before v (public_part c))

abbrev pub is_at_least : Parts → Parts → Bool
is_at_least v c = not (is_before (public_part c) v)

-- "Exclusive ordered comparison": `<V` admits no pre-release of V, unless V is a pre-release
abbrev pub is_below : Parts → Parts → Bool
is_below v c = is_before c v && not (not (is_prerelease v) && (is_prerelease c && has_base_of v c))

-- "Exclusive ordered comparison": `>V` admits no post-release of V, unless V is a post-release, and
-- no V with a local part
abbrev pub is_above : Parts → Parts → Bool
is_above v c = is_before v c
    && (not (not (is_postrelease v) && (is_postrelease c && has_base_of v c))
    && not (has_local c && is_same (public_part c) v))

-- "Compatible release": at least V, and the release begins with V's without its last number
abbrev pub is_compatible : Parts → Parts → Bool
is_compatible v c =
    is_at_least v c && matches_prefix v.epoch (take (length v.release - 1) v.release) c

-- "Arbitrary equality": the normal form is this text, letter case ignored
abbrev pub is_spelled : List ℕ → Parts → Bool
is_spelled text c = bytes_eq (str_to_ascii_lowercase (normal_text c)) (str_to_ascii_lowercase text)

-- what each specifier admits
abbrev pub admits : Specifier → Parts → Bool
admits (specifier.Equal v) c = matches v c
admits (specifier.EqualPrefix prefix) c = matches_prefix prefix.epoch prefix.release c
admits (specifier.NotEqual v) c = not (matches v c)
admits (specifier.NotEqualPrefix prefix) c = not (matches_prefix prefix.epoch prefix.release c)
admits (specifier.AtMost v) c = is_at_most v c
admits (specifier.AtLeast v) c = is_at_least v c
admits (specifier.Before v) c = is_below v c
admits (specifier.After v) c = is_above v c
admits (specifier.Compatible v) c = is_compatible v c
admits (specifier.Arbitrary text) c = is_spelled text c

-- a list of specifiers admits what each of them does
abbrev pub admits_all : List Specifier → Parts → Bool
admits_all specifiers c = list_all (λ s. admits s c) specifiers
