-- Texts, some of which may be absent: how lists of them are compared.
use Rattle.std.specs.Prelude.{ℕ, Bool, List, Option}
use Rattle.std.specs.Cmp.Lexicographic.{slice_cmp}
use Rattle.std.specs.Option.{option_cmp}
use Rattle.std.specs.Ordering.{eq_by_cmp, nat_cmp}
use Rattle.std.specs.declared.cmp.Ordering.{Ordering}

-- texts, each of which may be absent
abbrev pub Texts : Type 0
Texts = List (Option (List ℕ))

-- their order: that of the first two that differ, an absent text before any, and the bytes of texts
-- in turn
abbrev pub texts_cmp : Texts → Texts → Ordering
texts_cmp = slice_cmp (option_cmp (slice_cmp nat_cmp))

-- whether two lists have the same texts, and lack the same (the law `alike_texts_are_equal`)
abbrev pub are_alike : Texts → Texts → Bool
are_alike = eq_by_cmp texts_cmp
