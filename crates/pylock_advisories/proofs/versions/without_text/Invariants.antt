use Rattle.std.proofs.Common.{◌≡◌, ◌++◌, drop, map, not}
use Rattle.std.specs.List.{filter}
use Rattle.std.specs.Str.{bytes_eq}
use Rattle.pylock_advisories.proofs.versions.without_text.Given as goal

abbrev pub invariant-loop-other : goal.invariant-loop-other
invariant-loop-other l =
    map (λ other. other.now) l.others.items
    ++ filter (λ other. not (bytes_eq other l.text)) (map (λ other. other.now) (drop l.other-index l.texts))
    ≡ filter (λ other. not (bytes_eq other l.text)) (map (λ other. other.now) l.texts)
