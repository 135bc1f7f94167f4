use Rattle.std.proofs.Common.{◌≡◌, take}
use Rattle.pylock_diff.proofs.PartnerLemmas.{keys_of}
use Rattle.pylock_diff.proofs.partners.have_same_keys.Given as goal

-- the fronts have the same keys
abbrev pub invariant-loop-place : goal.invariant-loop-place
invariant-loop-place l = keys_of (take l.place l.olds) ≡ keys_of (take l.place l.news)
