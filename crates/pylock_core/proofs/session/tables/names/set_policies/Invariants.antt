use Rattle.std.proofs.Common.{◌≡◌, ℕ, List, drop}
use Rattle.pylock_core.specs.Inner.Tables.Names.{IsNames, members_named, number_named, policies_in}
use Rattle.pylock_core.specs.Session.State.{with_policies}
use Rattle.pylock_core.proofs.session.tables.names.set_policies.Given as goal

-- the policies so far lead on to those of all
abbrev pub invariant-loop-name : goal.invariant-loop-name
invariant-loop-name l = record {
  policies : with_policies (policies_in l.names) (drop l.name-index l.list) l.policy ≡ with_policies (policies_in l.initial.names) l.list l.policy;
  members : (q : List ℕ) → members_named l.names q ≡ members_named l.initial.names q;
  numbers : (q : List ℕ) → number_named l.names q ≡ number_named l.initial.names q;
  is : IsNames l.names;
}
