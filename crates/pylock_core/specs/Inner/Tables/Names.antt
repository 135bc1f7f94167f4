-- The names of a session: each has a number, and by the number its policy and its entries.
use Rattle.std.specs.Prelude.{◌≡◌, ℕ, ◌<◌, Bool, false, nat_eq, List, ◌∷◌, length, Option, Some}
use Rattle.std.specs.Prelude.{IsSome, None, slice_index_or, string_bytes, vec_len, vec_capacity, []}
use Rattle.std.specs.BTreeMap.{get_by_text}
use Rattle.std.specs.FinMap as map_of
use Rattle.std.specs.Global.{Global}
use Rattle.std.specs.declared.string.String.{String}
use Rattle.std.specs.declared.vec.Vec.{Vec}
use Rattle.pylock_core.specs.Inner.Tables.Index.{list_at}
use Rattle.pylock_core.specs.Session.State.{Policies, is_among, with_policy}
use Rattle.pylock_core.specs.declared.edit.Policy.{Policy}
use Rattle.pylock_core.specs.declared.edit.Policy.TheVariants.{Any}
use Rattle.pylock_core.specs.declared.session.tables.names.Names.{Names}

-- the numbers are below the count, and no two names have the same
pub record IsNumbering (number : List ℕ → Option ℕ) (count : ℕ) : Type 0 where
  pub below : (name : List ℕ) (n : ℕ) → number name ≡ Some n → n < count
  pub apart : (one other : List ℕ) (n : ℕ)
      → number one ≡ Some n → number other ≡ Some n → one ≡ other

-- the number of a name
abbrev pub number_named : Names → List ℕ → Option ℕ
number_named names name = get_by_text names.numbers name

-- the policy under a number
abbrev pub policy_at : List Policy → ℕ → Policy
policy_at policies n = slice_index_or policies n Any

-- the policies of these names, each under its number
abbrev pub policies_from : List (String Global × ℕ) → List Policy → Policies
policies_from [] policies = map_of.empty
policies_from (e ∷ es) policies =
    with_policy (policies_from es policies) (string_bytes e.0) (policy_at policies e.1)

abbrev pub policies_in : Names → Policies
policies_in names = policies_from names.numbers.entries names.policies.items

-- the numbers of the entries of a name
abbrev pub members_under : List (Vec ℕ Global) → Option ℕ → List ℕ
members_under members None = []
members_under members (Some n) = list_at members n

abbrev pub members_named : Names → List ℕ → List ℕ
members_named names name = members_under names.members.items (number_named names name)

-- whether a number is this one
abbrev pub is_at : ℕ → Option ℕ → Bool
is_at n None = false
is_at n (Some m) = nat_eq n m

-- each name has a number of its own, and under it a policy and entries
pub record IsNames (names : Names) : Type 0 where
  pub numbering : IsNumbering (number_named names) (length names.policies.items)
  pub even : length names.members.items ≡ length names.policies.items

-- each of these names has a number
abbrev pub AreKnown : Names → List (List ℕ) → Type 0
AreKnown names list =
    (i : ℕ) → i < length list → IsSome (number_named names (slice_index_or list i []))

-- under the number of each name stands whether it is one of these
abbrev pub AreMarks : Names → List (List ℕ) → List Bool → Type 0
AreMarks names list marks =
    (name : List ℕ) (n : ℕ) → number_named names name ≡ Some n
    → slice_index_or marks n false ≡ is_among list name

-- under the number there is capacity for one more entry
abbrev pub HasCapacity : Names → ℕ → Type 0
HasCapacity names n =
    (d : Vec ℕ Global)
    → vec_len (slice_index_or names.members.items n d)
    < vec_capacity (slice_index_or names.members.items n d)

-- names where each that had a number keeps it, with its policy and its entries
pub record Kept (old new : Names) : Type 0 where
  pub numbers : (name : List ℕ) (n : ℕ)
      → number_named old name ≡ Some n → number_named new name ≡ Some n
  pub policies : policies_in new ≡ policies_in old
  pub members : (name : List ℕ) → members_named new name ≡ members_named old name
  pub is : IsNames new

-- names that are the same but for their entries
pub record Same (old new : Names) : Type 0 where
  pub numbers : (name : List ℕ) → number_named new name ≡ number_named old name
  pub items : new.policies.items ≡ old.policies.items
  pub policies : policies_in new ≡ policies_in old
  pub is : IsNames new
