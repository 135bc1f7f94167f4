-- What serves the contracts of private functions alone.
use Rattle.std.specs.Prelude.{◌≡◌, List, map, ◌∷◌, [], Option, None, option_map}
use Rattle.std.specs.BTreeMap.{BTreeMap, get}
use Rattle.std.specs.List.{find}
use Rattle.std.specs.Option.{option_map_or}
use Rattle.pylock_compare.specs.Texts.{Texts, are_alike, texts_cmp}
use Rattle.pylock_union.specs.Listed.{lent}
use Rattle.pylock_union.specs.Union.{ClaimValue, claim_key, contradicts}
use Rattle.pylock_union.specs.declared.claims.Claim.{Claim}

-- a claim that is lent
abbrev pub lent_claim : Claim → ClaimValue
lent_claim claim = record {
  source = lent claim.source;
  algorithm = claim.algorithm.now;
  value = claim.value.now;
}

abbrev pub all_claims : List Claim → List ClaimValue
all_claims claims = map lent_claim claims

-- the first claim of this key
abbrev pub first_of : Texts → List ClaimValue → Option ClaimValue
first_of key claims = find (λ claim. are_alike key (claim_key claim)) claims

-- a claim that is found, where this one contradicts it
abbrev pub contradicted : ClaimValue → Option ClaimValue → Option ClaimValue
contradicted claim found =
    option_map_or (λ first. find (contradicts claim) (first ∷ [])) found None

-- the table has the first claim of each key, and no two of the claims contradict each other: the
-- first of its key is the only one that a claim may contradict
pub record IsTable (table : BTreeMap Texts Claim) (claims : List ClaimValue) : Type 0 where
  pub firsts : (key : Texts)
      → option_map lent_claim (get texts_cmp table key) ≡ first_of key claims
  pub agree : (claim : ClaimValue)
      → find (contradicts claim) claims ≡ contradicted claim (first_of (claim_key claim) claims)
