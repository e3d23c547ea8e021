-- Verdicts on claims as a JSON value.
use Rattle.std.specs.Prelude.{ℕ, List, [], ◌∷◌, codes}
use Rattle.serde_json.specs.Data.{Data, string, array, object, Items, no_items, item, Members, member}
use Rattle.ask_verdicts.specs.declared.outcome.Verdict.{Verdict}
use Rattle.ask_claims.specs.declared.claim.Claim.{Claim}
use Rattle.ask_json.specs.Verdicts.{count_members, verdict_members}

-- a claim with its verdict
abbrev pub claim_members : List (List ℕ) → Claim → Verdict → Members
claim_members names claim verdict = member (codes "label") (string claim.label) (verdict_members names verdict)

-- the same as an object
abbrev pub claim_value : List (List ℕ) → Claim → Verdict → Data
claim_value names claim verdict = object (claim_members names claim verdict)

-- each claim with its verdict
abbrev pub claim_values : List (List ℕ) → List Claim → List Verdict → Items
claim_values names [] verdicts = no_items
claim_values names (claim ∷ claims) [] = no_items
claim_values names (claim ∷ claims) (verdict ∷ verdicts) = item (claim_value names claim verdict) (claim_values names claims verdicts)

-- the claims with their verdicts, how many improvements were made, and how many claims are proved
abbrev pub claims_value : List (List ℕ) → List Claim → List Verdict → ℕ → Data
claims_value names claims verdicts improvements =
    object (member (codes "claims") (array (claim_values names claims verdicts)) (count_members verdicts improvements))
