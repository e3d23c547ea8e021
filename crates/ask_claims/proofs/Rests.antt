-- What is left of the lines of claims.
use Rattle.std.proofs.Common.{◌≡◌, ◌≤◌, ℕ, List, [], ◌∷◌, length, drop, min, refl}
use Rattle.ask_verdicts.specs.declared.outcome.Verdict.{Verdict}
use Rattle.ask_verdicts.proofs.Rests.{rest_end}
use Rattle.ask_claims.specs.declared.claim.Claim.{Claim}
use Rattle.ask_claims.specs.Lines.{claim_lines}

no_verdicts : (names : List (List ℕ)) (k : ℕ) (claims : List Claim) → claim_lines names k claims [] ≡ []
no_verdicts names k [] = refl
no_verdicts names k (claim ∷ claims) = refl

-- behind the last claim or the last verdict no line is written
pub lines_rest : (names : List (List ℕ)) (k : ℕ) (claims : List Claim) (verdicts : List Verdict) (i : ℕ)
    → min (length claims) (length verdicts) ≤ i →
    claim_lines names k (drop i claims) (drop i verdicts) ≡ []
lines_rest names k = rest_end (claim_lines names k) (λ verdicts. refl) (no_verdicts names k)
