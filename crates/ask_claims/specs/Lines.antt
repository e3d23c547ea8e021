-- Verdicts on claims as a list of bytes.
use Rattle.std.specs.Prelude.{◌++◌, ℕ, suc, List, [], ◌∷◌, codes, decimal, length}
use Rattle.flow_systems.specs.declared.footer.Footer.TheVariants.{Improvements}
use Rattle.flow_systems.specs.Report.{footer_line, line}
use Rattle.ask_verdicts.specs.Lines.{count_line, verdict_text}
use Rattle.ask_verdicts.specs.declared.outcome.Verdict.{Verdict}
use Rattle.ask_claims.specs.declared.claim.Claim.{Claim}

-- the line of a claim
abbrev pub claim_line : List (List ℕ) → ℕ → Claim → Verdict → List ℕ
claim_line names k claim verdict = line (codes "claim " ++ decimal k ++ codes " " ++ claim.label ++ codes ": "
    ++ verdict_text names verdict)

-- a line for each claim, the first of them having the number k
abbrev pub claim_lines : List (List ℕ) → ℕ → List Claim → List Verdict → List ℕ
claim_lines names k [] verdicts = []
claim_lines names k (claim ∷ claims) [] = []
claim_lines names k (claim ∷ claims) (verdict ∷ verdicts) = claim_line names k claim verdict ++ claim_lines names (suc k) claims verdicts

-- the claims with their verdicts, how many are proved, and how many improvements were made
abbrev pub verdicts_text : List (List ℕ) → List Claim → List Verdict → ℕ → List ℕ
verdicts_text names claims verdicts improvements = claim_lines names 0 claims verdicts ++ count_line (length claims) verdicts
    ++ footer_line (Improvements improvements)
