-- What is left of the lines of checks.
use Rattle.std.proofs.Common.{◌≡◌, ◌≤◌, ℕ, List, [], ◌∷◌, length, drop, min, refl}
use Rattle.flow_edges.specs.declared.checked.CheckCases.{CheckCases}
use Rattle.ask_verdicts.specs.declared.outcome.Verdict.{Verdict}
use Rattle.ask_verdicts.proofs.Rests.{rest_end}
use Rattle.ask_checks.specs.Lines.{check_lines}

no_verdicts : (text : List ℕ) (names : List (List ℕ)) (k : ℕ) (checks : List CheckCases) → check_lines text names k checks [] ≡ []
no_verdicts text names k [] = refl
no_verdicts text names k (check ∷ checks) = refl

-- behind the last check or the last verdict no line is written
pub lines_rest : (text : List ℕ) (names : List (List ℕ)) (k : ℕ) (checks : List CheckCases) (verdicts : List Verdict) (i : ℕ)
    → min (length checks) (length verdicts) ≤ i → check_lines text names k (drop i checks) (drop i verdicts) ≡ []
lines_rest text names k = rest_end (check_lines text names k) (λ verdicts. refl) (no_verdicts text names k)
