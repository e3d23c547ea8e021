-- The certificate that rounds make: the steps of all rounds, the last vector, and evidence that is read from the outcomes at it.
use Rattle.std.specs.Prelude.{ℕ, suc, ℤ, List, [], ◌∷◌, length, get_or, Bool, if◌then◌else◌}
use Rattle.base_numbers.specs.Rational.{ℚ}
use Rattle.base_numbers.specs.Extended.{Ext}
use Rattle.flow_edges.specs.declared.edge.Edge.{Edge}
use Rattle.flow_systems.specs.Equations.{Equations, Vector}
use Rattle.flow_systems.specs.View.{bounds_of}
use Rattle.theory_validity.specs.Words.{guard_forms}
use Rattle.theory_validity.specs.Steps.{Step}
use Rattle.theory_validity.specs.Certificates.{Evidence, Bound, Empty, Unreached, Need, needs, Certificate, bounds_vector}
use Rattle.lp_theory.specs.Problem.{Outcome, best, unbounded, empty}
use Rattle.lp_theory.specs.Simplex.{lp}
use Rattle.theory_transformers.specs.Limits.{tabulate}
use Rattle.theory_transformers.specs.EdgeProblems.{is_lost, lost, whole_problem}
use Rattle.theory_transformers.specs.Spread.{spread, skip}
use Rattle.theory_rounds.specs.Rounds.{Choice, exact_state, exact_steps}

-- the lowest row whose bound is −∞
unfoldable pub lowest_lost : (ℕ → Ext) → List (List ℤ) → ℕ
lowest_lost bounds [] = 0
lowest_lost bounds (row ∷ rows) = if is_lost (bounds 0) then 0 else suc (lowest_lost (λ r. bounds (suc r)) rows)

-- the multipliers of the template rows in a problem's multipliers
abbrev pub row_multipliers : Equations → Vector → Edge → (ℕ → ℚ) → List ℚ
row_multipliers system z edge y = spread (z edge.from) system.template y

-- and those of the guards
abbrev pub guard_multipliers : Equations → Vector → Edge → (ℕ → ℚ) → List ℚ
guard_multipliers system z edge y = tabulate (length (guard_forms system.variables edge.actions)) (skip (z edge.from) system.template y)

-- the evidence of an upper bound in an outcome; an unbounded one has none
unfoldable pub outcome_upper : Equations → Vector → Edge → Outcome → Evidence
outcome_upper system z edge (best x v y) = Bound (row_multipliers system z edge y) (guard_multipliers system z edge y)
outcome_upper system z edge (unbounded x d) = Unreached 0
outcome_upper system z edge (empty y) = Empty (row_multipliers system z edge y) (guard_multipliers system z edge y)

-- the evidence for an edge and a row: the lowest row at −∞ if there is one, else what the outcome of the problem gives
unfoldable pub exact_upper : Equations → Vector → Edge → List ℤ → Evidence
exact_upper system z edge row = if lost (z edge.from) system.template then Unreached (lowest_lost (z edge.from) system.template)
    else outcome_upper system z edge (lp (whole_problem system z edge row))

-- the evidence for needs, in order
unfoldable pub uppers_for : Equations → Vector → List Need → List Evidence
uppers_for system z [] = []
uppers_for system z (need ∷ more) = exact_upper system z need.edge (get_or system.template need.row []) ∷ uppers_for system z more

-- the evidence for all that is needed at a vector
unfoldable pub exact_uppers : Equations → Vector → List Evidence
exact_uppers system z = uppers_for system z (needs system z)

-- a vector's bounds, point after point
abbrev pub listed_bounds : Equations → Vector → List Ext
listed_bounds system z = bounds_of system.points (length system.template) z

-- the certificate of so many rounds that made these steps
unfoldable pub certificate_with : (ℚ → Bool) → Equations → (ℕ → Choice) → ℕ → List Step → Certificate
certificate_with fitting system choose n steps =
    let bounds = listed_bounds system (exact_state fitting system choose n).vector in
    record { bounds = bounds; steps = steps; uppers = exact_uppers system (bounds_vector system bounds) }

-- the certificate of so many rounds by the exact joint problems
unfoldable pub exact_certificate : (ℚ → Bool) → Equations → (ℕ → Choice) → ℕ → Certificate
exact_certificate fitting system choose n = certificate_with fitting system choose n (exact_steps fitting system choose n)
