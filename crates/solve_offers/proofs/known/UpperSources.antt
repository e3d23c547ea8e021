-- The evidence of an upper bound depends on the bounds at the edge's source alone.
use Rattle.std.proofs.Common.{◌≡◌, ◌∙◌, ℕ, suc, ◌<◌, List, [], ◌∷◌, ◌++◌, length, refl, ap, ap₂, arith, if◌then◌else◌}
use Rattle.std.specs.Prelude.{ℤ}
use Rattle.std.proofs.Math.Path.{fun_ext}
use Rattle.base_numbers.specs.Rational.{ℚ}
use Rattle.base_numbers.specs.Extended.{Ext}
use Rattle.flow_edges.specs.declared.edge.Edge.{Edge}
use Rattle.flow_systems.specs.Equations.{Equations, Vector}
use Rattle.theory_validity.specs.Words.{width, guard_forms, end_form}
use Rattle.theory_validity.specs.Certificates.{Evidence}
use Rattle.lp_theory.specs.Problem.{Outcome, best, unbounded, empty}
use Rattle.lp_theory.specs.Simplex.{lp}
use Rattle.lp_theory.specs.Free.{split_problem}
use Rattle.theory_transformers.specs.Limits.{limits_problem, tabulate}
use Rattle.theory_transformers.specs.EdgeProblems.{guard_limits, edge_limits, edge_problem, is_lost, lost, whole_problem}
use Rattle.theory_transformers.specs.Spread.{spread_one, spread, skip_one, skip}
use Rattle.theory_rounds.specs.Agreement.{Agree}
use Rattle.theory_rounds.specs.Made.{lowest_lost, outcome_upper, exact_upper}
use Rattle.theory_rounds.proofs.raises.ProblemsAgree.{same_sources, lost_agrees}

same_lowest : (a b : ℕ → Ext) (rows : List (List ℤ)) → ((r : ℕ) → r < length rows → a r ≡ b r) → lowest_lost a rows ≡ lowest_lost b rows
unfolding lowest_lost
same_lowest a b [] h = refl
same_lowest a b (row ∷ rows) h =
    ap (λ v. if is_lost v then 0 else suc (lowest_lost (λ r. a (suc r)) rows)) (h 0 (omega arith))
    ∙ ap (λ n. if is_lost (b 0) then 0 else suc n) (same_lowest (λ r. a (suc r)) (λ r. b (suc r)) rows (λ r l. h (suc r) (omega arith)))

same_spread : (a b : ℕ → Ext) (rows : List (List ℤ)) (y : ℕ → ℚ) → ((r : ℕ) → r < length rows → a r ≡ b r)
    → spread a rows y ≡ spread b rows y
unfolding spread
same_spread a b [] y h = refl
same_spread a b (row ∷ rows) y h =
    ap (λ v. spread_one v y (spread (λ r. a (suc r)) rows)) (h 0 (omega arith))
    ∙ ap (spread_one (b 0) y) (fun_ext (λ x. same_spread (λ r. a (suc r)) (λ r. b (suc r)) rows x (λ r l. h (suc r) (omega arith))))

same_skip : (a b : ℕ → Ext) (rows : List (List ℤ)) (y : ℕ → ℚ) → ((r : ℕ) → r < length rows → a r ≡ b r) → skip a rows y ≡ skip b rows y
unfolding skip
same_skip a b [] y h = refl
same_skip a b (row ∷ rows) y h =
    ap (λ v. skip_one v y (skip (λ r. a (suc r)) rows)) (h 0 (omega arith))
    ∙ ap (skip_one (b 0) y) (fun_ext (λ x. same_skip (λ r. a (suc r)) (λ r. b (suc r)) rows x (λ r l. h (suc r) (omega arith))))

module _ (system : Equations) (z q : Vector) (edge : Edge) (row : List ℤ)
    (same : (r : ℕ) → r < length system.template → z edge.from r ≡ q edge.from r) where
  -- a vector whose points all have the bounds of the source
  abbrev at_source : Vector → Vector
  at_source x p = x edge.from

  sources_agree : Agree system (at_source z) (at_source q)
  sources_agree p r l = same r l

  lost_same : lost (z edge.from) system.template ≡ lost (q edge.from) system.template
  lost_same = lost_agrees system (at_source z) (at_source q) sources_agree edge.from

  problem_same : edge_problem system z edge row ≡ edge_problem system q edge row
  unfolding edge_problem edge_limits
  problem_same =
      ap (λ s. limits_problem (width system.variables edge.actions) (s ++ guard_limits (λ u. u) (guard_forms system.variables edge.actions))
      (end_form system.variables edge.actions row).coeffs)
      (same_sources (λ r u. u) system.variables (z edge.from) (q edge.from) system.template same)

  guards_same : (y : ℕ → ℚ) →
      tabulate (length (guard_forms system.variables edge.actions)) (skip (z edge.from) system.template y)
      ≡ tabulate (length (guard_forms system.variables edge.actions)) (skip (q edge.from) system.template y)
  guards_same y = ap (tabulate (length (guard_forms system.variables edge.actions)))
      (same_skip (z edge.from) (q edge.from) system.template y same)

  outcome_same : (o : Outcome) → outcome_upper system z edge o ≡ outcome_upper system q edge o
  unfolding outcome_upper
  outcome_same (best x v y) = ap₂ Evidence.Bound (same_spread (z edge.from) (q edge.from) system.template y same) (guards_same y)
  outcome_same (unbounded x d) = refl
  outcome_same (empty y) = ap₂ Evidence.Empty (same_spread (z edge.from) (q edge.from) system.template y same) (guards_same y)

  -- vectors with the same bounds at an edge's source give it the same evidence of an upper bound
  pub upper_by_source : exact_upper system z edge row ≡ exact_upper system q edge row
  unfolding exact_upper
  upper_by_source =
      ap (λ b. if b then Evidence.Unreached (lowest_lost (z edge.from) system.template) else outcome_upper system z edge
      (lp (whole_problem system z edge row))) lost_same
      ∙ ap (λ n. if lost (q edge.from) system.template then Evidence.Unreached n else outcome_upper system z edge
      (lp (whole_problem system z edge row))) (same_lowest (z edge.from) (q edge.from) system.template same)
      ∙ ap (λ e. if lost (q edge.from) system.template then Evidence.Unreached (lowest_lost (q edge.from) system.template) else e)
      (outcome_same (lp (whole_problem system z edge row)) ∙ ap (λ P. outcome_upper system q edge (lp (split_problem P))) problem_same)
