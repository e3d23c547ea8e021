-- Vectors that agree at the template's rows have the same values and wide operations.
use Rattle.std.proofs.Common.{◌≡◌, ◌∙◌, ℕ, suc, ◌<◌, List, [], ◌∷◌, length, refl, sym, ap, subst, arith}
use Rattle.std.specs.Prelude.{ℤ}
use Rattle.base_numbers.specs.Rational.{ℚ, zero_ℚ}
use Rattle.base_numbers.specs.Extended.{Ext, neg_inf, fin, pos_inf, ◌<ᴱ◌}
use Rattle.flow_edges.specs.declared.edge.Edge.{Edge}
use Rattle.flow_systems.specs.Equations.{Equations, Vector}
use Rattle.flow_systems.specs.declared.spot.Part.{Part}
use Rattle.flow_systems.specs.declared.spot.PartFault.TheVariants.{Wide as WideIn}
use Rattle.base_fractions.specs.declared.wide.Wide.{Wide}
use Rattle.base_fractions.specs.Operation.{operation_of}
use Rattle.theory_validity.specs.Words.{width, guard_forms, end_form}
use Rattle.lp_theory.specs.Problem.{Outcome, best, unbounded, empty}
use Rattle.lp_theory.specs.Simplex.{lp}
use Rattle.lp_theory.specs.Free.{split_problem}
use Rattle.theory_transformers.specs.Limits.{tabulate}
use Rattle.theory_transformers.specs.EdgeProblems.{edge_problem}
use Rattle.theory_transformers.specs.Spread.{spread_one, spread, skip_one, skip}
use Rattle.theory_rounds.specs.Agreement.{Agree}
use Rattle.theory_rounds.proofs.raises.ProblemsAgree.{lost_agrees, problem_agrees}
use Rattle.solve_composition.specs.declared.value.Value.{Value}
use Rattle.solve_composition.specs.declared.value.Value.TheVariants.{Unreached, Empty, Best, Unbounded}
use Rattle.solve_transformer.specs.Values.{AreMultipliers, ReadsOutcome, ReadsProblem, IsValue, reading_operations, IsWideIn}
use Rattle.solve_transformer.specs.Values.{IsOperatorFault}

-- the same bounds at each row
abbrev SameAt : ℕ → (ℕ → Ext) → (ℕ → Ext) → Type 0
SameAt n b d = (r : ℕ) → r < n → b r ≡ d r

spread_by : (v : Ext) (y : ℕ → ℚ) (f g : (ℕ → ℚ) → List ℚ) → ((x : ℕ → ℚ) → f x ≡ g x) → spread_one v y f ≡ spread_one v y g
unfolding spread_one
spread_by neg_inf y f g e = ap (λ r. zero_ℚ ∷ r) (e y)
spread_by (fin c) y f g e = ap (λ r. y 0 ∷ r) (e (λ k. y (suc k)))
spread_by pos_inf y f g e = ap (λ r. zero_ℚ ∷ r) (e y)

spread_same : (b d : ℕ → Ext) (rows : List (List ℤ)) (y : ℕ → ℚ) → SameAt (length rows) b d → spread b rows y ≡ spread d rows y
unfolding spread
spread_same b d [] y same = refl
spread_same b d (row ∷ rows) y same =
    ap (λ v. spread_one v y (spread (λ r. b (suc r)) rows)) (same 0 (omega arith))
    ∙ spread_by (d 0) y (spread (λ r. b (suc r)) rows) (spread (λ r. d (suc r)) rows)
    (λ x. spread_same (λ r. b (suc r)) (λ r. d (suc r)) rows x (λ r l. same (suc r) (omega arith)))

skip_by : (v : Ext) (y : ℕ → ℚ) (f g : (ℕ → ℚ) → (ℕ → ℚ)) → ((x : ℕ → ℚ) → f x ≡ g x) → skip_one v y f ≡ skip_one v y g
unfolding skip_one
skip_by neg_inf y f g e = e y
skip_by (fin c) y f g e = e (λ k. y (suc k))
skip_by pos_inf y f g e = e y

skip_same : (b d : ℕ → Ext) (rows : List (List ℤ)) (y : ℕ → ℚ) → SameAt (length rows) b d → skip b rows y ≡ skip d rows y
unfolding skip
skip_same b d [] y same = refl
skip_same b d (row ∷ rows) y same =
    ap (λ v. skip_one v y (skip (λ r. b (suc r)) rows)) (same 0 (omega arith))
    ∙ skip_by (d 0) y (skip (λ r. b (suc r)) rows) (skip (λ r. d (suc r)) rows)
    (λ x. skip_same (λ r. b (suc r)) (λ r. d (suc r)) rows x (λ r l. same (suc r) (omega arith)))

multipliers_same : (b d : ℕ → Ext) (template : List (List ℤ)) (count : ℕ) (y : ℕ → ℚ) (rows guards : List ℚ) → SameAt (length template) b d
    →
    AreMultipliers b template count y rows guards → AreMultipliers d template count y rows guards
multipliers_same b d template count y rows guards same h = record {
  of_rows = h.of_rows ∙ spread_same b d template y same;
  of_guards = h.of_guards ∙ ap (tabulate count) (skip_same b d template y same);
}

outcome_same : (n w : ℕ) (c : ℚ) (b d : ℕ → Ext) (template : List (List ℤ)) (count : ℕ) → SameAt (length template) b d
    → (o : Outcome) (value : Value) →
    ReadsOutcome n w c b template count o value → ReadsOutcome n w c d template count o value
outcome_same n w c b d template count same (best x v y) (Unreached r) h = h
outcome_same n w c b d template count same (best x v y) (Empty rows guards) h = h
outcome_same n w c b d template count same (best x v y) (Best value trace rows guards) h =
    (h.0, h.1, multipliers_same b d template count y rows guards same h.2)
outcome_same n w c b d template count same (best x v y) (Unbounded trace direction) h = h
outcome_same n w c b d template count same (unbounded x e) (Unreached r) h = h
outcome_same n w c b d template count same (unbounded x e) (Empty rows guards) h = h
outcome_same n w c b d template count same (unbounded x e) (Best value trace rows guards) h = h
outcome_same n w c b d template count same (unbounded x e) (Unbounded trace direction) h = h
outcome_same n w c b d template count same (empty y) (Unreached r) h = h
outcome_same n w c b d template count same (empty y) (Empty rows guards) h = multipliers_same b d template count y rows guards same h
outcome_same n w c b d template count same (empty y) (Best value trace rows guards) h = h
outcome_same n w c b d template count same (empty y) (Unbounded trace direction) h = h

module _ (system : Equations) (z q : Vector) (edge : Edge) (row : List ℤ) (agree : Agree system z q) where
  problem_read : (value : Value) → ReadsProblem system z edge row value → ReadsProblem system q edge row value
  problem_read value h = (
    sym (lost_agrees system z q agree edge.from) ∙ h.0,
    subst (λ P. ReadsOutcome system.variables (width system.variables edge.actions) (end_form system.variables edge.actions row).constant
        (q edge.from) system.template
        (length (guard_forms system.variables edge.actions)) (lp (split_problem P)) value) (problem_agrees system z q agree edge row)
        (outcome_same system.variables (width system.variables edge.actions) (end_form system.variables edge.actions row).constant
        (z edge.from) (q edge.from) system.template
        (length (guard_forms system.variables edge.actions)) (agree edge.from) (lp (split_problem (edge_problem system z edge row))) value
        h.1),
  )

  -- what a value is
  pub value_agrees : (value : Value) → IsValue system z edge row value → IsValue system q edge row value
  value_agrees (Unreached r) h = record {
    within = h.within;
    is_lost = sym (agree edge.from r h.within) ∙ h.is_lost;
    lowest = λ k l. subst (λ v. neg_inf <ᴱ v) (agree edge.from k (let w = h.within in omega arith)) (h.lowest k l);
  }
  value_agrees (Empty rows guards) h = problem_read (Empty rows guards) h
  value_agrees (Best value trace rows guards) h = problem_read (Best value trace rows guards) h
  value_agrees (Unbounded trace direction) h = problem_read (Unbounded trace direction) h

  -- which operation is wide
  pub fault_agrees : (part : Part) (wide : Wide ℚ) → IsOperatorFault system z edge row (WideIn part wide)
      → IsOperatorFault system q edge row (WideIn part wide)
  fault_agrees part wide h = (
    sym (lost_agrees system z q agree edge.from) ∙ h.0,
    subst (λ P. IsWideIn (split_problem P) (reading_operations (width system.variables edge.actions)
        (end_form system.variables edge.actions row).constant (lp (split_problem P))) part
        (operation_of (λ q. q) wide)) (problem_agrees system z q agree edge row) h.1,
  )
