-- What phases give, in the numbers that the code counts.
use Rattle.std.proofs.Common.{◌≡◌, ℕ, true, false, ℤ, None, length, vec_len, subst, arith}
use Rattle.std.proofs.lemmas.List.{length-map}
use Rattle.base_numbers.specs.Rational.{ℚ}
use Rattle.base_fractions.specs.Operation.{first_wide}
use Rattle.lp_theory.specs.Problem as lp
use Rattle.lp_theory.specs.Search.{found}
use Rattle.lp_theory.specs.Simplex.{lowest}
use Rattle.lp_theory.specs.Table.{Table, Agree, pivot_table}
use Rattle.lp_theory.specs.FirstTable.{first_table}
use Rattle.lp_theory.specs.Run.{aux_phase, main_phase}
use Rattle.lp_theory.proofs.run.PhaseRuns.{lowest_is}
use Rattle.lp_dictionary.specs.declared.problem.Row.{Row}
use Rattle.lp_dictionary.specs.declared.problem.Problem.{Problem}
use Rattle.lp_dictionary.specs.Exact.{exact}
use Rattle.lp_dictionary.specs.PivotOperations.{pivot_operations}
use Rattle.lp_simplex.specs.declared.outcome.SolveFault.{SolveFault}
use Rattle.lp_simplex.specs.declared.outcome.Outcome.{Outcome}
use Rattle.lp_simplex.specs.declared.phase.End.{End}
use Rattle.lp_simplex.specs.declared.phase.End.TheVariants.{AtBest, AtRay, Left}
use Rattle.lp_simplex.specs.Operations.{first_refused, whole_phase, run_operations}
use Rattle.lp_simplex.specs.Answers.{RefusesRun, BeginsPhase, EndsPhase, ReadsBest, ReadsRay, main_outcome}
use Rattle.lp_simplex.specs.Outcomes.{IsOutcomeOf}
use Rattle.lp_simplex.proofs.method.Begins.{begins_aux}
use Rattle.lp_simplex.proofs.method.Ends.{best_end, unbounded_end, entered_agrees, refused_aux, refused_main, run_main}

-- the rows that are counted are those of the exact problem
pub rows_counted : {F : Type 0} (m : F → ℚ) (p : Problem F) (n : ℕ) → n ≡ vec_len p.rows → n ≡ (exact m p).rows
rows_counted m p n e =
    let k = p.rows.ok.0 in
    let f = length-map p.rows.items (λ (r : Row _). m r.side) in
    omega (arith, e, f, k)

module _ {F : Type 0} (m : F → ℚ) (L : ℤ) (p : Problem F) (made : ℕ) (T₀ T : Table) (end : End) (pivots : ℕ)
    (b : BeginsPhase (exact m p) false made T₀) (e : EndsPhase L (exact m p) false T end pivots) (rows cols : ℕ)
    (q : rows ≡ vec_len p.rows) (w : cols ≡ length p.goal) (o : Outcome F) where
  -- at a best point, what is read is the outcome of the second phase
  pub best_counted : end ≡ AtBest → ReadsBest m T rows cols o → IsOutcomeOf m (exact m p) (main_outcome (exact m p)) o
  best_counted is r =
      best_end L (exact m p) made T₀ T pivots b (subst (λ x. EndsPhase L (exact m p) false T x pivots) is e) m rows cols o
      (rows_counted m p rows q) w r

  -- and at a ray
  pub ray_counted : (c : ℕ) → end ≡ AtRay c → ReadsRay m T rows cols c o → IsOutcomeOf m (exact m p) (main_outcome (exact m p)) o
  ray_counted c is r =
      unbounded_end L (exact m p) made T₀ T c pivots b (subst (λ x. EndsPhase L (exact m p) false T x pivots) is e) m rows cols o
      (rows_counted m p rows q) w r

module _ (L : ℤ) (P : lp.Problem) (r : ℕ) (T : Table) (c : ℕ) (least : lowest P ≡ found r) (table : Agree (first_table P) T)
    (cols : c ≡ P.cols) where
  -- after the special first pivot the first phase begins
  pub begins_entered : (U : Table) → Agree (pivot_table T r c) U → BeginsPhase P true 1 U
  begins_entered U a = begins_aux P r U least
      (entered_agrees P r T U (lowest_is P r least).below table (subst (λ x. Agree (pivot_table T r x) U) cols a))

  module _ (fits : first_wide L (pivot_operations T r c) ≡ None) where
    -- the operations of the special first pivot fit
    pub first_fits : first_wide L (pivot_operations T r P.cols) ≡ None
    first_fits = subst (λ x. first_wide L (pivot_operations T r x) ≡ None) cols fits

    -- a fault of the first phase is the fault of the run
    pub refused_entered : {F : Type 0} (m : F → ℚ) (f : SolveFault F) → RefusesRun m L (whole_phase P (aux_phase P)) f
        → RefusesRun m L (run_operations P) f
    refused_entered m f w = refused_aux L P r least (lowest_is P r least).below T table first_fits m f w

    module _ (U : Table) (pivots : ℕ) (ends : EndsPhase L P true U Left pivots) where
      -- where the auxiliary variable has left, the run is as wide as its second phase
      pub run_left : first_refused L (run_operations P) ≡ first_refused L (whole_phase P (main_phase P))
      run_left = run_main L P r least (lowest_is P r least).below T table first_fits ends.fits ends.why

      -- and a fault of the second phase is the fault of the run
      pub refused_left : {F : Type 0} (m : F → ℚ) (f : SolveFault F) → RefusesRun m L (whole_phase P (main_phase P)) f
          → RefusesRun m L (run_operations P) f
      refused_left m f w = refused_main L P r least (lowest_is P r least).below T table first_fits ends.fits ends.why m f w
