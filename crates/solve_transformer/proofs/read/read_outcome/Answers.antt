use Rattle.std.proofs.Common.{◌+◌, List, refl, subst, subst₂}
use Rattle.base_numbers.specs.Rational.{ℚ}
use Rattle.lp_theory.specs.Problem as lp
use Rattle.lp_theory.specs.Listed.{at}
use Rattle.solve_transformer.specs.Splits.{bounds_at}
use Rattle.solve_transformer.specs.Values.{ReadsOutcome, reading_operations}
use Rattle.flow_systems.specs.Faults.{AnswersBy}
use Rattle.solve_transformer.proofs.read.read_outcome.Goals as goal

pub returns-in-Best : goal.returns-in-Best
returns-in-Best c = λ template e.
    let n = c.args.sizes.variables in
    let w = c.args.sizes.variables + c.args.sizes.frees in
    rw c.in-Best.is
    (subst₂
    (λ (p m : List ℚ). AnswersBy (ReadsOutcome n w c.args.constant (bounds_at c.args.source.now) template c.args.sizes.guards
    (lp.best (at p) c.in-Best.value (at m))) (reading_operations w c.args.constant (lp.best (at p) c.in-Best.value (at m)))
    c.read_best.result)
    c.deref.ensures.value c.deref-in-Best.ensures.value (c.read_best.ensures template e))

pub returns-in-Unbounded : goal.returns-in-Unbounded
returns-in-Unbounded c = λ template e.
    let n = c.args.sizes.variables in
    let w = c.args.sizes.variables + c.args.sizes.frees in
    rw c.in-Unbounded.is
    (subst₂
    (λ (p d : List ℚ). AnswersBy (ReadsOutcome n w c.args.constant (bounds_at c.args.source.now) template c.args.sizes.guards
    (lp.unbounded (at p) (at d))) (reading_operations w c.args.constant (lp.unbounded (at p) (at d))) c.read_unbounded.result)
    c.deref-in-Unbounded.ensures.value c.deref-in-Unbounded-2.ensures.value
    (c.read_unbounded.ensures c.args.constant (bounds_at c.args.source.now) template))

pub returns-in_ok-read_empty-in-Empty : goal.returns-in_ok-read_empty-in-Empty
returns-in_ok-read_empty-in-Empty c = λ template e.
    let n = c.args.sizes.variables in
    let w = c.args.sizes.variables + c.args.sizes.frees in
    rw c.in-Empty.is (
      subst (λ (m : List ℚ). ReadsOutcome n w c.args.constant (bounds_at c.args.source.now) template c.args.sizes.guards (lp.empty (at m))
          c.in_ok-read_empty-in-Empty.field-0) c.deref-in-Empty.ensures.value
          (c.in_ok-read_empty-in-Empty.ensures n w c.args.constant template e),
      refl,
    )
