use Rattle.std.proofs.Common.{inl, inr, length, sym, subst}
use Rattle.std.proofs.lemmas.Result.{err_from_is_err_and, MatchResult-weaker}
use Rattle.flow_systems.specs.View.{equations_of, vector_of}
use Rattle.lp_theory.specs.Simplex.{lp}
use Rattle.lp_simplex.specs.Outcomes.{IsOutcomeOf}
use Rattle.theory_transformers.proofs.joint_problems.JointRay.{joint_outcome}
use Rattle.solve_joint.specs.Numbers.{all_listed}
use Rattle.solve_joint.specs.Problems.{problem_of}
use Rattle.solve_joint.specs.Layouts.{AreBounded}
use Rattle.solve_joint.specs.Readings.{IsReadable, ReadsOutcome}
use Rattle.solve_joint.specs.Joints.{RunFits, IsRunFault}
use Rattle.solve_joint.proofs.blocks.Translated.{listed_distinct}
use Rattle.solve_joint.proofs.solve.Reached.{layout_bounded, readable, answered, means_of}
use Rattle.solve_joint.proofs.solve.joint.Goals as goal

pub layout-requires-clause-few : goal.layout-requires-clause-few
layout-requires-clause-few g c = c.in_ok-problem.ensures.columns

pub read-requires-clause-bounded : goal.read-requires-clause-bounded
read-requires-clause-bounded g c =
    subst (AreBounded (length c.args.base.now)) (sym c.in-Ok.ensures) (layout_bounded c.args.system.now c.args.pick.now
    (length c.args.base.now) c.args.list.now c.requires.base c.requires.picked)

pub read-requires-clause-readable : goal.read-requires-clause-readable
read-requires-clause-readable g c =
    let system = c.args.system.now in
    let pick = c.args.pick.now in
    let base = c.args.base.now in
    let list = c.args.list.now in
    let us = all_listed system pick list in
    let out = subst (λ Q. IsOutcomeOf (λ q. q) Q (lp Q) c.in_ok-outcome.outcome) c.in_ok-problem.ensures.problem.same
    c.in_ok-outcome.ensures.0 in
    let decided = joint_outcome (equations_of system) (vector_of (length system.template) base) us c.requires.rising
    (listed_distinct system pick 0 list c.requires.rises c.requires.picked) in
    subst (λ rs. IsReadable rs c.in_ok-outcome.outcome) (sym c.in-Ok.ensures)
    (readable system pick base list c.requires.rises (lp (problem_of system pick base list)) c.in_ok-outcome.outcome out decided)

pub returns-in-Ok-clause-answer : goal.returns-in-Ok-clause-answer
returns-in-Ok-clause-answer g c =
    let system = c.args.system.now in
    let pick = c.args.pick.now in
    let base = c.args.base.now in
    let list = c.args.list.now in
    let us = all_listed system pick list in
    let P = problem_of system pick base list in
    let same = c.in_ok-problem.ensures.problem.same in
    let out = subst (λ Q. IsOutcomeOf (λ q. q) Q (lp Q) c.in_ok-outcome.outcome) same c.in_ok-outcome.ensures.0 in
    let fits = subst RunFits same c.in_ok-outcome.ensures.1 in
    let decided = joint_outcome (equations_of system) (vector_of (length system.template) base) us c.requires.rising
    (listed_distinct system pick 0 list c.requires.rises c.requires.picked) in
    let reads = subst (λ rs. ReadsOutcome base rs c.in_ok-outcome.outcome c.read.result) c.in-Ok.ensures c.read.ensures in
    MatchResult-weaker c.read.result (answered system pick base list c.requires.rises (lp P) c.in_ok-outcome.outcome c.read.result out
    decided reads)
    (λ j h. (h.0, (c.in_ok-problem.ensures.sides, fits, h.1))) (λ f h. inr (inr (c.in_ok-problem.ensures.sides, fits, h)))

pub returns-in-Ok-clause-means : goal.returns-in-Ok-clause-means
returns-in-Ok-clause-means g c =
    let system = c.args.system.now in
    let pick = c.args.pick.now in
    let base = c.args.base.now in
    let list = c.args.list.now in
    let us = all_listed system pick list in
    let decided = joint_outcome (equations_of system) (vector_of (length system.template) base) us c.requires.rising
    (listed_distinct system pick 0 list c.requires.rises c.requires.picked) in
    MatchResult-weaker c.read.result (returns-in-Ok-clause-answer g c) (λ j h. means_of system pick base list c.requires.rises
    c.requires.rising (listed_distinct system pick 0 list c.requires.rises c.requires.picked) (lp (problem_of system pick base list)) j
    decided h.0) (λ f h. tt)

pub returns-in_err-outcome-clause-answer : goal.returns-in_err-outcome-clause-answer
returns-in_err-outcome-clause-answer g c =
    let q = err_from_is_err_and c.from_residual-in_err-outcome.result c.from_residual-in_err-outcome.ensures.1 in
    rw (q.1, q.2) (inr (inl (
      c.in_ok-problem.ensures.sides,
      subst (λ P. IsRunFault P c.in_err-outcome.field-0.0)
          c.in_ok-problem.ensures.problem.same c.in_err-outcome.ensures,
    )))
