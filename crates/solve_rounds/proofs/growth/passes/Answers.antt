use Rattle.std.proofs.Common.{refl, arith}
use Rattle.std.proofs.lemmas.Result.{err_from_is_err_and}
use Rattle.solve_offers.specs.AtBounds.{vector_at}
use Rattle.solve_rounds.specs.Growing.{steps_so_far}
use Rattle.theory_validity.specs.Certificates.{after_steps}
use Rattle.solve_rounds.proofs.growing.Kept.{few_steps}
use Rattle.solve_rounds.proofs.growth.GrownTo.{growing_start, next_told, next_ended, more_steps, pass_stop}
use Rattle.solve_rounds.proofs.growing.Unraised.{stays_same, stays_twice}
use Rattle.solve_rounds.proofs.growth.passes.Goals as goal

pub loop-init : goal.loop-init
loop-init c = record {
  grown = growing_start c.args.system.now c.args.pick.now c.args.growing.now.bounds c.args.growing.now c.requires.unraised refl
      c.requires.kept c.requires.quiet;
  stays = stays_same c.args.growing.now;
}

pub loop-preserved : goal.loop-preserved
loop-preserved c =
    let system = c.args.system.now in
    let bounds = c.args.growing.now.bounds in
    record {
      grown = next_told system c.args.pick.now bounds c.loop.growing c.pass.new.growing c.in_ok-pass.field-0 c.loop.invariant.grown
          (c.in_ok-pass.ensures.passed (after_steps (steps_so_far system c.loop.growing) (vector_at system bounds))
          c.loop.invariant.grown.agrees)
          c.in_ok-pass.ensures.kept c.in_ok-pass.ensures.quiet c.if-branch.true;
      stays = stays_twice c.args.growing.now c.loop.growing c.pass.new.growing c.loop.invariant.stays c.in_ok-pass.ensures.stays;
    }

pub loop-smaller : goal.loop-smaller
loop-smaller c =
    let system = c.args.system.now in
    let bounds = c.args.growing.now.bounds in
    let more = more_steps system c.args.pick.now bounds c.loop.growing c.pass.new.growing c.in_ok-pass.field-0 c.loop.invariant.grown
    (c.in_ok-pass.ensures.passed (after_steps (steps_so_far system c.loop.growing) (vector_at system bounds)) c.loop.invariant.grown.agrees)
    c.if-branch.true in
    let few = few_steps system c.pass.new.growing c.in_ok-pass.ensures.kept in
    omega arith

pub returns-in_err-pass-clause-stop : goal.returns-in_err-pass-clause-stop
returns-in_err-pass-clause-stop c =
    let q = err_from_is_err_and c.from_residual.result c.from_residual.ensures.1 in
    rw (q.1, q.2)
    (pass_stop c.args.system.now c.args.pick.now c.args.growing.now.bounds c.loop.growing c.loop.invariant.grown c.args.round
    c.in_err-pass.field-0.0 c.in_err-pass.ensures.stop)

pub returns-clause-grown : goal.returns-clause-grown
returns-clause-grown c =
    let system = c.args.system.now in
    let bounds = c.args.growing.now.bounds in
    next_ended system c.args.pick.now bounds c.loop.growing c.pass.new.growing c.in_ok-pass.field-0 c.loop.invariant.grown
    (c.in_ok-pass.ensures.passed (after_steps (steps_so_far system c.loop.growing) (vector_at system bounds)) c.loop.invariant.grown.agrees)
    c.if-branch.false

pub returns-clause-stays : goal.returns-clause-stays
returns-clause-stays c =
    stays_twice c.args.growing.now c.loop.growing c.pass.new.growing c.loop.invariant.stays c.in_ok-pass.ensures.stays
