use Rattle.std.proofs.Common.{[], length, get_or, refl, arith}
use Rattle.flow_systems.specs.View.{equations_of, vector_at}
use Rattle.ask_verdicts.specs.Breaking.{NoneBreaks}
use Rattle.ask_verdicts.proofs.firsts.Firsts.{none_lower}
use Rattle.ask_verdicts.proofs.verdicts.Turns.{judged_more, judged_unproved, judged_fits}
use Rattle.ask_verdicts.proofs.judge.verdict.Goals as goal

pub returns-in-Ok-Some-clause-proved : goal.returns-in-Ok-Some-clause-proved
returns-in-Ok-Some-clause-proved c =
    let s = c.args.system.now in
    judged_unproved (equations_of s) (vector_at s c.args.bounds.now) c.args.point c.args.before.now c.args.against.now c.loop-number.number
    c.loop-number.invariant c.index-against-number.result c.as_slice.result.now c.loop-number-test.true c.index-against-number.is
    c.as_slice.ensures
    c.in-Ok-Some.ensures.fits c.in-Ok-Some.field-0 c.in-Ok-Some.ensures.state c.in-Ok-Some.state c.in-Ok-Some.field-0-is

pub returns-in-Ok-Some-clause-fits : goal.returns-in-Ok-Some-clause-fits
returns-in-Ok-Some-clause-fits c =
    let s = c.args.system.now in
    judged_fits (equations_of s) (vector_at s c.args.bounds.now) c.args.point c.args.before.now c.args.against.now c.loop-number.number
    c.loop-number.invariant c.index-against-number.result c.as_slice.result.now c.loop-number-test.true c.index-against-number.is
    c.as_slice.ensures
    c.in-Ok-Some.ensures.fits c.in-Ok-Some.field-0 c.in-Ok-Some.ensures.state c.in-Ok-Some.state c.in-Ok-Some.field-0-is

pub loop-number-preserved : goal.loop-number-preserved
loop-number-preserved c =
    let s = c.args.system.now in
    judged_more (equations_of s) (vector_at s c.args.bounds.now) c.args.point c.args.before.now c.args.against.now c.loop-number.number
    c.loop-number.invariant c.index-against-number.result c.as_slice.result.now c.loop-number-test.true c.index-against-number.is
    c.as_slice.ensures
    c.in-Ok-None.ensures.fits c.in-Ok-None.field-0 c.in-Ok-None.ensures.state c.in-Ok-None.field-0-is

pub returns-clause-proved : goal.returns-clause-proved
returns-clause-proved c =
    let s = c.args.system.now in (
      (λ e. none_lower (λ k. NoneBreaks (equations_of s) (vector_at s c.args.bounds.now) c.args.point c.args.before.now
          (get_or c.args.against.now k [])) c.loop-number.number (length c.args.against.now) c.loop-number.invariant.none_below
          (omega arith)),
      (λ none. refl),
    )
