use Rattle.std.proofs.Common.{subst}
use Rattle.std.specs.List.{All}
use Rattle.std.proofs.lemmas.List.{take_all}
use Rattle.flow_systems.specs.View.{equations_of, vector_at}
use Rattle.ask_verdicts.proofs.lists.Judged.{judged_push}
use Rattle.ask_checks.specs.Verdicts.{IsCheckVerdict, CheckFits}
use Rattle.ask_checks.proofs.list.check_verdicts.Goals as goal

pub loop-number-preserved : goal.loop-number-preserved
loop-number-preserved c =
    let s = c.args.system.now in
    judged_push (IsCheckVerdict (equations_of s) (vector_at s c.args.bounds.now))
    (CheckFits (equations_of s) (vector_at s c.args.bounds.now))
    c.args.checks.now c.loop-number.number c.index-checks-number.result c.loop-number-test.true c.index-checks-number.is
    c.loop-number.list.items c.loop-number.invariant c.push.new.self.items c.in-Ok.verdict c.in-Ok.ensures.verdict c.in-Ok.ensures.fits
    c.in_ok-push-in-Ok.ensures.items

pub returns-clause-fits : goal.returns-clause-fits
returns-clause-fits c =
    let s = c.args.system.now in
    subst (All (CheckFits (equations_of s) (vector_at s c.args.bounds.now)))
    (take_all c.loop-number.number c.args.checks.now c.loop-number-test.false) c.loop-number.invariant.fit
