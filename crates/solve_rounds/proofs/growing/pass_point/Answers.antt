use Rattle.std.proofs.Common.{◌∙◌, ◌*◌, length, sym, ap, subst, arith}
use Rattle.solve_rounds.specs.declared.growing.Growing.{Growing}
use Rattle.solve_rounds.specs.Growing.{AreQuiet, KeepsSteps}
use Rattle.solve_rounds.proofs.growing.Kept.{mark_is}
use Rattle.solve_rounds.proofs.growing.PassedTo.{calm_passed, kept_marked, passed_marked}
use Rattle.solve_rounds.proofs.growing.Quiet.{quiet_calm}
use Rattle.solve_rounds.proofs.growing.pass_point.Goals as goal
use Rattle.solve_rounds.proofs.growing.pass_point.Goals.{Joined-not-told, then-not-told, else-not-told}

pub returns-then-index-clause-passed : goal.returns-then-index-clause-passed
returns-then-index-clause-passed c =
    calm_passed c.args.system.now c.args.pick.now c.args.point c.args.growing.now c.requires.kept c.requires.quiet c.requires.point
    (mark_is c.args.growing.now.calm.items c.args.point c.index.result.now
    (let s = c.requires.quiet.marks.calm in let p = c.requires.point in omega arith) c.index.ensures ∙ c.if-index.true)

-- only the mark of the point may be new
same_steps : (c : Joined-not-told) → KeepsSteps c.test_point.new.growing c.if-not-told.growing
same_steps c =
    elim c.if-not-told.branch [
      | then-not-told w ↦ record {
        bounds = ap (λ (g : Growing). g.bounds) w.growing-is;
        raised = ap (λ (g : Growing). g.raised.items) w.growing-is;
        steps = ap (λ (g : Growing). g.steps.items) w.growing-is;
      }
      | else-not-told w ↦ record {
        bounds = ap (λ (g : Growing). g.bounds) w.growing-is;
        raised = ap (λ (g : Growing). g.raised.items) w.growing-is;
        steps = ap (λ (g : Growing). g.steps.items) w.growing-is;
      }
    ]

pub returns-clause-passed : goal.returns-clause-passed
returns-clause-passed c =
    let system = c.args.system.now in
    passed_marked system c.args.pick.now (c.args.point * length system.template) (length system.template) c.args.growing.now
    c.test_point.new.growing c.if-not-told.growing c.in_ok-told.told (same_steps c) c.in_ok-told.ensures.passed

pub returns-clause-kept : goal.returns-clause-kept
returns-clause-kept c =
    kept_marked c.args.system.now c.test_point.new.growing c.if-not-told.growing (same_steps c) c.in_ok-told.ensures.kept

pub returns-clause-quiet : goal.returns-clause-quiet
returns-clause-quiet c =
    let system = c.args.system.now in
    let pick = c.args.pick.now in
    elim c.if-not-told.branch [
      | then-not-told w ↦ quiet_calm system pick c.args.growing.now c.test_point.new.growing c.if-not-told.growing c.args.point
          c.in_ok-told.ensures.quiet (c.in_ok-told.ensures.over w.if-not-told.true) (ap (λ (g : Growing). g.bounds) w.growing-is)
          (ap (λ (g : Growing). g.raised.items) w.growing-is) (ap (λ (g : Growing). g.quiet.items) w.growing-is)
          (ap (λ (g : Growing). g.calm.items) w.growing-is)
      | else-not-told w ↦ subst (AreQuiet system pick) (sym w.growing-is) c.in_ok-told.ensures.quiet
    ]
