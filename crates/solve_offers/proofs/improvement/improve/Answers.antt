use Rattle.std.proofs.Common.{◌≡◌, ◌∙◌, ◌*◌, inl, inr, true≢false, length, sym, ap, arith}
use Rattle.flow_systems.specs.View.{equations_of}
use Rattle.solve_offers.specs.AtBounds.{vector_at}
use Rattle.solve_offers.specs.Improvement.{pick_of}
use Rattle.solve_offers.proofs.improvement.Improved.{improved_point, next_either, next_some, next_supported, none_exactly}
use Rattle.solve_offers.proofs.at_bounds.Ranges.{points_in_range}
use Rattle.solve_offers.proofs.improvement.improve.Goals as goal
use Rattle.solve_offers.proofs.improvement.improve.Goals.{After-loop-point, then-branch, else-branch}
use Rattle.solve_offers.proofs.improvement.improve.Given.{Over}

pub loop-point-preserved : goal.loop-point-preserved
loop-point-preserved g c =
    let system = c.args.system.now in
    let E = equations_of system in
    let z = vector_at system c.args.bounds.now in
    let so_far = c.loop-point.invariant in
    let made = c.in_ok-improve_point.ensures in
    record {
      improved = elim c.if-branch.branch [
        | then-branch w ↦
            improved_point E z _ c.loop-point.point c.args.pick.now c.loop-point.pick c.improve_point.new.pick c.loop-point.improved
            c.in_ok-improve_point.field-0 c.if-branch.improved so_far.improved made.improved (λ e. w.improved-is) (λ e. w.improved-is)
            (λ e. inr w.if-branch.true)
        | else-branch w ↦
            improved_point E z _ c.loop-point.point c.args.pick.now c.loop-point.pick c.improve_point.new.pick c.loop-point.improved
            c.in_ok-improve_point.field-0 c.if-branch.improved so_far.improved made.improved (λ e. w.improved-is ∙ e)
            (λ e. absurd (true≢false (sym e ∙ w.if-branch.false))) (λ e. inl (sym w.improved-is ∙ e))
      ];
      size = made.size ∙ so_far.size;
      known = made.known;
    }

-- the loop ends behind the last point
last : (g : Over) (c : After-loop-point g) → c.loop-point.point * length c.args.system.now.template
    ≡ length c.args.system.now.flow.points * length c.args.system.now.template
last g c =
    let points = ap (λ ps. length ps) c.as_slice.ensures in
    ap (λ p. p * length c.args.system.now.template) (omega (arith, points, c.loop-point-test.false, c.loop-point.auto.point-end))

pub returns-clause-none : goal.returns-clause-none
returns-clause-none g c =
    let system = c.args.system.now in
    none_exactly (equations_of system) (vector_at system c.args.bounds.now) _ c.loop-point.improved (points_in_range system) c.args.pick.now
    c.loop-point.pick c.requires.pick (c.loop-point.invariant.size ∙ c.requires.pick) (c.loop-point.point * length system.template)
    (last g (goal.at.returns-clause-none g c).After-loop-point) c.loop-point.invariant.improved

pub returns-clause-next : goal.returns-clause-next
returns-clause-next g c =
    let system = c.args.system.now in
    next_either (equations_of system) (vector_at system c.args.bounds.now) _ c.loop-point.improved (points_in_range system) c.args.pick.now
    c.loop-point.pick c.requires.pick (c.loop-point.invariant.size ∙ c.requires.pick) (c.loop-point.point * length system.template)
    (last g (goal.at.returns-clause-next g c).After-loop-point) c.loop-point.invariant.improved

pub returns-clause-supported : goal.returns-clause-supported
returns-clause-supported g c improved tight =
    let system = c.args.system.now in
    next_supported (equations_of system) (vector_at system c.args.bounds.now) _ (points_in_range system)
    (pick_of (length system.template) c.args.pick.now) (pick_of (length system.template) c.loop-point.pick)
    (next_some (equations_of system) (vector_at system c.args.bounds.now) _ (points_in_range system) c.args.pick.now c.loop-point.pick
    c.loop-point.improved c.requires.pick (c.loop-point.invariant.size ∙ c.requires.pick) (c.loop-point.point * length system.template)
    (last g (goal.at.returns-clause-supported g c).After-loop-point) c.loop-point.invariant.improved improved) tight
