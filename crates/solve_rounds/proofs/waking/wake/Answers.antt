use Rattle.std.proofs.Common.{◌<◌, [], length, get_or, sym, subst, arith}
use Rattle.solve_rounds.specs.Growing.{WakesEdge}
use Rattle.solve_rounds.proofs.waking.Woken.{in_place, places_more, places_all}
use Rattle.solve_rounds.proofs.waking.wake.Goals as goal

pub wake_end-requires-clause-edge : goal.wake_end-requires-clause-edge
wake_end-requires-clause-edge c =
    let edges = get_or c.args.known.now.outgoing c.args.point [] in
    let count = c.count_out-place-end.ensures in
    let test = c.loop-place-test.true in
    subst (λ n. n < length c.args.system.now.flow.edges) (sym c.edge_out.ensures)
    (c.requires.leaving.within c.args.point (get_or edges c.loop-place.place 0)
    (in_place edges c.loop-place.place (omega (arith, count, test))))

pub loop-place-preserved : goal.loop-place-preserved
loop-place-preserved c =
    let system = c.args.system.now in
    places_more system c.args.pick.now (get_or c.args.known.now.outgoing c.args.point []) c.loop-place.place c.args.growing.now
    c.loop-place.growing c.wake_end.new.growing c.loop-place.invariant c.wake_end.ensures.steps c.wake_end.ensures.marks
    (subst (λ edge. WakesEdge system c.args.pick.now edge c.loop-place.growing c.wake_end.new.growing) c.edge_out.ensures
    c.wake_end.ensures.wakes)

pub returns-clause-wakes : goal.returns-clause-wakes
returns-clause-wakes c =
    let count = c.count_out-place-end.ensures in
    let test = c.loop-place-test.false in
    places_all c.args.system.now c.args.pick.now c.args.known.now.outgoing c.args.point c.loop-place.place c.args.growing.now
    c.loop-place.growing c.requires.leaving c.loop-place.invariant (omega (arith, count, test))
