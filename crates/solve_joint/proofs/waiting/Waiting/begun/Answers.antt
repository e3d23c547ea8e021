use Rattle.solve_joint.proofs.waiting.Placing.{waiting_none}
use Rattle.solve_joint.proofs.waiting.Waiting.begun.Goals as goal

pub place_each-requires-clause-waiting : goal.place_each-requires-clause-waiting
place_each-requires-clause-waiting c = waiting_none c.args.cutting.now.nodes.now c.args.cutting.now.classes.items c.args.gone.now
    c.new-ready.result.keys c.in_ok-noted.noted.items c.new-ready.ensures.empty c.in_ok-noted.ensures
