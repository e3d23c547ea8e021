use Rattle.solve_joint.proofs.classes.Homes.{mutual_itself}
use Rattle.solve_joint.proofs.classes.classes.Goals as goal

pub homes-requires : goal.homes-requires
homes-requires c = mutual_itself c.args.points c.args.rows.now c.args.nodes.now c.requires.rows c.requires.within
