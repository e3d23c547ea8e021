use Rattle.std.proofs.Common.{Ok, Err, refl}
use Rattle.base_fractions.specs.declared.wide.Op.TheVariants.{Sub}
use Rattle.flow_systems.proofs.Widths.{one_answer}
use Rattle.solve_joint.proofs.block.own_side.Goals as goal

pub returns-in-Ok : goal.returns-in-Ok
returns-in-Ok c = one_answer Sub c.args.constant c.args.bound (Ok c.in-Ok.side) c.in-Ok.ensures

pub returns-in-Err : goal.returns-in-Err
returns-in-Err c = (refl, one_answer Sub c.args.constant c.args.bound (Err c.in-Err.wide) c.in-Err.ensures)
