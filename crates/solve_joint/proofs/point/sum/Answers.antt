use Rattle.std.proofs.Common.{Ok, Err, refl}
use Rattle.base_fractions.specs.declared.wide.Op.TheVariants.{Add}
use Rattle.flow_systems.proofs.Widths.{one_answer}
use Rattle.solve_joint.proofs.point.sum.Goals as goal

pub returns-in-Ok : goal.returns-in-Ok
returns-in-Ok c = one_answer Add c.args.bound c.args.rise (Ok c.in-Ok.value) c.in-Ok.ensures

pub returns-in-Err : goal.returns-in-Err
returns-in-Err c = (refl, one_answer Add c.args.bound c.args.rise (Err c.in-Err.wide) c.in-Err.ensures)
