use Rattle.std.proofs.Common.{arith}
use Rattle.solve_joint.proofs.row.RowParts.{rises_on, rises_off}
use Rattle.solve_joint.proofs.row.push_rises.Goals as goal
use Rattle.solve_joint.proofs.row.push_rises.Goals.{then-unknown-target+in_ok-push_zeros+in_ok-push, else-unknown-target}

pub loop-unknown-preserved : goal.loop-unknown-preserved
loop-unknown-preserved c =
    let i = c.loop-unknown.unknown-index in
    let few = c.loop-unknown.invariant.few in
    elim c.if-unknown-target.branch [
      | then-unknown-target+in_ok-push_zeros+in_ok-push w ↦ rw (w.row-is, w.zeros-is) record {
        few = omega arith;
        pushed = rises_on c.args.coefficient c.args.target c.args.list.now i c.loop-unknown.zeros c.loop-unknown.row
            w.push_zeros.new.self w.push.new.self c.args.row.now c.loop-unknown-test.true w.if-unknown-target.true
            c.loop-unknown.invariant.pushed w.in_ok-push_zeros.ensures.pushed w.in_ok-push.ensures.pushed;
      }
      | else-unknown-target w ↦ rw (w.row-is, w.zeros-is) record {
        few = omega (arith, few);
        pushed = rises_off c.args.coefficient c.args.target c.args.list.now i c.loop-unknown.zeros c.loop-unknown.row c.args.row.now
            c.loop-unknown-test.true w.if-unknown-target.false c.loop-unknown.invariant.pushed;
      }
    ]
