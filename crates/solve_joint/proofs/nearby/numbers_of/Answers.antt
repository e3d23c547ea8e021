use Rattle.std.proofs.Common.{get_or, arith}
use Rattle.std.proofs.lemmas.List.{get_or_default}
use Rattle.std.specs.BTreeMap.{get}
use Rattle.std.specs.Ordering.{nat_cmp}
use Rattle.solve_joint.specs.declared.node.Node.{Node}
use Rattle.solve_joint.proofs.nearby.Numbering.{all_more}
use Rattle.solve_joint.proofs.nearby.numbers_of.Goals as goal

pub loop-node-preserved : goal.loop-node-preserved
loop-node-preserved c =
    let nodes = c.args.nodes.now in
    let k = c.loop-node.node-index in
    let d : Node = record { unknown = 0; point = 0; source = 0 } in
    let before = c.loop-node.invariant in
    let first = c.in_ok-add_point.ensures in
    let second = c.in_ok-add_point-2.ensures in
    let l = c.loop-node-test.true in
    record {
      few = omega (arith, before.few, first.few, second.few);
      numbered = second.numbered;
      all = all_more nodes k (get_or nodes k d) (get nat_cmp c.loop-node.numbers) (get nat_cmp c.add_point.new.numbers)
          (get nat_cmp c.add_point-in-loop-node.new.numbers) l (get_or_default nodes k d (get_or nodes k d) l) first.more second.more
          before.all;
    }
