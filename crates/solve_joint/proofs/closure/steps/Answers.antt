use Rattle.std.proofs.Common.{get_or, refl, arith}
use Rattle.std.proofs.lemmas.List.{get_or_default}
use Rattle.solve_joint.specs.declared.node.Node.{Node}
use Rattle.solve_joint.proofs.group.Members.{in_at}
use Rattle.solve_joint.proofs.closure.Stepping.{steps_none, steps_more, steps_all}
use Rattle.solve_joint.proofs.closure.steps.Goals as goal

pub loop-node-init : goal.loop-node-init
loop-node-init c = steps_none c.args.points c.in_ok-steps.steps.items c.in_ok-steps.ensures

pub index_mut-requires : goal.index_mut-requires
index_mut-requires c =
    let nodes = c.args.nodes.now in
    let k = c.loop-node.node-index in
    let d : Node = record { unknown = 0; point = 0; source = 0 } in
    let within = c.requires (get_or nodes k d) (in_at nodes k d c.loop-node-test.true) in
    let size = c.loop-node.invariant.size in
    omega (arith, within, size)

pub loop-node-preserved : goal.loop-node-preserved
loop-node-preserved c =
    let nodes = c.args.nodes.now in
    let k = c.loop-node.node-index in
    let d : Node = record { unknown = 0; point = 0; source = 0 } in
    let l = c.loop-node-test.true in
    steps_more c.args.points nodes k (get_or nodes k d) c.loop-node.steps.items _ c.index_mut.result.now c.add_new.new.self l
    (get_or_default nodes k d (get_or nodes k d) l) (c.requires (get_or nodes k d) (in_at nodes k d l)) c.loop-node.invariant
    c.index_mut.ensures.value c.in_ok-add_new.ensures refl

pub returns : goal.returns
returns c = steps_all c.args.points c.args.nodes.now c.loop-node.node-index c.loop-node.steps.items c.loop-node-test.false
    c.loop-node.invariant
