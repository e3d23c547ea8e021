use Rattle.std.proofs.Common.{get_or}
use Rattle.solve_joint.specs.Classes.{node_at}
use Rattle.solve_joint.proofs.group.Members.{in_at}
use Rattle.solve_joint.proofs.cutting.Blocking.{member_at, found_blocker, no_blocker}
use Rattle.solve_joint.proofs.cutting.Cutting.blocker.Goals as goal

pub bounds-self-member : goal.bounds-self-member
bounds-self-member c =
    let cutting = c.args.self.now in
    (member_at cutting.nodes.now cutting.classes.items cutting.sized c.args.head c.members_of-member-items.result.now
    c.loop-member.member-index c.members_of-member-items.ensures c.loop-member-test.true).0

pub blocker_at-requires : goal.blocker_at-requires
blocker_at-requires c =
    let cutting = c.args.self.now in
    let k = get_or c.members_of-member-items.result.now c.loop-member.member-index 0 in
    let within = (member_at cutting.nodes.now cutting.classes.items cutting.sized c.args.head c.members_of-member-items.result.now
    c.loop-member.member-index c.members_of-member-items.ensures c.loop-member-test.true).0 in
    (cutting.within (node_at cutting.nodes.now k)
    (in_at cutting.nodes.now k (record { unknown = 0; point = 0; source = 0 }) within)).1

pub returns-in-Some : goal.returns-in-Some
returns-in-Some c =
    let cutting = c.args.self.now in
    found_blocker cutting.nodes.now cutting.classes.items cutting.sized c.args.gone.now c.args.head c.members_of-member-items.result.now
    c.members_of-member-items.ensures c.loop-member.member-index c.in-Some.place c.loop-member-test.true c.in-Some.ensures

pub returns : goal.returns
returns c =
    let cutting = c.args.self.now in
    no_blocker cutting.nodes.now cutting.classes.items cutting.sized c.args.gone.now c.args.head c.members_of-member-items.result.now
    c.members_of-member-items.ensures c.loop-member.member-index c.loop-member-test.false c.loop-member.invariant
