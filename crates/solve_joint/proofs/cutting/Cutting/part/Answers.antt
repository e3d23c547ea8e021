use Rattle.solve_joint.proofs.cutting.Blocking.{member_at}
use Rattle.solve_joint.proofs.cutting.Cutting.part.Goals as goal

pub bounds-self-member : goal.bounds-self-member
bounds-self-member c =
    let cutting = c.args.self.now in
    (member_at cutting.nodes.now cutting.classes.items cutting.sized c.args.head c.members_of-members.result.now
    c.loop-member.member-index c.members_of-members.ensures c.loop-member-test.true).0
