use Rattle.std.proofs.Common.{◌∙◌, sym}
use Rattle.solve_joint.proofs.group.Members.{has_in, in_same, in_more}
use Rattle.solve_joint.proofs.group.Group.add_new.Goals as goal

pub returns-then-has : goal.returns-then-has
returns-then-has c = in_same c.args.number c.args.self.now (has_in c.args.number c.args.self.now (sym c.has.ensures ∙ c.if-has.true))

pub returns : goal.returns
returns c = in_more c.args.number c.args.self.now c.add.new.self c.in_ok-add.ensures
