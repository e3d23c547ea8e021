use Rattle.std.proofs.Common.{◌∙◌, sym}
use Rattle.solve_joint.proofs.closure.Finding.{found_already, found_new}
use Rattle.solve_joint.proofs.closure.Search.find.Goals as goal

pub returns-then-at : goal.returns-then-at
returns-then-at c = found_already c.args.point c.args.self.now.found c.args.self.now.open.items (sym c.at.ensures ∙ c.if-at.true)

pub returns : goal.returns
returns c = found_new c.args.point c.args.self.now.found c.args.self.now.open.items _ _ (sym c.at.ensures ∙ c.if-at.false) c.requires
    c.set.ensures c.in_ok-push.ensures.items
