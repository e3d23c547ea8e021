use Rattle.std.proofs.Common.{◌<◌, get_or, sym, subst}
use Rattle.solve_joint.proofs.group.Members.{in_at}
use Rattle.solve_joint.proofs.closure.Finding.{found_none, found_more, found_all}
use Rattle.solve_joint.proofs.closure.Search.find_all.Goals as goal

pub loop-point-init : goal.loop-point-init
loop-point-init c = found_none c.args.self.now.found c.args.self.now.open.items

pub find-requires : goal.find-requires
find-requires c = subst (λ n. get_or c.args.points.now c.loop-point.point-index 0 < n) (sym c.loop-point.invariant.size)
    (c.requires (get_or c.args.points.now c.loop-point.point-index 0)
    (in_at c.args.points.now c.loop-point.point-index 0 c.loop-point-test.true))

pub loop-point-preserved : goal.loop-point-preserved
loop-point-preserved c = found_more c.args.points.now c.loop-point.point-index c.args.self.now.found c.args.self.now.open.items
    c.loop-point.self.found c.loop-point.self.open.items c.find.new.self.found c.find.new.self.open.items c.loop-point-test.true
    c.loop-point.invariant c.in_ok-find.ensures

pub returns : goal.returns
returns c = found_all c.args.points.now c.loop-point.point-index c.args.self.now.found c.args.self.now.open.items
    c.loop-point.self.found c.loop-point.self.open.items c.loop-point-test.false c.loop-point.invariant
