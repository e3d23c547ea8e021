use Rattle.std.proofs.Common.{◌∙◌, ◌*◌, false, length, get_or, sym, ap, subst, arith}
use Rattle.flow_systems.specs.View.{equations_of}
use Rattle.solve_offers.specs.AtBounds.{vector_at}
use Rattle.solve_offers.specs.Improvement.{AreImproved}
use Rattle.solve_offers.proofs.at_bounds.KnownValues.{known_settled}
use Rattle.solve_offers.proofs.improvement.Settled.{point_keeps, point_settled}
use Rattle.solve_offers.proofs.improvement.improve_point.Goals as goal

pub is_settled-requires : goal.is_settled-requires
is_settled-requires g c =
    let size = c.requires.known.marks.size in
    let within = c.requires.point in
    omega (arith, size, within)

pub mark-requires : goal.mark-requires
mark-requires g c =
    let size = c.offer_edges.ensures.known.marks.size in
    let within = c.requires.point in
    omega (arith, size, within)

pub returns-then-is_settled-clause-improved : goal.returns-then-is_settled-clause-improved
returns-then-is_settled-clause-improved g c =
    point_keeps c.args.at.now.system.now c.args.at.now.bounds.now _ c.args.point c.requires.point c.args.pick.now
    (λ u l e. c.requires.known.settled u l
    (ap (λ p. get_or c.args.known.now.settled.items p false) e ∙ sym c.is_settled.ensures ∙ c.if-is_settled.true))

pub returns-then-branch-clause-improved : goal.returns-then-branch-clause-improved
returns-then-branch-clause-improved g c =
    let system = c.args.at.now.system.now in
    subst (AreImproved (equations_of system) (vector_at system c.args.at.now.bounds.now) _ (c.args.point * length system.template)
    (length system.template) c.args.pick.now c.offer_edges.new.pick) c.if-branch.true c.in_ok-offer_edges.ensures.improved

pub returns-clause-improved : goal.returns-clause-improved
returns-clause-improved g c =
    let system = c.args.at.now.system.now in
    subst (AreImproved (equations_of system) (vector_at system c.args.at.now.bounds.now) _ (c.args.point * length system.template)
    (length system.template) c.args.pick.now c.offer_edges.new.pick) c.if-branch.false c.in_ok-offer_edges.ensures.improved

pub returns-clause-known : goal.returns-clause-known
returns-clause-known g c =
    let system = c.args.at.now.system.now in
    let bounds = c.args.at.now.bounds.now in
    known_settled system bounds c.offer_edges.new.known c.mark.new.self c.args.point c.offer_edges.ensures.known c.mark.ensures.values
    c.mark.ensures.settled c.mark.ensures.lists
    (point_settled system bounds _ c.args.point c.requires.point c.args.pick.now c.offer_edges.new.pick
    (subst (AreImproved (equations_of system) (vector_at system bounds) _ (c.args.point * length system.template)
    (length system.template) c.args.pick.now c.offer_edges.new.pick) c.if-branch.false c.in_ok-offer_edges.ensures.improved))
