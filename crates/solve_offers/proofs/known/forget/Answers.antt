use Rattle.std.proofs.Common.{◌/◌, ◌<◌, length, get_or, sym, ap, subst}
use Rattle.std.proofs.lemmas.List.Elements.{Contains-get_or}
use Rattle.theory_validity.proofs.certificates.Needs.{in_of_contains}
use Rattle.solve_offers.specs.Known.{Forgets}
use Rattle.solve_offers.proofs.known.Unchanged.{unknown_none, unknown_more, known_after}
use Rattle.solve_offers.proofs.offers.Unknowns.{point_within}
use Rattle.solve_offers.proofs.known.forget.Goals as goal

pub loop-unknown-init : goal.loop-unknown-init
loop-unknown-init c = unknown_none c.args.system.now c.args.changed.now c.args.known.now c.requires.entries c.requires.marks

pub forget_point-requires-clause-point : goal.forget_point-requires-clause-point
forget_point-requires-clause-point c =
    let system = c.args.system.now in
    let changed = c.args.changed.now in
    let i = c.loop-unknown.unknown-index in
    subst (λ rows. get_or changed i 0 / rows < length system.flow.points) (sym (ap (λ t. length t) c.as_slice.ensures.rows))
    (point_within (get_or changed i 0) (length system.flow.points) (length system.template)
    (c.requires.numbers (get_or changed i 0)
    (in_of_contains changed (get_or changed i 0) (Contains-get_or changed i 0 c.loop-unknown-test.true))))

pub loop-unknown-preserved : goal.loop-unknown-preserved
loop-unknown-preserved c =
    let system = c.args.system.now in
    let i = c.loop-unknown.unknown-index in
    unknown_more system c.args.changed.now c.args.known.now c.loop-unknown.known c.forget_point.new.known i c.loop-unknown.invariant
    (subst (λ rows. Forgets system (get_or c.args.changed.now i 0 / rows) c.loop-unknown.known c.forget_point.new.known)
    (ap (λ t. length t) c.as_slice.ensures.rows) c.forget_point.ensures)

pub returns : goal.returns
returns c before after known others = known_after c.args.system.now c.args.changed.now c.args.known.now before after others
    c.loop-unknown.known c.loop-unknown.unknown-index c.loop-unknown-test.false known c.loop-unknown.invariant
