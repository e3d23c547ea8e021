use Rattle.std.proofs.Common.{◌<◌, length, refl, sym, subst, arith}
use Rattle.flow_systems.specs.View.{equations_of}
use Rattle.theory_validity.specs.Steps.{Placed, Sized}
use Rattle.cert_checker.specs.Items.{item_at}
use Rattle.cert_checker.proofs.names.is_named.Goals as goal

pub is_sized-requires : goal.is_sized-requires
is_sized-requires c =
    let rows = length c.args.system.now.template in
    let item = item_at rows c.args.step.now c.args.k in
    let placed : Placed (equations_of c.args.system.now) item = (c.is_placed.ensures item (c.unknown_at.ensures.point rows)
    (c.unknown_at.ensures.row rows) (c.edge_at-edge.ensures rows)).0 c.if-not-is_placed.false in
    subst (λ n. n < length c.args.system.now.flow.edges) (c.edge_at-edge.ensures rows) placed.edge_within

pub is_second_sized-requires-clause-edge : goal.is_second_sized-requires-clause-edge
is_second_sized-requires-clause-edge c =
    let rows = length c.args.system.now.template in
    let item = item_at rows c.args.step.now c.args.k in
    let placed : Placed (equations_of c.args.system.now) item = (c.is_placed.ensures item (c.unknown_at.ensures.point rows)
    (c.unknown_at.ensures.row rows) (c.edge_at-edge.ensures rows)).0 c.if-not-is_placed.false in
    subst (λ n. n < length c.args.system.now.flow.edges) (c.edge_at-edge.ensures rows) placed.edge_within

pub returns : goal.returns
returns c =
    let rows = length c.args.system.now.template in
    let item = item_at rows c.args.step.now c.args.k in
    let S = equations_of c.args.system.now in
    let placed : Placed S item = (c.is_placed.ensures item (c.unknown_at.ensures.point rows) (c.unknown_at.ensures.row rows)
    (c.edge_at-edge.ensures rows)).0 c.if-not-is_placed.false in
    let within = placed.row_within in
    let some : 0 < rows = omega (arith, within) in
    let unnamed = (c.is_repeated.ensures rows some).0 c.if-is_repeated.false in
    let sized : Sized S item item.low = subst (λ t. Sized S item t) (sym (c.low_at.ensures rows))
    ((c.is_sized.ensures item (c.edge_at-edge.ensures rows)).0 c.if-not-is_sized.false) in
    let second = c.is_second_sized.ensures item (c.edge_at-edge.ensures rows) refl in
    ((λ t. (placed, (unnamed, (sized, second.0 t)))), (λ h. second.1 h.1.1.1))
