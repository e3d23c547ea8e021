use Rattle.std.proofs.Common.{◌∙◌, ap, sym, eq-eqb}
use Rattle.flow_edges.specs.declared.edge.Edge.{Edge}
use Rattle.cert_checker.proofs.needs.Left.{into_end, into_first, into_no}
use Rattle.cert_checker.proofs.events.Supply.{eqb_no}
use Rattle.cert_checker.proofs.needs.edge_into.Goals as goal

pub returns-then-edges-number-clause-found : goal.returns-then-edges-number-clause-found
returns-then-edges-number-clause-found c = λ r.
    let edge = c.index-edges-number.result in
    let to = ap (λ (x : Edge). x.to) c.index-edges-number.is ∙ c.if-edges-number.true in
    into_first c.args.point r c.args.edges.now c.loop-number.number edge c.loop-number-test.true c.index-edges-number.is
    (eq-eqb edge.to c.args.point to) c.args.first (c.loop-number.invariant r) to

pub loop-number-preserved : goal.loop-number-preserved
loop-number-preserved c = λ r.
    let edge = c.index-edges-number.result in
    c.loop-number.invariant r
    ∙ into_no c.args.point r c.args.edges.now c.loop-number.number edge c.loop-number-test.true c.index-edges-number.is
    (eqb_no edge.to c.args.point (λ to. c.if-edges-number.false (ap (λ (x : Edge). x.to) (sym c.index-edges-number.is) ∙ to)))

pub returns-clause-found : goal.returns-clause-found
returns-clause-found c = λ r.
    c.loop-number.invariant r ∙ into_end c.args.point r c.args.edges.now c.loop-number.number c.loop-number-test.false
