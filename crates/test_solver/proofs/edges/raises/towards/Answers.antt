use Rattle.std.proofs.Common.{◌∙◌, ◌<◌, length, sym, arith}
use Rattle.flow_systems.specs.View.{equations_of}
use Rattle.cert_types.specs.Certificates.{pieces_of}
use Rattle.solve_raise.proofs.lows.Raised.{sized}
use Rattle.test_solver.proofs.edges.raises.towards.Goals as goal

pub raise-requires-clause-sizes : goal.raise-requires-clause-sizes
raise-requires-clause-sizes c =
    let l : 0 < length c.in_ok-system.system.flow.edges = omega (arith, c.in_ok-system.ensures.edges) in
    rw c.best.ensures
    (sized (equations_of c.in_ok-system.system) (length c.in_ok-system.system.template) 2 0 (pieces_of c.in_ok-trace.trace) l
    (c.in_ok-trace.ensures.0 ∙ sym c.in_ok-system.ensures.names) (λ e f. c.in_ok-trace.ensures.1
    ∙ sym (c.in_ok-system.ensures.free e f)))
