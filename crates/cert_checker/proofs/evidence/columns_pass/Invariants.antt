use Rattle.std.proofs.Common.{◌≡◌, drop}
use Rattle.std.specs.Prelude.{Some, slice_get}
use Rattle.flow_edges.specs.declared.edge.Edge.{Edge}
use Rattle.flow_systems.specs.declared.spot.Site.{Site}
use Rattle.flow_systems.specs.View.{equations_of}
use Rattle.theory_validity.specs.Faults.{Fault}
use Rattle.cert_checker.specs.Events.{first_stop}
use Rattle.cert_checker.specs.EvidenceEvents.{columns_events, columns_of}
use Rattle.cert_checker.proofs.evidence.columns_pass.Given as goal

abbrev pub invariant-loop-column : goal.invariant-loop-column
invariant-loop-column l = (e : Edge) → slice_get l.system.flow.edges l.edge ≡ Some e → (site : Site) (fault : Fault) →
    first_stop (columns_events site fault (equations_of l.system) e l.rows l.guards l.goal (columns_of (equations_of l.system) e))
    ≡ first_stop (columns_events site fault (equations_of l.system) e l.rows l.guards l.goal
    (drop l.column (columns_of (equations_of l.system) e)))
