use Rattle.std.proofs.Common.{refl, subst}
use Rattle.flow_systems.specs.View.{equations_of}
use Rattle.solve_transformer.specs.Values.{IsOperatorFault}
use Rattle.solve_offers.specs.AtBounds.{vector_at, edge_at, row_at}
use Rattle.solve_rounds.proofs.growing.tested_value.Goals as goal

pub returns-in-Ok-clause-value : goal.returns-in-Ok-clause-value
returns-in-Ok-clause-value c =
    let system = c.args.system.now in
    record {
      is_value = c.in-Ok.ensures.value;
      supremum = c.in-Ok.ensures.supremum;
      evidence = c.in-Ok.ensures.evidence;
    }

pub returns-in-Err-Wide-clause-stop : goal.returns-in-Err-Wide-clause-stop
returns-in-Err-Wide-clause-stop c =
    let system = c.args.system.now in
    record {
      round = refl;
      part = c.in-Err-Wide.part;
      site = refl;
      wide = subst (IsOperatorFault (equations_of system) (vector_at system c.args.bounds.now) (edge_at system c.args.edge)
          (row_at system c.args.row)) c.in-Err-Wide.field-0-is
          c.in-Err-Wide.ensures.refused;
    }
