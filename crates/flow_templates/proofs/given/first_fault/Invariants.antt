use Rattle.std.proofs.Common.{◌≡◌, ◌+◌, drop}
use Rattle.flow_templates.specs.RowFaults.{faults_from}
use Rattle.flow_templates.proofs.given.first_fault.Given as goal

abbrev pub invariant-loop-i : goal.invariant-loop-i
invariant-loop-i l = faults_from l.vars 1 l.rows ≡ faults_from l.vars (l.i + 1) (drop l.i l.rows)
