use Rattle.std.proofs.Common.{◌≡◌, take}
use Rattle.flow_edges.specs.Steps.{guards}
use Rattle.flow_edges.specs.Trails.{followed}
use Rattle.flow_edges.proofs.trail.Trail.after.Given as goal

abbrev pub invariant-loop-form : goal.invariant-loop-form
invariant-loop-form l = l.trail ≡ followed l.initial.trail (guards (take l.form-index l.form-items))
