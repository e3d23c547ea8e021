use Rattle.std.proofs.Common.{◌≡◌, ◌++◌, take}
use Rattle.flow_edges.specs.Steps.{guards}
use Rattle.flow_edges.specs.Trails.{kept}
use Rattle.flow_transitions.proofs.choices.add_guards.Given as goal

abbrev pub invariant-loop-form : goal.invariant-loop-form
invariant-loop-form l = l.actions.items ≡ kept (l.initial.actions.items ++ guards (take l.form-index l.forms))
