-- A state that breaks a case has a value for each variable.
use Rattle.std.proofs.Common.{◌≤◌, List, [], ◌∷◌, length, subst, arith}
use Rattle.base_numbers.specs.Rational.{zero_ℚ}
use Rattle.lang_tree.specs.Meaning.{put}
use Rattle.lang_tree.proofs.Put.{put_keeps}
use Rattle.flow_edges.specs.declared.edge.Action.{Action}
use Rattle.flow_edges.specs.declared.edge.Action.TheVariants.{Guard, Assign, Havoc, Check}
use Rattle.flow_systems.specs.States.{RationalState, Traces, valueℚ}
use Rattle.ask_verdicts.specs.Laws.{BreakingStatesHaveValues}

-- no variable loses its value along actions
trace_keeps : (actions : List Action) (x y : RationalState) → Traces actions x y → length x ≤ length y
trace_keeps [] x y h = subst (λ (z : RationalState). length z ≤ length y) h (omega arith)
trace_keeps (Guard form ∷ actions) x y h = trace_keeps actions x y h.1
trace_keeps (Assign var form ∷ actions) x y h =
    let kept = put_keeps zero_ℚ x var (valueℚ form x) in
    let rest = trace_keeps actions (put zero_ℚ x var (valueℚ form x)) y h in
    omega (arith, kept, rest)
trace_keeps (Havoc var ∷ actions) x y h =
    let kept = put_keeps zero_ℚ x var h.0 in
    let rest = trace_keeps actions (put zero_ℚ x var h.0) y h.1 in
    omega (arith, kept, rest)
trace_keeps (Check about ∷ actions) x y h = trace_keeps actions x y h

-- the start has one for each, and the actions lead from there
pub have_values : BreakingStatesHaveValues
have_values system z p before case x b =
    let kept = trace_keeps before b.start x b.trace in
    let size = b.size in
    omega (arith, kept, size)
