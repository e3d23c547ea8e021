use Rattle.std.proofs.Common.{subst}
use Rattle.flow_systems.specs.TraceTests.{TraceAnswers}
use Rattle.flow_systems.proofs.follow.WithConstants.{actions_kept}
use Rattle.flow_systems.proofs.follow.trace_value.Goals as goal

pub returns : goal.returns
returns c = λ e cs f g. subst (λ actions. TraceAnswers actions c.args.trace.now.start c.args.trace.now.free cs c.value_along.result)
    (actions_kept e.actions) (c.value_along.ensures e cs f g)
