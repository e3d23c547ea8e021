use Rattle.std.proofs.Common.{[], ◌∷◌, length, ap}
use Rattle.flow_edges.specs.declared.edge.Action.TheVariants.{Guard, Havoc}
use Rattle.flow_rationals.specs.System.{start_actions}
use Rattle.flow_rationals.proofs.made.Steps.{two_pushed}
use Rattle.flow_rationals.proofs.edges.start_edge.Goals as goal

pub loop-k-preserved : goal.loop-k-preserved
loop-k-preserved c =
    let equations = c.args.equations.now in
    two_pushed (start_actions (length equations)) _ _ _ equations c.loop-k.k c.index-equations-k.result _ _ c.loop-k-test.true
    c.index-equations-k.is c.loop-k.invariant
    c.in_ok-push.ensures.items c.in_ok-push-2.ensures.items (ap (λ form. Havoc c.loop-k.k ∷ Guard form ∷ []) c.in_ok-start_form.ensures)
