use Rattle.std.proofs.Common.{drop}
use Rattle.lang_tree.specs.View.{statements_of}
use Rattle.flow_transitions.proofs.choosing.Chosen.{IsChosen}
use Rattle.flow_transitions.proofs.choices.chosen.Given as goal

abbrev pub invariant-loop-act : goal.invariant-loop-act
invariant-loop-act l =
    IsChosen (statements_of l.acts) l.initial.number (statements_of (drop l.act-index l.acts)) l.actions.items l.left l.number
