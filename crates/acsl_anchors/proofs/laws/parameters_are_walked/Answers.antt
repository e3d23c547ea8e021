use Rattle.acsl_anchors.proofs.walked.Functions.{parameters_pass}
use Rattle.acsl_anchors.proofs.walked.Numbered.{numbered_start}
use Rattle.acsl_anchors.proofs.laws.parameters_are_walked.Goals as goal

pub returns-clause-walked : goal.returns-clause-walked
returns-clause-walked c = λ integers line parameters before behind body numbered h.
    let p = parameters_pass integers line 0 parameters before (behind, body) h in
    record { same = p.behind numbered; numbered = p.numbered numbered }

pub returns-clause-start : goal.returns-clause-start
returns-clause-start c = numbered_start
