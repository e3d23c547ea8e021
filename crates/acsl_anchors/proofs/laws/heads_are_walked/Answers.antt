use Rattle.acsl_anchors.proofs.walked.Parts.{first_passes}
use Rattle.acsl_anchors.proofs.laws.heads_are_walked.Goals as goal

pub returns : goal.returns
returns c = λ integers line n first before behind body numbered h.
    let p = first_passes integers line n first before (behind, body) h in
    record { same = p.behind numbered; numbered = p.numbered numbered }
