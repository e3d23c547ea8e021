use Rattle.acsl_anchors.proofs.walked.Matches.{items_matches}
use Rattle.acsl_anchors.proofs.laws.scopes_are_walked.Goals as goal

pub returns : goal.returns
returns c = λ integers line n inside items before behind body numbered h.
    let m = items_matches integers line n inside items before (behind, body) h in
    record { same = m.behind numbered; numbered = m.numbered numbered }
