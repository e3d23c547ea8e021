use Rattle.std.proofs.Common.{subst}
use Rattle.lp_simplex.specs.Choices.{RatioAt}
use Rattle.lp_simplex.proofs.scan.Scans.{candidate_past}
use Rattle.lp_simplex.proofs.scan.next_candidate.Goals as goal

pub returns-in-None : goal.returns-in-None
returns-in-None g c =
    let m = g.F.OrderedField.meaning in
    let T = g.T.Tableau.table c.args.tableau.now in (
      candidate_past T c.args.col c.args.row m c.args.best c.requires.best
          (subst (RatioAt m T c.args.col c.args.row) c.in-None.is c.in_ok-ratio.ensures.0),
      c.in_ok-ratio.ensures.1,
    )
