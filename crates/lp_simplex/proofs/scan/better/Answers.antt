use Rattle.std.proofs.Common.{subst, subst₂}
use Rattle.lp_simplex.specs.Choices.{CandidateOf, IsBefore}
use Rattle.lp_simplex.proofs.scan.Scans.{candidate_kept, candidate_found, candidate_first, candidate_none}
use Rattle.lp_simplex.proofs.scan.better.Goals as goal
use Rattle.lp_simplex.proofs.scan.better.Goals.{in-Some+else-not-is_before, in_default}

pub returns-then-not-is_before : goal.returns-then-not-is_before
returns-then-not-is_before g c =
    let m = g.F.OrderedField.meaning in
    let T = g.T.Tableau.table c.args.tableau.now in
    let h = subst (CandidateOf m T c.args.col c.args.row) c.in-Some.is c.requires.best in (
      candidate_kept T c.args.col c.args.row c.in-Some.other.row h.0 c.requires.ratio.0
          (subst₂ (λ x y. ¬ (IsBefore x (T.row_name c.args.row) y (T.row_name c.in-Some.other.row))) c.requires.ratio.1 h.1
          c.if-not-is_before.ensures),
      h.1,
    )

pub returns : goal.returns
returns g c =
    let m = g.F.OrderedField.meaning in
    let T = g.T.Tableau.table c.args.tableau.now in
    elim c.match-best.branch [
      | in-Some+else-not-is_before w ↦ (
        (let h = subst (CandidateOf m T c.args.col c.args.row) w.in-Some.is c.requires.best in
            candidate_found T c.args.col c.args.row w.in-Some.other.row h.0 c.requires.ratio.0
            (subst₂ (λ x y. IsBefore x (T.row_name c.args.row) y (T.row_name w.in-Some.other.row)) c.requires.ratio.1 h.1
            w.if-not-is_before.ensures)),
        c.requires.ratio.1,
      )
      | in_default w ↦ (
        candidate_first T c.args.col c.args.row (candidate_none m T c.args.col c.args.row c.args.best c.requires.best
            w.in_default.not-Some) c.requires.ratio.0,
        c.requires.ratio.1,
      )
    ]
