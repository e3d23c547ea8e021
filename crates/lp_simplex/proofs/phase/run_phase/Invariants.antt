use Rattle.std.proofs.Common.{◌≡◌, false}
use Rattle.lp_theory.specs.Simplex.{names}
use Rattle.lp_theory.specs.Run.{phase_of}
use Rattle.lp_theory.proofs.search.PhasePlaces.{pivots_left}
use Rattle.lp_dictionary.specs.Build.{width_of}
use Rattle.lp_dictionary.specs.Exact.{exact}
use Rattle.lp_simplex.proofs.phase.PhaseLoops.{Stands}
use Rattle.lp_simplex.proofs.phase.run_phase.Given as goal

abbrev pub invariant-loop-col : goal.invariant-loop-col
invariant-loop-col g l =
    let P = exact g.F.OrderedField.meaning l.problem in
    record {
      stands : Stands g.F.OrderedField.LIMIT P l.auxiliary (g.T.Tableau.table l.tableau) l.pivots;
      fresh : g.T.Tableau.spent l.tableau ≡ false;
      rows : l.rows ≡ P.rows;
      width : l.width ≡ width_of l.auxiliary P.cols;
    }

abbrev pub decreases-loop-col : goal.decreases-loop-col
decreases-loop-col g l =
    let P = exact g.F.OrderedField.meaning l.problem in
    pivots_left (names P) (phase_of P l.auxiliary) (g.T.Tableau.table l.tableau)
