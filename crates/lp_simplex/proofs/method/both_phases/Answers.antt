use Rattle.std.proofs.Common.{◌≡◌, ◌≢◌, ◌+◌, true, sym, ◌∙◌, subst, arith}
use Rattle.std.specs.Prelude.{IfOk}
use Rattle.std.proofs.lemmas.Result.{err_from_is_err_and, on_ok_weaker, IfErr-weaker}
use Rattle.base_numbers.specs.Rational.{zero_ℚ}
use Rattle.lp_theory.specs.Simplex.{names}
use Rattle.lp_theory.specs.Run.{main_phase, aux_phase}
use Rattle.lp_theory.proofs.run.PhaseRuns.{lowest_is}
use Rattle.lp_dictionary.specs.Exact.{exact}
use Rattle.lp_dictionary.specs.PivotOperations.{pivot_operations}
use Rattle.lp_simplex.specs.declared.outcome.Outcome.TheVariants.{Empty}
use Rattle.lp_simplex.specs.declared.phase.End.TheVariants.{Left}
use Rattle.lp_simplex.specs.Operations.{whole_phase, run_operations}
use Rattle.lp_simplex.specs.Outcomes.{IsOutcomeOf}
use Rattle.lp_simplex.specs.Answers.{EndsPhase, EntersRefused, RefusesRun}
use Rattle.lp_simplex.proofs.method.Begins.{first_pivot, two_goals, begins_main}
use Rattle.lp_simplex.proofs.method.Ends.{shown_end, cols_apart_end, multipliers_end, lp_main_is, lp_empty_is, refused_first, fits_empty}
use Rattle.lp_simplex.proofs.method.Ends.{not_left}
use Rattle.lp_simplex.proofs.method.Counted.{rows_counted, begins_entered, first_fits, refused_entered, run_left}
use Rattle.lp_simplex.proofs.method.Counted.{refused_left}
use Rattle.lp_simplex.proofs.method.both_phases.Goals as goal

pub enter_auxiliary-requires-clause-row : goal.enter_auxiliary-requires-clause-row
enter_auxiliary-requires-clause-row g c =
    let P = exact g.F.OrderedField.meaning c.args.problem.now in
    let l = (lowest_is P c.args.row c.requires.least).below in
    (first_pivot P c.args.row (g.T.Tableau.table c.args.tableau.now) l c.requires.table).0

pub enter_auxiliary-requires-clause-col : goal.enter_auxiliary-requires-clause-col
enter_auxiliary-requires-clause-col g c =
    let P = exact g.F.OrderedField.meaning c.args.problem.now in
    let cols = c.len-cols.ensures in
    let l = (lowest_is P c.args.row c.requires.least).below in
    let w = (first_pivot P c.args.row (g.T.Tableau.table c.args.tableau.now) l c.requires.table).1 in
    omega (arith, w, cols)

pub enter_auxiliary-requires-clause-entry : goal.enter_auxiliary-requires-clause-entry
enter_auxiliary-requires-clause-entry g c =
    let P = exact g.F.OrderedField.meaning c.args.problem.now in
    let T = g.T.Tableau.table c.args.tableau.now in
    let cols = c.len-cols.ensures in
    let l = (lowest_is P c.args.row c.requires.least).below in
    subst (λ x. T.entry c.args.row x ≢ zero_ℚ) (sym cols) (first_pivot P c.args.row T l c.requires.table).2

pub returns-in_err-enter_auxiliary-clause-refused : goal.returns-in_err-enter_auxiliary-clause-refused
returns-in_err-enter_auxiliary-clause-refused g c =
    let m = g.F.OrderedField.meaning in
    let L = g.F.OrderedField.LIMIT in
    let P = exact m c.args.problem.now in
    let T = g.T.Tableau.table c.args.tableau.now in
    let cols = c.len-cols.ensures in
    let l = (lowest_is P c.args.row c.requires.least).below in
    let q = err_from_is_err_and c.from_residual.result c.from_residual.ensures.1 in
    rw (q.1, q.2)
    (refused_first L P c.args.row c.requires.least l T c.requires.table m c.in_err-enter_auxiliary.field-0.0
    (subst (λ x. EntersRefused m L (pivot_operations T c.args.row x) c.in_err-enter_auxiliary.field-0.0) cols
    c.in_err-enter_auxiliary.ensures.refused))

pub run_phase-requires-clause-begins : goal.run_phase-requires-clause-begins
run_phase-requires-clause-begins g c =
    let L = g.F.OrderedField.LIMIT in
    let P = exact g.F.OrderedField.meaning c.args.problem.now in
    let cols = c.len-cols.ensures in
    begins_entered L P c.args.row (g.T.Tableau.table c.args.tableau.now) c.len-cols.result c.requires.least c.requires.table cols
    (g.T.Tableau.table c.enter_auxiliary.new.tableau) c.in_ok-enter_auxiliary.ensures.entered

pub returns-in_err-ended-clause-refused : goal.returns-in_err-ended-clause-refused
returns-in_err-ended-clause-refused g c =
    let m = g.F.OrderedField.meaning in
    let L = g.F.OrderedField.LIMIT in
    let P = exact m c.args.problem.now in
    let cols = c.len-cols.ensures in
    let q = err_from_is_err_and c.from_residual-in_err-ended.result c.from_residual-in_err-ended.ensures.1 in
    rw (q.1, q.2)
    (refused_entered L P c.args.row (g.T.Tableau.table c.args.tableau.now) c.len-cols.result c.requires.least c.requires.table cols
    c.in_ok-enter_auxiliary.ensures.fits m c.in_err-ended.field-0.0 c.in_err-ended.ensures.refused)

pub leave_first-requires-clause-goals : goal.leave_first-requires-clause-goals
leave_first-requires-clause-goals g c =
    let L = g.F.OrderedField.LIMIT in
    let P = exact g.F.OrderedField.meaning c.args.problem.now in
    two_goals L P (g.T.Tableau.table c.run_phase.new.tableau) c.in_ok-ended.ended.end c.in_ok-ended.ended.pivots c.in_ok-ended.ensures.ends

pub leave_first-requires-clause-auxiliary : goal.leave_first-requires-clause-auxiliary
leave_first-requires-clause-auxiliary g c =
    let L = g.F.OrderedField.LIMIT in
    let P = exact g.F.OrderedField.meaning c.args.problem.now in
    let U = g.T.Tableau.table c.run_phase.new.tableau in
    let cols = c.len-cols.ensures in
    let begins = begins_entered L P c.args.row (g.T.Tableau.table c.args.tableau.now) c.len-cols.result c.requires.least c.requires.table
    cols (g.T.Tableau.table c.enter_auxiliary.new.tableau) c.in_ok-enter_auxiliary.ensures.entered in
    let w = subst (λ x. EndsPhase L P true U x c.in_ok-ended.ended.pivots) c.in-Left.is c.in_ok-ended.ensures.ends in
    (shown_end L P true 1 (g.T.Tableau.table c.enter_auxiliary.new.tableau) U Left c.in_ok-ended.ended.pivots begins w).all_cols 0
    (omega arith) w.why

pub second_phase-requires-clause-begins : goal.second_phase-requires-clause-begins
second_phase-requires-clause-begins g c =
    let L = g.F.OrderedField.LIMIT in
    let P = exact g.F.OrderedField.meaning c.args.problem.now in
    let U = g.T.Tableau.table c.run_phase.new.tableau in
    let w = subst (λ x. EndsPhase L P true U x c.in_ok-ended.ended.pivots) c.in-Left.is c.in_ok-ended.ensures.ends in
    begins_main L P c.args.row U (g.T.Tableau.table c.leave_first.new.self) c.in_ok-ended.ended.pivots c.requires.least w
    c.leave_first.ensures.left

pub goal_multipliers-requires : goal.goal_multipliers-requires
goal_multipliers-requires g c =
    let m = g.F.OrderedField.meaning in
    let L = g.F.OrderedField.LIMIT in
    let P = exact m c.args.problem.now in
    let U = g.T.Tableau.table c.run_phase.new.tableau in
    let rows = rows_counted m c.args.problem.now c.len-rows.result c.len-rows.ensures in
    let cols = c.len-cols.ensures in
    let begins = begins_entered L P c.args.row (g.T.Tableau.table c.args.tableau.now) c.len-cols.result c.requires.least c.requires.table
    cols (g.T.Tableau.table c.enter_auxiliary.new.tableau) c.in_ok-enter_auxiliary.ensures.entered in
    let e = c.in_ok-ended.ensures.ends in
    let r = e.rows in
    let o = e.goals in
    let v = e.width in
    let width : c.len-cols.result + 1 ≡ U.width = omega (arith, v, cols) in
    record {
      rows = omega (arith, rows, r, o);
      width = width;
      apart = cols_apart_end L P true 1 (g.T.Tableau.table c.enter_auxiliary.new.tableau) U c.in_ok-ended.ended.end
          c.in_ok-ended.ended.pivots begins e (c.len-cols.result + 1) width;
      fresh = c.in_ok-ended.ensures.fresh;
    }

pub returns-in-Left-clause-outcome : goal.returns-in-Left-clause-outcome
returns-in-Left-clause-outcome g c =
    let m = g.F.OrderedField.meaning in
    let L = g.F.OrderedField.LIMIT in
    let P = exact m c.args.problem.now in
    let U = g.T.Tableau.table c.run_phase.new.tableau in
    let w = subst (λ x. EndsPhase L P true U x c.in_ok-ended.ended.pivots) c.in-Left.is c.in_ok-ended.ensures.ends in
    subst (λ x. IfOk c.second_phase.result (λ o. IsOutcomeOf m P x o)) (sym (lp_main_is P c.args.row c.requires.least w.why))
    c.second_phase.ensures.outcome

pub returns-in-Left-clause-fits : goal.returns-in-Left-clause-fits
returns-in-Left-clause-fits g c =
    let L = g.F.OrderedField.LIMIT in
    let P = exact g.F.OrderedField.meaning c.args.problem.now in
    let U = g.T.Tableau.table c.run_phase.new.tableau in
    let w = subst (λ x. EndsPhase L P true U x c.in_ok-ended.ended.pivots) c.in-Left.is c.in_ok-ended.ensures.ends in
    let cols = c.len-cols.ensures in
    let run = run_left L P c.args.row (g.T.Tableau.table c.args.tableau.now) c.len-cols.result c.requires.least c.requires.table cols
    c.in_ok-enter_auxiliary.ensures.fits U c.in_ok-ended.ended.pivots w in
    on_ok_weaker c.second_phase.result (λ q. run ∙ q) c.second_phase.ensures.fits

pub returns-in-Left-clause-refused : goal.returns-in-Left-clause-refused
returns-in-Left-clause-refused g c =
    let m = g.F.OrderedField.meaning in
    let L = g.F.OrderedField.LIMIT in
    let P = exact m c.args.problem.now in
    let U = g.T.Tableau.table c.run_phase.new.tableau in
    let cols = c.len-cols.ensures in
    let w = subst (λ x. EndsPhase L P true U x c.in_ok-ended.ended.pivots) c.in-Left.is c.in_ok-ended.ensures.ends in
    IfErr-weaker c.second_phase.result (λ e. RefusesRun m L (whole_phase P (main_phase P)) e) (λ e. RefusesRun m L (run_operations P) e)
    (λ e q. refused_left L P c.args.row (g.T.Tableau.table c.args.tableau.now) c.len-cols.result c.requires.least c.requires.table cols
    c.in_ok-enter_auxiliary.ensures.fits U c.in_ok-ended.ended.pivots w m e q) c.second_phase.ensures.refused

pub returns-in_ok-goal_multipliers-in_default : goal.returns-in_ok-goal_multipliers-in_default
returns-in_ok-goal_multipliers-in_default g c =
    let m = g.F.OrderedField.meaning in
    let L = g.F.OrderedField.LIMIT in
    let P = exact m c.args.problem.now in
    let T = g.T.Tableau.table c.args.tableau.now in
    let U = g.T.Tableau.table c.run_phase.new.tableau in
    let rows = rows_counted m c.args.problem.now c.len-rows.result c.len-rows.ensures in
    let cols = c.len-cols.ensures in
    let begins = begins_entered L P c.args.row (g.T.Tableau.table c.args.tableau.now) c.len-cols.result c.requires.least c.requires.table
    cols (g.T.Tableau.table c.enter_auxiliary.new.tableau) c.in_ok-enter_auxiliary.ensures.entered in
    let e = c.in_ok-ended.ensures.ends in
    let v = e.width in
    let width : c.len-cols.result + 1 ≡ U.width = omega (arith, v, cols) in
    let basic = not_left (names P) (aux_phase P) U c.in_ok-ended.ended.end e.why c.in_default.not-Left in
    record {
      outcome = subst (λ x. IsOutcomeOf m P x (Empty c.in_ok-goal_multipliers-in_default.field-0))
          (sym (lp_empty_is P c.args.row c.requires.least basic))
          (multipliers_end L P true 1 (g.T.Tableau.table c.enter_auxiliary.new.tableau) U c.in_ok-ended.ended.end
          c.in_ok-ended.ended.pivots begins e m c.len-rows.result c.len-cols.result (c.len-cols.result + 1)
          c.in_ok-goal_multipliers-in_default.field-0.items
          rows cols width c.in_ok-goal_multipliers-in_default.ensures);
      fits = fits_empty L P c.args.row c.requires.least (lowest_is P c.args.row c.requires.least).below T c.requires.table
          (first_fits L P c.args.row T c.len-cols.result c.requires.least c.requires.table cols c.in_ok-enter_auxiliary.ensures.fits)
          e.fits basic;
      refused = tt;
    }
