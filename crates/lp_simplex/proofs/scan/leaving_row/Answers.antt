use Rattle.std.proofs.Common.{◌≡◌, None, subst, arith}
use Rattle.std.proofs.lemmas.Result.{err_from_is_err_and}
use Rattle.base_fractions.specs.Operation.{first_wide, operation_of}
use Rattle.lp_dictionary.specs.Listed.{joined}
use Rattle.lp_dictionary.proofs.listed.Joins.{joined_fits_none, joined_fits_more}
use Rattle.lp_simplex.specs.Operations.{ratio_operation}
use Rattle.lp_simplex.specs.Choices.{CandidateOf}
use Rattle.lp_simplex.proofs.scan.Scans.{ratios_refused, ratios_fit}
use Rattle.lp_simplex.proofs.scan.leaving_row.Goals as goal

pub loop-row-init : goal.loop-row-init
loop-row-init g c = record {
  best = λ i l. absurd (omega (arith, l));
  fits =
      joined_fits_none g.F.OrderedField.LIMIT (ratio_operation (g.T.Tableau.table c.args.tableau.now) c.args.col);
}

pub returns-in_err-best : goal.returns-in_err-best
returns-in_err-best g c =
    let m = g.F.OrderedField.meaning in
    let T = g.T.Tableau.table c.args.tableau.now in
    let p = err_from_is_err_and c.from_residual.result c.from_residual.ensures.1 in
    rw (p.1, p.2)
    (ratios_refused g.F.OrderedField.LIMIT T c.args.col c.args.rows c.loop-row.row (operation_of m c.in_err-best.field-0.0) c.requires.rows
    c.loop-row-test.true c.loop-row.invariant.fits c.in_err-best.ensures)

pub loop-row-preserved : goal.loop-row-preserved
loop-row-preserved g c = record {
  best = c.in_ok-best.ensures.0;
  fits = joined_fits_more g.F.OrderedField.LIMIT c.loop-row.row (ratio_operation (g.T.Tableau.table c.args.tableau.now) c.args.col)
      c.loop-row.invariant.fits c.in_ok-best.ensures.1;
}

pub returns-in-None : goal.returns-in-None
returns-in-None g c =
    let m = g.F.OrderedField.meaning in
    let T = g.T.Tableau.table c.args.tableau.now in
    let e : c.loop-row.row ≡ c.args.rows = omega arith in
    let b = subst (λ n. CandidateOf m T c.args.col n c.loop-row.best) e c.loop-row.invariant.best in (
      subst (CandidateOf m T c.args.col c.args.rows) c.in-None.is b,
      ratios_fit g.F.OrderedField.LIMIT T c.args.col c.args.rows
          c.requires.rows (subst (λ n. first_wide g.F.OrderedField.LIMIT (joined n (ratio_operation T c.args.col)) ≡ None) e
          c.loop-row.invariant.fits),
    )

pub returns-in-Some : goal.returns-in-Some
returns-in-Some g c =
    let m = g.F.OrderedField.meaning in
    let T = g.T.Tableau.table c.args.tableau.now in
    let e : c.loop-row.row ≡ c.args.rows = omega arith in
    let b = subst (λ n. CandidateOf m T c.args.col n c.loop-row.best) e c.loop-row.invariant.best in
    let d = subst (CandidateOf m T c.args.col c.args.rows) c.in-Some.is b in (
      d.0,
      ratios_fit g.F.OrderedField.LIMIT T c.args.col c.args.rows c.requires.rows
          (subst (λ n. first_wide g.F.OrderedField.LIMIT (joined n (ratio_operation T c.args.col)) ≡ None) e c.loop-row.invariant.fits),
    )
