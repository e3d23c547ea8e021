use Rattle.std.proofs.Common.{◌<◌, length, refl, ap, sym, ◌∙◌, subst, arith}
use Rattle.std.proofs.lemmas.Result.{err_from_is_err_and}
use Rattle.base_fractions.specs.Operation.{first_wide}
use Rattle.lp_dictionary.specs.Formulas.{combined_row}
use Rattle.lp_dictionary.specs.Faults.{Refuses}
use Rattle.lp_dictionary.specs.PivotOperations.{combination_row_operations}
use Rattle.lp_dictionary.specs.Entries.{value_at, Rises, HasNoZero}
use Rattle.lp_dictionary.specs.Keeps.{Keeps}
use Rattle.lp_sparse.specs.Rows.{numbers, rows_operations}
use Rattle.lp_sparse.proofs.rows.RowsAt.{row_read, row_kept}
use Rattle.lp_sparse.proofs.rows.Answering.{fault_of_more}
use Rattle.lp_sparse.proofs.rows.RowsOver.{rows_more, rows_past, no_zeros_more, fits_none, fits_more, fits_past, row_refused}
use Rattle.lp_sparse.proofs.rows.combine_rows.Goals as goal
use Rattle.lp_sparse.proofs.rows.combine_rows.Goals.{then-i-row+in_ok-combine_row, else-i-row}

pub loop-i-init : goal.loop-i-init
loop-i-init g c =
    let m = g.F.OrderedField.meaning in
    record {
      later = λ k l. refl;
      combined = λ n r s k l d. absurd (omega (arith, l));
      no_zero = λ h. h;
      fits = λ n r s. fits_none g.F.OrderedField.LIMIT (numbers m c.args.rows.now) (value_at m c.args.above.now) c.args.row n c.args.col;
    }

pub combine_row-requires-clause-rising : goal.combine_row-requires-clause-rising
combine_row-requires-clause-rising g c =
    let rows = c.loop-i.rows in
    let l : c.loop-i.i < length c.loop-i.rows = omega arith in (
      c.requires.rising.0,
      subst (Rises 0 c.requires.rising.0) (sym (c.loop-i.invariant.later c.loop-i.i (omega arith))
          ∙ row_read rows c.loop-i.i c.index-rows-i.result l) (c.requires.rising.1 c.loop-i.i),
    )

pub returns-in_err-combine_row-clause-refused : goal.returns-in_err-combine_row-clause-refused
returns-in_err-combine_row-clause-refused g c =
    let m = g.F.OrderedField.meaning in
    let L = g.F.OrderedField.LIMIT in
    let old = c.args.rows.now in
    let i = c.loop-i.i in
    let b = value_at m c.args.above.now in
    let l : c.loop-i.i < length c.loop-i.rows = omega arith in
    let e = sym (c.loop-i.invariant.later i (omega arith)) ∙ row_read c.loop-i.rows i c.index-rows-i.result l in
    let p = err_from_is_err_and c.from_residual.result c.from_residual.ensures.1 in
    rw (p.1, p.2)
    (λ n r s.
    fault_of_more m L (combination_row_operations n (numbers m old i) b c.args.col)
    (rows_operations (numbers m old) b (length old) c.args.row n c.args.col) c.in_err-combine_row.field-0.0
    (λ o w. row_refused L (numbers m old) b c.args.row n c.args.col i (length old) o c.loop-i-test.true c.if-i-row.true
    (c.loop-i.invariant.fits n r s) w)
    (subst (λ xs. Refuses m L (combination_row_operations n (value_at m xs) b c.args.col) c.in_err-combine_row.field-0.0) (sym e)
    (c.in_err-combine_row.ensures.refused n (subst (Rises 0 n) e (r i)) s)))

pub loop-i-preserved : goal.loop-i-preserved
loop-i-preserved g c =
    let m = g.F.OrderedField.meaning in
    let L = g.F.OrderedField.LIMIT in
    let old = c.args.rows.now in
    let rows = c.loop-i.rows in
    let i = c.loop-i.i in
    let bs = c.args.above.now in
    let b = value_at m bs in
    let l : c.loop-i.i < length c.loop-i.rows = omega arith in
    let inv = c.loop-i.invariant in
    elim c.if-i-row.branch [
      | then-i-row+in_ok-combine_row w ↦
          let row = w.combine_row.new.row in
          let e = sym (inv.later i (omega arith)) ∙ row_read rows i w.index-rows-i.result l in
          rw w.rows-is record {
            later = λ k d. row_kept rows i k row (λ q. omega (arith, q, d)) ∙ inv.later k (omega (arith, d));
            combined = λ n r s. rows_more m i c.args.row n c.args.col bs old rows row (inv.combined n r s) l
                (subst (λ xs. Keeps m (combined_row (value_at m xs) b c.args.col) n row.entries.items) (sym e)
                (w.in_ok-combine_row.ensures.combined n (subst (Rises 0 n) e (r i)) s));
            no_zero = λ h. no_zeros_more m i rows row (inv.no_zero h) l (w.in_ok-combine_row.ensures.no_zero (subst (HasNoZero m) e (h i)));
            fits = λ n r s. fits_more L (numbers m old) b c.args.row n c.args.col i w.if-i-row.true (inv.fits n r s)
                (ap (λ xs. first_wide L (combination_row_operations n (value_at m xs) b c.args.col)) e
                ∙ w.in_ok-combine_row.ensures.fits n (subst (Rises 0 n) e (r i)) s);
          }
      | else-i-row w ↦ rw w.rows-is record {
        later = λ k d. inv.later k (omega (arith, d));
        combined = λ n r s. rows_past m i c.args.row n c.args.col bs old rows (inv.combined n r s) w.if-i-row.false;
        no_zero = λ h. inv.no_zero h;
        fits = λ n r s. fits_past L (numbers m old) b c.args.row n c.args.col i w.if-i-row.false (inv.fits n r s);
      }
    ]

pub returns-clause-combined : goal.returns-clause-combined
returns-clause-combined g c = λ n r s k l d. c.loop-i.invariant.combined n r s k (omega (arith, l)) d
