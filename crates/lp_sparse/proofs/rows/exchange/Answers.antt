use Rattle.std.proofs.Common.{◌≡◌, ◌<◌, None, length, sym, ◌∙◌, subst, arith}
use Rattle.std.proofs.lemmas.Result.{err_from_is_err_and}
use Rattle.base_fractions.specs.Operation.{first_wide}
use Rattle.lp_dictionary.specs.Formulas.{divided_row}
use Rattle.lp_dictionary.specs.Faults.{Refuses}
use Rattle.lp_dictionary.specs.PivotOperations.{division_row_operations}
use Rattle.lp_dictionary.specs.Entries.{value_at, Rises, HasNoZero}
use Rattle.lp_dictionary.specs.Keeps.{Keeps}
use Rattle.lp_sparse.specs.Rows.{row_at, numbers, rows_operations, exchange_operations}
use Rattle.lp_sparse.proofs.rows.RowsAt.{row_read}
use Rattle.lp_sparse.proofs.rows.Answering.{fault_of_more}
use Rattle.lp_sparse.proofs.rows.RowsOver.{no_zeros_more}
use Rattle.lp_sparse.proofs.rows.Exchanging.{col_below, exchange_made, exchange_later, exchange_sooner}
use Rattle.lp_sparse.proofs.rows.exchange.Goals as goal

pub returns-in_err-divide_row-clause-refused : goal.returns-in_err-divide_row-clause-refused
returns-in_err-divide_row-clause-refused g c =
    let m = g.F.OrderedField.meaning in
    let L = g.F.OrderedField.LIMIT in
    let old = c.args.rows.now in
    let r = c.args.row in
    let t = row_read old r c.index-rows-row.result c.requires.row ∙ sym c.deref.ensures.value in
    let p = err_from_is_err_and c.from_residual.result c.from_residual.ensures.1 in
    rw (p.1, p.2)
    (λ n h.
    fault_of_more m L (division_row_operations n (numbers m old r) c.args.col)
    (exchange_operations (numbers m old) (length old) r n c.args.col) c.in_err-divide_row.field-0.0
    (λ o w. exchange_sooner L (numbers m old) (length old) r n c.args.col o w)
    (subst (λ xs. Refuses m L (division_row_operations n (value_at m xs) c.args.col) c.in_err-divide_row.field-0.0) (sym t)
    (c.in_err-divide_row.ensures.refused n (subst (Rises 0 n) t (h r)))))

pub returns-in_err-combine_rows-clause-refused : goal.returns-in_err-combine_rows-clause-refused
returns-in_err-combine_rows-clause-refused g c =
    let m = g.F.OrderedField.meaning in
    let L = g.F.OrderedField.LIMIT in
    let old = c.args.rows.now in
    let r = c.args.row in
    let t = row_read old r c.index-rows-row.result c.requires.row ∙ sym c.deref.ensures.value in
    let p = err_from_is_err_and c.from_residual-in_err-combine_rows.result c.from_residual-in_err-combine_rows.ensures.1 in
    rw (p.1, p.2)
    (λ n h.
    let kept = subst (λ xs. Keeps m (divided_row (value_at m xs) c.args.col) n c.divide_row.new.divided.items) (sym t)
    (c.in_ok-divide_row.ensures.divided n (subst (Rises 0 n) t (h r))) in
    let lent = subst (Keeps m (divided_row (numbers m old r) c.args.col) n) (sym c.deref-2.ensures.value) kept in
    let fits = subst (λ xs. first_wide L (division_row_operations n (value_at m xs) c.args.col) ≡ None) (sym t)
    (c.in_ok-divide_row.ensures.fits n (subst (Rises 0 n) t (h r))) in
    fault_of_more m L (rows_operations (numbers m old) (value_at m c.deref-2.result.now) (length old) r n c.args.col)
    (exchange_operations (numbers m old) (length old) r n c.args.col) c.in_err-combine_rows.field-0.0
    (λ o w. exchange_later L (numbers m old) (length old) r n c.args.col (value_at m c.deref-2.result.now)
    (col_below m n c.args.col (row_at old r) (h r) c.requires.pivot) lent.values fits ∙ w)
    (c.in_err-combine_rows.ensures.refused n h lent.rises))

pub returns-clause-exchanged : goal.returns-clause-exchanged
returns-clause-exchanged g c =
    let m = g.F.OrderedField.meaning in
    let old = c.args.rows.now in
    let r = c.args.row in
    let t = row_read old r c.index-rows-row.result c.requires.row ∙ sym c.deref.ensures.value in
    let l : c.args.row < length c.combine_rows.new.rows = omega arith in
    λ n h.
    let kept = subst (λ xs. Keeps m (divided_row (value_at m xs) c.args.col) n c.divide_row.new.divided.items) (sym t)
    (c.in_ok-divide_row.ensures.divided n (subst (Rises 0 n) t (h r))) in
    let lent = subst (Keeps m (divided_row (numbers m old r) c.args.col) n) (sym c.deref-2.ensures.value) kept in
    exchange_made m r n c.args.col c.deref-2.result.now old c.combine_rows.new.rows c.replace.new.row l lent
    (c.in_ok-combine_rows.ensures.combined n h lent.rises) (c.replace.ensures ∙ sym c.deref-2.ensures.value)

pub returns-clause-no_zero : goal.returns-clause-no_zero
returns-clause-no_zero g c =
    let m = g.F.OrderedField.meaning in
    let l : c.args.row < length c.combine_rows.new.rows = omega arith in
    λ h. no_zeros_more m c.args.row c.combine_rows.new.rows c.replace.new.row (c.in_ok-combine_rows.ensures.no_zero h) l
    (subst (HasNoZero m) (sym c.replace.ensures) c.in_ok-divide_row.ensures.no_zero)

pub returns-clause-fits : goal.returns-clause-fits
returns-clause-fits g c =
    let m = g.F.OrderedField.meaning in
    let L = g.F.OrderedField.LIMIT in
    let old = c.args.rows.now in
    let r = c.args.row in
    let t = row_read old r c.index-rows-row.result c.requires.row ∙ sym c.deref.ensures.value in
    λ n h.
    let kept = subst (λ xs. Keeps m (divided_row (value_at m xs) c.args.col) n c.divide_row.new.divided.items) (sym t)
    (c.in_ok-divide_row.ensures.divided n (subst (Rises 0 n) t (h r))) in
    let lent = subst (Keeps m (divided_row (numbers m old r) c.args.col) n) (sym c.deref-2.ensures.value) kept in
    let fits = subst (λ xs. first_wide L (division_row_operations n (value_at m xs) c.args.col) ≡ None) (sym t)
    (c.in_ok-divide_row.ensures.fits n (subst (Rises 0 n) t (h r))) in
    exchange_later L (numbers m old) (length old) r n c.args.col (value_at m c.deref-2.result.now)
    (col_below m n c.args.col (row_at old r) (h r) c.requires.pivot) lent.values fits
    ∙ c.in_ok-combine_rows.ensures.fits n h lent.rises
