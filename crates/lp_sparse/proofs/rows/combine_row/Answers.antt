use Rattle.std.proofs.Common.{ap, sym, ◌∙◌, subst}
use Rattle.std.proofs.lemmas.Result.{err_from_is_err_and}
use Rattle.base_fractions.specs.Operation.{first_wide, operation_of}
use Rattle.lp_dictionary.specs.Formulas.{combined_row}
use Rattle.lp_dictionary.specs.PivotOperations.{added_row_operations, combination_row_operations}
use Rattle.lp_dictionary.proofs.pivot_operations.RowSteps.{combined_still, combination_still, combined_sooner}
use Rattle.lp_dictionary.specs.Entries.{value_at, Rises}
use Rattle.lp_dictionary.specs.Keeps.{Keeps}
use Rattle.lp_dictionary.proofs.kept.Lists.{keeps_same, keeps_itself}
use Rattle.lp_sparse.proofs.rows.Answering.{fault_of_more}
use Rattle.lp_sparse.proofs.rows.RowsOver.{combination_later}
use Rattle.lp_sparse.proofs.rows.combine_row.Goals as goal

pub returns-then-is_zero-clause-combined : goal.returns-then-is_zero-clause-combined
returns-then-is_zero-clause-combined g c =
    let m = g.F.OrderedField.meaning in
    let es = c.args.row.now.entries.items in
    let a = value_at m es in
    let b = value_at m c.args.above.now in
    let f_is = c.value_in-factor.ensures ∙ ap (λ xs. value_at m xs c.args.col) c.deref.ensures.value in
    λ n r s. keeps_same m a (combined_row a b c.args.col) n es (keeps_itself m n es r)
    (λ k l. sym (combined_still a b c.args.col k (sym f_is ∙ c.is_zero.ensures.0 c.if-is_zero.true)))

pub returns-then-is_zero-clause-fits : goal.returns-then-is_zero-clause-fits
returns-then-is_zero-clause-fits g c =
    let m = g.F.OrderedField.meaning in
    let a = value_at m c.args.row.now.entries.items in
    let b = value_at m c.args.above.now in
    let f_is = c.value_in-factor.ensures ∙ ap (λ xs. value_at m xs c.args.col) c.deref.ensures.value in
    λ n r s. combination_still g.F.OrderedField.LIMIT n a b c.args.col (sym f_is ∙ c.is_zero.ensures.0 c.if-is_zero.true)

pub returns-in_err-merge-in-Ok-clause-refused : goal.returns-in_err-merge-in-Ok-clause-refused
returns-in_err-merge-in-Ok-clause-refused g c =
    let m = g.F.OrderedField.meaning in
    let L = g.F.OrderedField.LIMIT in
    let a = value_at m c.args.row.now.entries.items in
    let b = value_at m c.args.above.now in
    let f = m c.value_in-factor.result in
    let f_is = c.value_in-factor.ensures ∙ ap (λ xs. value_at m xs c.args.col) c.deref.ensures.value in
    let p = err_from_is_err_and c.from_residual.result c.from_residual.ensures.1 in
    rw (p.1, p.2)
    (λ n r s.
    fault_of_more m L (added_row_operations n a f b c.args.col) (combination_row_operations n a b c.args.col) c.in_err-merge-in-Ok.field-0.0
    (λ o w. combination_later L n a b c.args.col f (m c.args.inverse) f_is c.requires.inverse c.in-Ok.ensures.1 ∙ w)
    (rw (← c.deref-in-Ok.ensures.value) (c.in_err-merge-in-Ok.ensures.refused n (subst (Rises 0 n) (sym c.deref-in-Ok.ensures.value) r) s)))

pub returns-in_ok-merge-in-Ok-clause-combined : goal.returns-in_ok-merge-in-Ok-clause-combined
returns-in_ok-merge-in-Ok-clause-combined g c =
    let m = g.F.OrderedField.meaning in
    let es = c.args.row.now.entries.items in
    let b = value_at m c.args.above.now in
    λ n r s. subst (Keeps m (combined_row (value_at m es) b c.args.col) n) (sym c.replace.ensures)
    (subst (λ xs. Keeps m (combined_row (value_at m xs) b c.args.col) n c.merge.new.merged.items) c.deref-in-Ok.ensures.value
    (c.in_ok-merge-in-Ok.ensures.merged n (subst (Rises 0 n) (sym c.deref-in-Ok.ensures.value) r) s))

pub returns-in_ok-merge-in-Ok-clause-fits : goal.returns-in_ok-merge-in-Ok-clause-fits
returns-in_ok-merge-in-Ok-clause-fits g c =
    let m = g.F.OrderedField.meaning in
    let L = g.F.OrderedField.LIMIT in
    let es = c.args.row.now.entries.items in
    let b = value_at m c.args.above.now in
    let f = m c.value_in-factor.result in
    let f_is = c.value_in-factor.ensures ∙ ap (λ xs. value_at m xs c.args.col) c.deref.ensures.value in
    λ n r s. combination_later L n (value_at m es) b c.args.col f (m c.args.inverse) f_is c.requires.inverse c.in-Ok.ensures.1
    ∙ ap (λ xs. first_wide L (added_row_operations n (value_at m xs) f b c.args.col)) (sym c.deref-in-Ok.ensures.value)
    ∙ c.in_ok-merge-in-Ok.ensures.fits n (subst (Rises 0 n) (sym c.deref-in-Ok.ensures.value) r) s

pub returns-in-Err-clause-refused : goal.returns-in-Err-clause-refused
returns-in-Err-clause-refused g c =
    let m = g.F.OrderedField.meaning in
    let a = value_at m c.args.row.now.entries.items in
    let b = value_at m c.args.above.now in
    let f_is = c.value_in-factor.ensures ∙ ap (λ xs. value_at m xs c.args.col) c.deref.ensures.value in
    λ n r s. combined_sooner g.F.OrderedField.LIMIT n a b c.args.col (m c.value_in-factor.result) (m c.args.inverse)
    (operation_of m c.in-Err.wide) f_is c.requires.inverse c.in-Err.ensures
