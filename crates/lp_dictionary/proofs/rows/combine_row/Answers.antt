use Rattle.std.proofs.Common.{◌≡◌, ℕ, ◌+◌, ◌<◌, ◌≤◌, ◌⊎◌, ℤ, List, length, get_or, set, Some, None, refl, ap, sym, ◌∙◌, arith}
use Rattle.std.proofs.lemmas.Result.{err_from_is_err_and, on_ok_weaker, IfErr-weaker}
use Rattle.base_numbers.specs.Rational.{ℚ, ◌*ℚ◌}
use Rattle.base_fractions.specs.Operation.{first_wide, operation_of}
use Rattle.lp_dictionary.specs.Formulas.{product_operations}
use Rattle.lp_dictionary.specs.PivotOperations.{added_row_operations, combination_row_operations}
use Rattle.lp_dictionary.specs.Cells.{row_from}
use Rattle.lp_dictionary.proofs.cells.Cells.{cell_read}
use Rattle.lp_dictionary.proofs.pivot_operations.RowSteps.{combined_still, combination_still, combined_after, combined_later}
use Rattle.lp_dictionary.proofs.pivot_operations.RowSteps.{combined_sooner}
use Rattle.lp_dictionary.proofs.rows.combine_row.Goals as goal

-- where the product of what is read fits, formula 4 is left to decide
later_by : {F : Type 0} (m : F → ℚ) (L : ℤ) (xs : List F) (start above n c : ℕ) (v x y : F) → c < n → start + n ≤ length xs
    → above + n ≤ length xs → (start + n ≤ above) ⊎ (above + n ≤ start) → x ≡ get_or xs (start + c) x → y ≡ get_or xs (above + c) y
    → first_wide L (product_operations (m x) (m y)) ≡ None →
    first_wide L (combination_row_operations n (row_from m xs start) (row_from m xs above) c)
    ≡ first_wide L (added_row_operations n (row_from m (set xs (start + c) v) start) (m x) (row_from m (set xs (start + c) v) above) c)
later_by m L xs start above n c v x y col within above_within apart x_is y_is fits =
    combined_later m L xs start above n c v col within above_within apart (m x) (m y)
    (sym (cell_read m xs (start + c) x (omega (arith, col, within)) x_is))
    (sym (cell_read m xs (above + c) y (omega (arith, col, above_within)) y_is)) fits

pub returns-then-is_zero-clause-combined : goal.returns-then-is_zero-clause-combined
returns-then-is_zero-clause-combined g c =
    let m = g.F.OrderedField.meaning in
    let a = row_from m c.args.entries.now c.args.start in
    let b = row_from m c.args.entries.now c.args.above in
    let c_below : c.args.start + c.args.col < length c.args.entries.now = omega arith in
    let z = cell_read m c.args.entries.now (c.args.start + c.args.col) c.index-entries-start.result c_below c.index-entries-start.is
    ∙ c.is_zero.ensures.0 c.if-is_zero.true in
    record { inside = λ k l. sym (combined_still a b c.args.col k z); outside = λ p h. refl }

pub returns-then-is_zero-clause-fits : goal.returns-then-is_zero-clause-fits
returns-then-is_zero-clause-fits g c =
    let m = g.F.OrderedField.meaning in
    let a = row_from m c.args.entries.now c.args.start in
    let b = row_from m c.args.entries.now c.args.above in
    let c_below : c.args.start + c.args.col < length c.args.entries.now = omega arith in
    let z = cell_read m c.args.entries.now (c.args.start + c.args.col) c.index-entries-start.result c_below c.index-entries-start.is
    ∙ c.is_zero.ensures.0 c.if-is_zero.true in
    combination_still g.F.OrderedField.LIMIT c.args.stride a b c.args.col z

pub returns-in_err-product-clause-wide : goal.returns-in_err-product-clause-wide
returns-in_err-product-clause-wide g c =
    let m = g.F.OrderedField.meaning in
    let xs = c.args.entries.now in
    let p = err_from_is_err_and c.from_residual.result c.from_residual.ensures.1 in
    let c_below : c.args.start + c.args.col < length c.args.entries.now = omega arith in
    let a_below : c.args.above + c.args.col < length c.args.entries.now = omega arith in
    rw (p.1, p.2)
    (combined_sooner g.F.OrderedField.LIMIT c.args.stride (row_from m xs c.args.start) (row_from m xs c.args.above) c.args.col
    (m c.index-entries-start.result) (m c.index-entries-above.result) (operation_of m c.in_err-product.field-0.0)
    (sym (cell_read m xs (c.args.start + c.args.col) c.index-entries-start.result c_below c.index-entries-start.is))
    (sym (cell_read m xs (c.args.above + c.args.col) c.index-entries-above.result a_below c.index-entries-above.is))
    c.in_err-product.ensures)

pub returns-clause-combined : goal.returns-clause-combined
returns-clause-combined g c =
    let m = g.F.OrderedField.meaning in
    let xs = c.args.entries.now in
    let c_below : c.args.start + c.args.col < length c.args.entries.now = omega arith in
    let a_below : c.args.above + c.args.col < length c.args.entries.now = omega arith in
    let f_is = sym (cell_read m xs (c.args.start + c.args.col) c.index-entries-start.result c_below c.index-entries-start.is) in
    let x_is = sym (cell_read m xs (c.args.above + c.args.col) c.index-entries-above.result a_below c.index-entries-above.is) in
    on_ok_weaker c.add_row.result
    (combined_after m g.F.OrderedField.LIMIT xs c.args.start c.args.above c.args.stride c.args.col c.in_ok-product.product c.requires.col
    c.requires.within c.requires.above_within c.requires.apart (m c.index-entries-start.result) c.add_row.new.entries f_is
    (c.in_ok-product.ensures.0 ∙ ap (λ t. m c.index-entries-start.result *ℚ t) x_is))
    c.add_row.ensures.added

pub returns-clause-fits : goal.returns-clause-fits
returns-clause-fits g c =
    let later = later_by g.F.OrderedField.meaning g.F.OrderedField.LIMIT c.args.entries.now c.args.start c.args.above c.args.stride
    c.args.col c.in_ok-product.product c.index-entries-start.result c.index-entries-above.result c.requires.col c.requires.within
    c.requires.above_within c.requires.apart c.index-entries-start.is c.index-entries-above.is c.in_ok-product.ensures.1 in
    on_ok_weaker c.add_row.result (λ e. later ∙ e) c.add_row.ensures.fits

pub returns-clause-wide : goal.returns-clause-wide
returns-clause-wide g c =
    let m = g.F.OrderedField.meaning in
    let xs = c.args.entries.now in
    let later = later_by m g.F.OrderedField.LIMIT xs c.args.start c.args.above c.args.stride c.args.col c.in_ok-product.product
    c.index-entries-start.result c.index-entries-above.result c.requires.col c.requires.within c.requires.above_within c.requires.apart
    c.index-entries-start.is c.index-entries-above.is c.in_ok-product.ensures.1 in
    IfErr-weaker c.add_row.result
    (λ w. first_wide g.F.OrderedField.LIMIT (added_row_operations c.args.stride
    (row_from m (set xs (c.args.start + c.args.col) c.in_ok-product.product) c.args.start) (m c.index-entries-start.result)
    (row_from m (set xs (c.args.start + c.args.col) c.in_ok-product.product) c.args.above) c.args.col) ≡ Some (operation_of m w))
    (λ w. first_wide g.F.OrderedField.LIMIT (combination_row_operations c.args.stride (row_from m xs c.args.start)
    (row_from m xs c.args.above) c.args.col) ≡ Some (operation_of m w))
    (λ w e. later ∙ e) c.add_row.ensures.wide
