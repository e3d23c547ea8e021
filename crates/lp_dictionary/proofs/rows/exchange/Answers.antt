use Rattle.std.proofs.Common.{◌≡◌, Some, ◌∙◌}
use Rattle.std.proofs.lemmas.Result.{err_from_is_err_and, on_ok_weaker, IfErr-weaker}
use Rattle.base_fractions.specs.Operation.{first_wide, operation_of}
use Rattle.lp_dictionary.specs.Rows.{exchange_operations, rows_operations}
use Rattle.lp_dictionary.proofs.rows.ExchangeSteps.{exchange_made, exchange_later, exchange_sooner}
use Rattle.lp_dictionary.proofs.rows.exchange.Goals as goal

pub returns-in_err-divide_row-clause-wide : goal.returns-in_err-divide_row-clause-wide
returns-in_err-divide_row-clause-wide g c =
    let m = g.F.OrderedField.meaning in
    let p = err_from_is_err_and c.from_residual.result c.from_residual.ensures.1 in
    rw (p.1, p.2) (exchange_sooner m g.F.OrderedField.LIMIT c.args.rows c.args.row c.args.stride c.args.col c.args.entries.now
    (operation_of m c.in_err-divide_row.field-0.0) c.in_err-divide_row.ensures.wide)

pub returns-clause-exchanged : goal.returns-clause-exchanged
returns-clause-exchanged g c =
    let m = g.F.OrderedField.meaning in
    on_ok_weaker c.combine_rows.result
    (exchange_made m g.F.OrderedField.LIMIT c.args.rows c.args.row c.args.stride c.args.col c.requires.col c.args.entries.now
    c.divide_row.new.entries c.in_ok-divide_row.ensures.divided c.combine_rows.new.entries)
    c.combine_rows.ensures.combined

pub returns-clause-fits : goal.returns-clause-fits
returns-clause-fits g c =
    let m = g.F.OrderedField.meaning in
    let later = exchange_later m g.F.OrderedField.LIMIT c.args.rows c.args.row c.args.stride c.args.col c.requires.col c.args.entries.now
    c.divide_row.new.entries c.in_ok-divide_row.ensures.divided c.in_ok-divide_row.ensures.fits in
    on_ok_weaker c.combine_rows.result (λ e. later ∙ e) c.combine_rows.ensures.fits

pub returns-clause-wide : goal.returns-clause-wide
returns-clause-wide g c =
    let m = g.F.OrderedField.meaning in
    let later = exchange_later m g.F.OrderedField.LIMIT c.args.rows c.args.row c.args.stride c.args.col c.requires.col c.args.entries.now
    c.divide_row.new.entries c.in_ok-divide_row.ensures.divided c.in_ok-divide_row.ensures.fits in
    IfErr-weaker c.combine_rows.result
    (λ w. first_wide g.F.OrderedField.LIMIT (rows_operations m c.divide_row.new.entries c.args.rows c.args.row c.args.stride c.args.col)
    ≡ Some (operation_of m w))
    (λ w. first_wide g.F.OrderedField.LIMIT (exchange_operations m c.args.entries.now c.args.rows c.args.row c.args.stride c.args.col)
    ≡ Some (operation_of m w))
    (λ w e. later ∙ e) c.combine_rows.ensures.wide
