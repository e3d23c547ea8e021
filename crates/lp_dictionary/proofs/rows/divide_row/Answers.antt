use Rattle.std.proofs.Common.{◌+◌, ◌<◌, length, arith}
use Rattle.std.proofs.lemmas.Result.{err_from_is_err_and}
use Rattle.base_fractions.specs.Operation.{operation_of}
use Rattle.lp_dictionary.specs.Formulas.{divided_row}
use Rattle.lp_dictionary.specs.Cells.{row_from}
use Rattle.lp_dictionary.proofs.cells.Cells.{sets_none}
use Rattle.lp_dictionary.proofs.pivot_operations.RowSteps.{division_none, division_more, division_refused}
use Rattle.lp_dictionary.proofs.rows.divide_row.Goals as goal

pub loop-k-init : goal.loop-k-init
loop-k-init g c =
    let m = g.F.OrderedField.meaning in
    let a = row_from m c.args.entries.now c.args.start in
    record {
      row = sets_none m c.args.start (divided_row a c.args.col) c.args.entries.now;
      fits = division_none g.F.OrderedField.LIMIT a c.args.col;
    }

pub returns-in_err-entry-clause-wide : goal.returns-in_err-entry-clause-wide
returns-in_err-entry-clause-wide g c =
    let m = g.F.OrderedField.meaning in
    let p = err_from_is_err_and c.from_residual.result c.from_residual.ensures.1 in
    let below : c.args.start + c.loop-k.k < length c.loop-k.entries = omega arith in
    let c_below : c.args.start + c.args.col < length c.args.entries.now = omega arith in
    rw (p.1, p.2)
    (division_refused m g.F.OrderedField.LIMIT c.args.entries.now c.loop-k.entries c.args.start c.loop-k.k c.args.col
    c.index-entries-start-in-loop-k.result c.index-entries-start.result below c_below
    c.index-entries-start-in-loop-k.is c.index-entries-start.is c.args.stride (operation_of m c.in_err-entry.field-0.0) c.loop-k-test.true
    c.loop-k.invariant.row c.loop-k.invariant.fits c.in_err-entry.ensures)

pub loop-k-preserved : goal.loop-k-preserved
loop-k-preserved g c =
    let m = g.F.OrderedField.meaning in
    let below : c.args.start + c.loop-k.k < length c.loop-k.entries = omega arith in
    let c_below : c.args.start + c.args.col < length c.args.entries.now = omega arith in
    let both =
    division_more m g.F.OrderedField.LIMIT c.args.entries.now c.loop-k.entries c.args.start c.loop-k.k c.args.col
    c.index-entries-start-in-loop-k.result c.index-entries-start.result below c_below
    c.index-entries-start-in-loop-k.is c.index-entries-start.is c.in_ok-entry.entry c.loop-k.invariant.row c.loop-k.invariant.fits
    c.in_ok-entry.ensures in
    record { row = both.0; fits = both.1 }
