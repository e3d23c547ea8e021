use Rattle.std.proofs.Common.{◌+◌, ◌<◌, length, arith}
use Rattle.std.proofs.lemmas.Result.{err_from_is_err_and}
use Rattle.base_fractions.specs.Operation.{operation_of}
use Rattle.lp_dictionary.specs.Formulas.{added_row}
use Rattle.lp_dictionary.specs.Cells.{row_from}
use Rattle.lp_dictionary.proofs.cells.Cells.{sets_none}
use Rattle.lp_dictionary.proofs.pivot_operations.RowSteps.{added_none, added_more, added_stops}
use Rattle.lp_dictionary.proofs.rows.add_row.Goals as goal

pub loop-k-init : goal.loop-k-init
loop-k-init g c =
    let m = g.F.OrderedField.meaning in
    let a = row_from m c.args.entries.now c.args.start in
    let b = row_from m c.args.entries.now c.args.above in
    record {
      row = sets_none m c.args.start (added_row a (m c.args.factor) b c.args.col) c.args.entries.now;
      fits = added_none g.F.OrderedField.LIMIT a (m c.args.factor) b c.args.col;
    }

pub returns-in_err-entry-clause-wide : goal.returns-in_err-entry-clause-wide
returns-in_err-entry-clause-wide g c =
    let m = g.F.OrderedField.meaning in
    let p = err_from_is_err_and c.from_residual.result c.from_residual.ensures.1 in
    let below : c.args.start + c.loop-k.k < length c.loop-k.entries = omega arith in
    let above_below : c.args.above + c.loop-k.k < length c.loop-k.entries = omega arith in
    rw (p.1, p.2)
    (added_stops m g.F.OrderedField.LIMIT c.args.entries.now c.loop-k.entries c.args.start c.args.above c.loop-k.k c.args.stride c.args.col
    c.index-entries-start.result c.index-entries-above.result (m c.args.factor) c.loop-k-test.true below above_below c.requires.apart
    c.index-entries-start.is c.index-entries-above.is c.loop-k.invariant.row c.loop-k.invariant.fits
    (operation_of m c.in_err-entry.field-0.0) c.in_err-entry.ensures)

pub loop-k-preserved : goal.loop-k-preserved
loop-k-preserved g c =
    let m = g.F.OrderedField.meaning in
    let below : c.args.start + c.loop-k.k < length c.loop-k.entries = omega arith in
    let above_below : c.args.above + c.loop-k.k < length c.loop-k.entries = omega arith in
    let both =
    added_more m g.F.OrderedField.LIMIT c.args.entries.now c.loop-k.entries c.args.start c.args.above c.loop-k.k c.args.stride c.args.col
    c.index-entries-start.result c.index-entries-above.result (m c.args.factor) c.loop-k-test.true below above_below c.requires.apart
    c.index-entries-start.is c.index-entries-above.is c.loop-k.invariant.row c.loop-k.invariant.fits c.in_ok-entry.entry
    c.in_ok-entry.ensures in
    record { row = both.0; fits = both.1 }
