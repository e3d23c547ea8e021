use Rattle.std.proofs.lemmas.Result.{err_from_is_err_and}
use Rattle.base_fractions.specs.Operation.{operation_of}
use Rattle.lp_dictionary.proofs.cells.RowLoops.{rows_disjoint, combines_none, rows_none, combines_past, rows_past, combines_more, rows_more}
use Rattle.lp_dictionary.proofs.cells.RowLoops.{rows_refused}
use Rattle.lp_dictionary.proofs.rows.combine_rows.Goals as goal
use Rattle.lp_dictionary.proofs.rows.combine_rows.Goals.{then-i-row+in_ok-combine_row, else-i-row}

pub loop-i-init : goal.loop-i-init
loop-i-init g c = record {
  rows = combines_none g.F.OrderedField.meaning g.F.OrderedField.LIMIT c.args.row c.args.stride c.args.col c.requires.col
      c.args.entries.now;
  fits = rows_none g.F.OrderedField.meaning g.F.OrderedField.LIMIT c.args.row c.args.stride c.args.col c.requires.col c.args.entries.now;
}

pub combine_row-requires-clause-apart : goal.combine_row-requires-clause-apart
combine_row-requires-clause-apart g c = rows_disjoint c.loop-i.i c.args.row c.args.stride c.if-i-row.true

pub returns-in_err-combine_row-clause-wide : goal.returns-in_err-combine_row-clause-wide
returns-in_err-combine_row-clause-wide g c =
    let m = g.F.OrderedField.meaning in
    let p = err_from_is_err_and c.from_residual.result c.from_residual.ensures.1 in
    rw (p.1, p.2)
    (rows_refused m g.F.OrderedField.LIMIT c.args.row c.args.stride c.args.col c.requires.col c.args.entries.now c.loop-i.i c.loop-i.entries
    c.loop-i.invariant.rows c.if-i-row.true
    c.args.rows (operation_of m c.in_err-combine_row.field-0.0) c.loop-i-test.true c.loop-i.invariant.fits
    c.in_err-combine_row.ensures.wide)

pub loop-i-preserved : goal.loop-i-preserved
loop-i-preserved g c =
    let m = g.F.OrderedField.meaning in
    let L = g.F.OrderedField.LIMIT in
    elim c.if-i-row.branch [
      | then-i-row+in_ok-combine_row w ↦ rw w.entries-is record {
        rows = combines_more m L c.args.row c.args.stride c.args.col c.requires.col c.args.entries.now c.loop-i.i c.loop-i.entries
            c.loop-i.invariant.rows w.if-i-row.true w.combine_row.new.entries w.in_ok-combine_row.ensures.combined;
        fits = rows_more m L c.args.row c.args.stride c.args.col c.requires.col c.args.entries.now c.loop-i.i c.loop-i.entries
            c.loop-i.invariant.rows w.if-i-row.true c.loop-i.invariant.fits w.in_ok-combine_row.ensures.fits;
      }
      | else-i-row w ↦ rw w.entries-is record {
        rows = combines_past m L c.args.row c.args.stride c.args.col c.requires.col c.args.entries.now c.loop-i.i c.loop-i.entries
            c.loop-i.invariant.rows w.if-i-row.false;
        fits = rows_past m L c.args.row c.args.stride c.args.col c.requires.col c.args.entries.now c.loop-i.i c.loop-i.entries
            c.loop-i.invariant.rows w.if-i-row.false c.loop-i.invariant.fits;
      }
    ]
