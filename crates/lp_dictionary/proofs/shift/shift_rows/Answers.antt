use Rattle.std.proofs.Common.{◌≡◌, ◌<◌, arith}
use Rattle.lp_theory.specs.Table.{skip}
use Rattle.lp_dictionary.proofs.shift.Shifts.{place_before, place_behind, rows_shift_more}
use Rattle.lp_dictionary.proofs.shift.shift_rows.Goals as goal
use Rattle.lp_dictionary.proofs.shift.shift_rows.Goals.{then-i-row, else-i-row}

pub loop-i-preserved : goal.loop-i-preserved
loop-i-preserved g c =
    let e : c.if-i-row.place ≡ skip c.args.row c.loop-i.i = elim c.if-i-row.branch [
      | then-i-row w ↦ place_before c.args.row c.loop-i.i c.if-i-row.place w.if-i-row.true w.place-is
      | else-i-row w ↦ place_behind c.args.row c.loop-i.i c.if-i-row.place w.if-i-row.false w.place-is
    ] in
    let b : 0 < c.args.stride = omega arith in
    rows_shift_more g.F.OrderedField.meaning c.args.entries.now c.loop-i.entries c.shift_row.new.entries c.loop-i.i c.args.row c.args.stride
    c.args.col c.if-i-row.place b c.loop-i.invariant e c.shift_row.ensures
