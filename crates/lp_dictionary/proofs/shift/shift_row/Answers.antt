use Rattle.std.proofs.Common.{◌≡◌, ◌+◌, ◌<◌, length, arith}
use Rattle.lp_theory.specs.Table.{skip}
use Rattle.lp_dictionary.proofs.shift.Shifts.{place_before, place_behind, skip_most, shift_more}
use Rattle.lp_dictionary.proofs.shift.shift_row.Goals as goal
use Rattle.lp_dictionary.proofs.shift.shift_row.Goals.{then-k-col, else-k-col}

pub loop-k-preserved : goal.loop-k-preserved
loop-k-preserved g c =
    let e : c.if-k-col.place ≡ skip c.args.col c.loop-k.k = elim c.if-k-col.branch [
      | then-k-col w ↦ place_before c.args.col c.loop-k.k c.if-k-col.place w.if-k-col.true w.place-is
      | else-k-col w ↦ place_behind c.args.col c.loop-k.k c.if-k-col.place w.if-k-col.false w.place-is
    ] in
    let most = skip_most c.args.col c.loop-k.k in
    let below : c.args.from + c.if-k-col.place < length c.loop-k.entries = omega (arith, e, most) in
    shift_more g.F.OrderedField.meaning c.args.entries.now c.loop-k.entries c.args.from c.args.to c.loop-k.k c.args.col c.if-k-col.place
    c.index-entries-from.result c.loop-k.invariant c.requires.order e below c.index-entries-from.is
