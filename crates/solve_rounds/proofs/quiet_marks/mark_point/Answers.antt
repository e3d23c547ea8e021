use Rattle.std.proofs.Common.{◌≡◌, ◌+◌, ◌*◌, length, sym, ap, subst, arith}
use Rattle.std.specs.Prelude.{slice_set}
use Rattle.std.proofs.lemmas.Nat.{mul-add-lt}
use Rattle.solve_rounds.specs.Growing.{IsWithin}
use Rattle.solve_rounds.proofs.quiet_marks.KnownQuiet.{RowsMarked, rows_more, rows_all}
use Rattle.solve_rounds.proofs.quiet_marks.mark_point.Goals as goal

pub loop-row-preserved : goal.loop-row-preserved
loop-row-preserved c =
    let system = c.args.system.now in
    let bounds = c.args.bounds.now in
    let pick = c.args.pick.now in
    let point = c.args.point in
    let row = c.loop-row.row in
    let rows : length c.as_slice.result.now ≡ length system.template = ap (λ t. length t) c.as_slice.ensures.rows in
    let test = c.loop-row-test.true in
    let placed = mul-add-lt point (length system.template) row (length system.flow.points) c.requires.point (omega (arith, test, rows)) in
    let size = c.loop-row.invariant.size in
    let all = c.requires.marks in
    subst (λ n. RowsMarked system bounds pick point (row + 1) c.args.marks.now (slice_set c.loop-row.marks (point * n + row)
    c.is_quiet.result)) (sym rows)
    (rows_more system bounds pick point row c.args.marks.now c.loop-row.marks c.is_quiet.result c.loop-row.invariant
    (omega (arith, test, rows)) (omega (arith, placed, size, all))
    (λ told. subst (λ n. IsWithin system bounds pick (point * n + row)) rows (c.is_quiet.ensures told)))

pub returns-clause-within : goal.returns-clause-within
returns-clause-within c =
    let system = c.args.system.now in
    let rows : length c.as_slice.result.now ≡ length system.template = ap (λ t. length t) c.as_slice.ensures.rows in
    let test = c.loop-row-test.false in
    rows_all system c.args.bounds.now c.args.pick.now c.args.point c.loop-row.row c.args.marks.now c.loop-row.marks c.loop-row.invariant
    (omega (arith, test, rows))
