use Rattle.std.proofs.lemmas.Result.{err_from_is_err_and}
use Rattle.flow_templates.proofs.file.Steps.{line_read, read_few, line_fault}
use Rattle.flow_templates.proofs.file.rows_of.Goals as goal

pub returns-in_err-read-clause-refused : goal.returns-in_err-read-clause-refused
returns-in_err-read-clause-refused c =
    let p = err_from_is_err_and c.from_residual.result c.from_residual.ensures.1 in
    rw (p.1, p.2) (λ wanted.
    line_fault c.args.names.now c.args.lines.now c.loop-i.i _ c.loop-i.rows.items _ c.loop-i-test.true c.loop-i.invariant.read
    (c.in_err-read.ensures.refused wanted))

pub loop-i-preserved : goal.loop-i-preserved
loop-i-preserved c = record {
  read = line_read c.args.names.now c.args.lines.now c.loop-i.i _ c.loop-i.rows.items _ c.in_ok-read.read
      c.loop-i-test.true c.loop-i.invariant.read c.in_ok-read.ensures.read c.in_ok-add.ensures;
  few = read_few c.loop-i.rows.items _ c.in_ok-read.read c.loop-i.i c.in_ok-add.ensures c.loop-i.invariant.few;
}
