use Rattle.std.proofs.Common.{arith}
use Rattle.std.proofs.lemmas.Result.{err_from_is_err_and}
use Rattle.flow_systems.specs.States.{dotℚ}
use Rattle.solve_composition.specs.Sums.{dense_column}
use Rattle.solve_composition.proofs.walk.States.{state_has}
use Rattle.solve_composition.proofs.Ranges.{range_push}
use Rattle.solve_composition.proofs.operations.Rows.{columns_more, column_refused, constant_refused, row_composed}
use Rattle.solve_composition.proofs.form.compose_row.Goals as goal

pub column_sum-requires-clause-column : goal.column_sum-requires-clause-column
column_sum-requires-clause-column c = state_has c.args.state.now c.args.width c.loop-column.column c.loop-column-test.true c.requires.state

pub returns-in_err-column_sum : goal.returns-in_err-column_sum
returns-in_err-column_sum c = λ forms e.
    let p = err_from_is_err_and c.from_residual-in_err-column_sum.result c.from_residual-in_err-column_sum.ensures.1 in
    rw (p.1, p.2) (column_refused c.args.row.now c.args.state.now c.args.width forms e c.loop-column.column c.in_err-column_sum.field-0.0
    c.loop-column-test.true c.loop-column.invariant.passed c.in_err-column_sum.ensures)

pub loop-column-preserved : goal.loop-column-preserved
loop-column-preserved c = record {
  list = range_push (λ k. dotℚ c.args.row.now (dense_column k c.args.state.now)) c.loop-column.column c.loop-column.list.items
      c.in_ok-column_sum.field-0 c.push.new.self.items c.in_ok-push.ensures.items c.loop-column.invariant.list c.in_ok-column_sum.ensures.0;
  passed = columns_more c.args.row.now c.args.state.now c.args.width c.loop-column.column c.loop-column-test.true
      c.loop-column.invariant.passed c.in_ok-column_sum.ensures.1;
}

pub returns-in_err-constant : goal.returns-in_err-constant
returns-in_err-constant c = λ forms e.
    let p = err_from_is_err_and c.from_residual-in_err-constant.result c.from_residual-in_err-constant.ensures.1 in
    rw (p.1, p.2) (constant_refused c.args.row.now c.args.state.now c.args.width forms e c.loop-column.column c.loop-column-test.false
    c.loop-column.invariant.passed c.in_err-constant.field-0.0 c.in_err-constant.ensures)

pub returns : goal.returns
returns c = λ forms e.
    row_composed c.args.row.now c.args.state.now c.args.width forms e c.loop-column.column c.loop-column-test.false
    c.loop-column.invariant.passed c.loop-column.list.items c.new.result c.in_ok-constant.constant
    c.loop-column.invariant.list (omega arith) c.new.ensures c.in_ok-constant.ensures.0 c.in_ok-constant.ensures.1
