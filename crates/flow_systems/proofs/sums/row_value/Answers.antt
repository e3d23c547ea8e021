use Rattle.std.proofs.Common.{arith}
use Rattle.std.specs.Prelude.{IsTrue}
use Rattle.std.proofs.Common.{get_or, to_z, of_z, pos, sym, subst}
use mir.Syntax.{w64}
use Rattle.std.proofs.lemmas.Result.{err_from_is_err_and}
use Rattle.lang_tree.specs.Numbers.{is_number}
use Rattle.base_fractions.specs.Operation.{operation_of}
use Rattle.flow_systems.proofs.states.Summed.{number_at, number_same, summed_none, summed_more, summed_wide, summed_all}
use Rattle.flow_systems.proofs.sums.row_value.Goals as goal

pub loop-i-init : goal.loop-i-init
loop-i-init c = summed_none c.args.row.now c.args.state.now c.zero-sum.result c.zero-sum.ensures.value

pub add_product-requires : goal.add_product-requires
add_product-requires c =
    let n = number_at c.args.row.now c.loop-i.i c.requires (omega arith) in
    subst (λ z. IsTrue (is_number z)) (sym (number_same (get_or c.args.row.now c.loop-i.i (pos 0)) n)) n

pub returns-in_err-sum : goal.returns-in_err-sum
returns-in_err-sum c =
    let p = err_from_is_err_and c.from_residual.result c.from_residual.ensures.1 in
    let n = number_at c.args.row.now c.loop-i.i c.requires (omega arith) in
    rw (p.1, p.2)
    (summed_wide c.args.row.now c.args.state.now c.loop-i.i c.loop-i.sum c.loop-i.invariant (omega arith) (omega arith)
    (to_z w64 (of_z w64 (get_or c.args.row.now c.loop-i.i (pos 0)))) c.index-state-i.result
    (number_same (get_or c.args.row.now c.loop-i.i (pos 0)) n) c.index-state-i.is (operation_of (λ q. q) c.in_err-sum.field-0.0)
    c.in_err-sum.ensures)

pub loop-i-preserved : goal.loop-i-preserved
loop-i-preserved c =
    let n = number_at c.args.row.now c.loop-i.i c.requires (omega arith) in
    summed_more c.args.row.now c.args.state.now c.loop-i.i c.loop-i.sum c.loop-i.invariant (omega arith) (omega arith)
    (to_z w64 (of_z w64 (get_or c.args.row.now c.loop-i.i (pos 0)))) c.index-state-i.result
    (number_same (get_or c.args.row.now c.loop-i.i (pos 0)) n) c.index-state-i.is c.in_ok-sum.sum c.in_ok-sum.ensures.0
    c.in_ok-sum.ensures.1

pub returns : goal.returns
returns c = summed_all c.args.row.now c.args.state.now c.loop-i.i c.loop-i.sum (omega arith) c.loop-i.invariant
