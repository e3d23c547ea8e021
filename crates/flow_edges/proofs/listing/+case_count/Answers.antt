use Rattle.lang_tree.specs.View.{condition_of}
use Rattle.flow_edges.proofs.listing.Views.{condition-Both, condition-Either}
use Rattle.flow_edges.proofs.count.Counting.{both_true, both_false, either_true, either_false}
use Rattle.flow_edges.proofs.listing.+case_count.Goals as goal

pub returns-then-truth : goal.returns-then-truth
returns-then-truth t c =
    let a = rw (c.if-truth.true, c.deref-in-Both.ensures) at c.case_count-a.ensures in
    let b = rw (c.if-truth.true, c.deref-in-Both-2.ensures) at c.case_count-b.ensures in
    let x = c.in-Both.first in
    let y = c.in-Both.second in
    rw (c.in-Both.is, c.if-truth.true, condition-Both x y) (both_true (condition_of x.value) (condition_of y.value) _ _ _ a b
    c.product.ensures)

pub returns-else-truth : goal.returns-else-truth
returns-else-truth t c =
    let a = rw (c.if-truth.false, c.deref-in-Both.ensures) at c.case_count-a.ensures in
    let b = rw (c.if-truth.false, c.deref-in-Both-2.ensures) at c.case_count-b.ensures in
    let x = c.in-Both.first in
    let y = c.in-Both.second in
    rw (c.in-Both.is, c.if-truth.false, condition-Both x y) (both_false (condition_of x.value) (condition_of y.value) _ _ _ a b
    c.sum.ensures)

pub returns-then-truth-2 : goal.returns-then-truth-2
returns-then-truth-2 t c =
    let a = rw (c.if-truth-2.true, c.deref-in-Either.ensures) at c.case_count-a-in-Either.ensures in
    let b = rw (c.if-truth-2.true, c.deref-in-Either-2.ensures) at c.case_count-b-in-Either.ensures in
    let x = c.in-Either.first in
    let y = c.in-Either.second in
    rw (c.in-Either.is, c.if-truth-2.true, condition-Either x y) (either_true (condition_of x.value) (condition_of y.value) _ _ _ a b
    c.sum-then-truth-2.ensures)

pub returns-else-truth-2 : goal.returns-else-truth-2
returns-else-truth-2 t c =
    let a = rw (c.if-truth-2.false, c.deref-in-Either.ensures) at c.case_count-a-in-Either.ensures in
    let b = rw (c.if-truth-2.false, c.deref-in-Either-2.ensures) at c.case_count-b-in-Either.ensures in
    let x = c.in-Either.first in
    let y = c.in-Either.second in
    rw (c.in-Either.is, c.if-truth-2.false, condition-Either x y) (either_false (condition_of x.value) (condition_of y.value) _ _ _ a b
    c.product-else-truth-2.ensures)
