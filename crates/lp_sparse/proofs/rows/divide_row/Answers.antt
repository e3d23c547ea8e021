use Rattle.std.proofs.Common.{◌+◌, eqb, drop, get_or, sym, subst}
use Rattle.std.proofs.lemmas.List.{drop_more, drop_all, get_or_default}
use Rattle.std.proofs.lemmas.Result.{err_from_is_err_and}
use Rattle.base_fractions.specs.Operation.{Answers}
use Rattle.lp_dictionary.specs.Formulas.{divided, divided_operations}
use Rattle.lp_dictionary.specs.PivotOperations.{division_row_operations}
use Rattle.lp_dictionary.specs.declared.entry.Entry.{Entry}
use Rattle.lp_dictionary.specs.Entries.{value_at, HasNoZero}
use Rattle.lp_dictionary.proofs.kept.Lists.{no_zero_pushed}
use Rattle.lp_sparse.proofs.merge.Gaps.{left_all}
use Rattle.lp_sparse.proofs.rows.Answering.{pushed_value, passed_fault, fault_of_more}
use Rattle.lp_sparse.proofs.rows.Dividing.{Dividing, dividing_none, dividing_more, dividing_refused, dividing_end}
use Rattle.lp_sparse.proofs.rows.divide_row.Goals as goal

pub loop-i-init : goal.loop-i-init
loop-i-init g c =
    let m = g.F.OrderedField.meaning in
    let L = g.F.OrderedField.LIMIT in
    let es = c.args.entries.now in
    record {
      no_zero = subst (HasNoZero m) (sym c.clear.ensures.items) tt;
      dividing = λ n r. (
        0,
        subst (Dividing m L (value_at m es) c.args.col n 0 es) (sym c.clear.ensures.items)
            (dividing_none m L (value_at m es) c.args.col n c.requires.pivot es (left_all m n es r)),
      );
    }

pub returns-in_err-push_answer-clause-refused : goal.returns-in_err-push_answer-clause-refused
returns-in_err-push_answer-clause-refused g c =
    let m = g.F.OrderedField.meaning in
    let L = g.F.OrderedField.LIMIT in
    let es = c.args.entries.now in
    let i = c.loop-i.i in
    let l = c.loop-i-test.true in
    let e = get_or es i c.index-entries-i.result in
    let p = err_from_is_err_and c.from_residual.result c.from_residual.ensures.1 in
    let same = get_or_default es i c.index-entries-i-in-loop-i.result c.index-entries-i.result l in
    let q = m c.value_in-pivot.result in
    let answers = subst (λ (x : Entry _). Answers m L (divided (m x.value) q (eqb e.col c.args.col))
    (divided_operations (m x.value) q (eqb e.col c.args.col)) c.divided_by.result) same c.divided_by.ensures in
    rw (p.1, p.2)
    (λ n r.
    let d = c.loop-i.invariant.dividing n r in
    let h = subst (λ xs. Dividing m L (value_at m es) c.args.col n d.0 xs c.loop-i.divided.items)
    (drop_more es i c.index-entries-i.result l) d.1 in
    fault_of_more m L (divided_operations (m e.value) q (eqb e.col c.args.col)) (division_row_operations n (value_at m es) c.args.col)
    c.in_err-push_answer.field-0.0
    (λ o w. dividing_refused m L (value_at m es) c.args.col n c.requires.pivot d.0 e (drop (i + 1) es) c.loop-i.divided.items h q o
    c.value_in-pivot.ensures w)
    (passed_fault m L (divided (m e.value) q (eqb e.col c.args.col)) (divided_operations (m e.value) q (eqb e.col c.args.col))
    c.divided_by.result c.in_err-push_answer.field-0.0 answers c.in_err-push_answer.ensures.refused))

pub loop-i-preserved : goal.loop-i-preserved
loop-i-preserved g c =
    let m = g.F.OrderedField.meaning in
    let L = g.F.OrderedField.LIMIT in
    let es = c.args.entries.now in
    let i = c.loop-i.i in
    let l = c.loop-i-test.true in
    let e = get_or es i c.index-entries-i.result in
    let same = get_or_default es i c.index-entries-i-in-loop-i.result c.index-entries-i.result l in
    let q = m c.value_in-pivot.result in
    let old = c.loop-i.divided.items in
    let new = c.push_answer.new.entries.items in
    let answers = subst (λ (x : Entry _). Answers m L (divided (m x.value) q (eqb e.col c.args.col))
    (divided_operations (m x.value) q (eqb e.col c.args.col)) c.divided_by.result) same c.divided_by.ensures in
    let v = pushed_value m L (divided (m e.value) q (eqb e.col c.args.col)) (divided_operations (m e.value) q (eqb e.col c.args.col)) old
    new e.col c.divided_by.result answers c.in_ok-push_answer.ensures.pushed in
    record {
      no_zero = subst (HasNoZero m) (sym v.3) (no_zero_pushed m old e.col v.0 c.loop-i.invariant.no_zero);
      dividing = λ n r.
          let d = c.loop-i.invariant.dividing n r in
          let h = subst (λ xs. Dividing m L (value_at m es) c.args.col n d.0 xs old) (drop_more es i c.index-entries-i.result l) d.1 in (
            e.col + 1,
            subst (Dividing m L (value_at m es) c.args.col n (e.col + 1) (drop (i + 1) es)) (sym v.3)
                (dividing_more m L (value_at m es) c.args.col n c.requires.pivot d.0 e (drop (i + 1) es) old h q v.0
                c.value_in-pivot.ensures
                v.1 v.2),
          );
    }

pub returns-clause-divided : goal.returns-clause-divided
returns-clause-divided g c =
    let m = g.F.OrderedField.meaning in
    let es = c.args.entries.now in
    λ n r.
    let d = c.loop-i.invariant.dividing n r in
    (dividing_end m g.F.OrderedField.LIMIT (value_at m es) c.args.col n c.requires.pivot d.0 (drop c.loop-i.i es) c.loop-i.divided.items d.1
    (drop_all c.loop-i.i es c.loop-i-test.false)).0

pub returns-clause-fits : goal.returns-clause-fits
returns-clause-fits g c =
    let m = g.F.OrderedField.meaning in
    let es = c.args.entries.now in
    λ n r.
    let d = c.loop-i.invariant.dividing n r in
    (dividing_end m g.F.OrderedField.LIMIT (value_at m es) c.args.col n c.requires.pivot d.0 (drop c.loop-i.i es) c.loop-i.divided.items d.1
    (drop_all c.loop-i.i es c.loop-i-test.false)).1
