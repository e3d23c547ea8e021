use Rattle.std.proofs.Common.{◌+◌, drop, eqb, sym, subst, arith}
use Rattle.std.proofs.lemmas.List.{drop_all}
use Rattle.std.proofs.lemmas.Result.{err_from_is_err_and}
use Rattle.lp_dictionary.specs.Formulas.{added_operations}
use Rattle.lp_dictionary.specs.PivotOperations.{added_row_operations}
use Rattle.lp_dictionary.specs.Entries.{value_at, HasNoZero, pushed}
use Rattle.lp_sparse.specs.Entries.{head_value}
use Rattle.lp_sparse.specs.Merge.{Merging}
use Rattle.lp_dictionary.proofs.kept.Lists.{no_zero_pushed}
use Rattle.lp_sparse.proofs.merge.Gaps.{left_all}
use Rattle.lp_sparse.proofs.rows.Answering.{fault_of_more}
use Rattle.lp_sparse.proofs.merge.Merging.{merging_none, merging_before, merging_entry, entry_refused, merging_last}
use Rattle.lp_sparse.proofs.merge.merge.Goals as goal

pub loop-j-init : goal.loop-j-init
loop-j-init g c =
    let m = g.F.OrderedField.meaning in
    let L = g.F.OrderedField.LIMIT in
    let es = c.args.entries.now in
    let bs = c.args.above.now in
    record {
      place = omega arith;
      no_zero = subst (HasNoZero m) (sym c.clear.ensures.items) tt;
      merging = λ n r s. (
        0,
        subst (Merging m L (value_at m es) (value_at m bs) (m c.args.factor) c.args.col n 0 es bs) (sym c.clear.ensures.items)
            (merging_none m L (value_at m es) (value_at m bs) (m c.args.factor) c.args.col n c.requires.factor es bs (left_all m n es r)
            (left_all m n bs s)),
      );
    }

pub returns-in_err-i-clause-refused : goal.returns-in_err-i-clause-refused
returns-in_err-i-clause-refused g c =
    let m = g.F.OrderedField.meaning in
    let L = g.F.OrderedField.LIMIT in
    let es = c.args.entries.now in
    let bs = c.args.above.now in
    let a = value_at m es in
    let b = value_at m bs in
    let f = m c.args.factor in
    let j = c.loop-j.j in
    let e = c.index-above-j.result in
    let da = drop c.in_ok-place.place es in
    let p = err_from_is_err_and c.from_residual-in_err-i.result c.from_residual-in_err-i.ensures.1 in
    rw (p.1, p.2)
    (λ n r s.
    let d = c.loop-j.invariant.merging n r s in
    let k = merging_before m L a b f c.args.col n c.requires.factor (m c.args.product) c.requires.product bs j e c.loop-j-test.true
    c.index-above-j.is da c.keep_before.new.merged.items c.in_ok-place.ensures.kept d.1 in
    fault_of_more m L (added_operations (head_value m da e.col) f (m e.value) (eqb e.col c.args.col))
    (added_row_operations n a f b c.args.col) c.in_err-i.field-0.0
    (λ o w. entry_refused m L a b f c.args.col n c.requires.factor k.0 e da (drop (j + 1) bs) c.keep_before.new.merged.items k.1
    c.in_ok-place.ensures.rest o w) c.in_err-i.ensures.refused)

pub loop-j-preserved : goal.loop-j-preserved
loop-j-preserved g c =
    let m = g.F.OrderedField.meaning in
    let L = g.F.OrderedField.LIMIT in
    let es = c.args.entries.now in
    let bs = c.args.above.now in
    let a = value_at m es in
    let b = value_at m bs in
    let f = m c.args.factor in
    let j = c.loop-j.j in
    let e = c.index-above-j.result in
    let mid = c.keep_before.new.merged.items in
    let v = c.in_ok-i.ensures.merged in
    record {
      place = c.in_ok-i.ensures.place;
      no_zero = subst (HasNoZero m) (sym v.appended) (no_zero_pushed m mid e.col v.value
          (c.in_ok-place.ensures.no_zero c.loop-j.invariant.no_zero));
      merging = λ n r s.
          let d = c.loop-j.invariant.merging n r s in
          let da = drop c.in_ok-place.place es in
          let k = merging_before m L a b f c.args.col n c.requires.factor (m c.args.product) c.requires.product bs j e c.loop-j-test.true
          c.index-above-j.is da mid c.in_ok-place.ensures.kept d.1 in
          let more = merging_entry m L a b f c.args.col n c.requires.factor k.0 e da (drop (j + 1) bs) mid k.1 c.in_ok-place.ensures.rest
          (m c.args.product) v.value c.requires.product v.value_is v.fits in (
            e.col + 1,
            subst (Merging m L a b f c.args.col n (e.col + 1) (drop c.in_ok-i.i es) (drop (j + 1) bs)) (sym v.appended)
                (subst (λ xs. Merging m L a b f c.args.col n (e.col + 1) xs (drop (j + 1) bs) (pushed m mid e.col v.value)) (sym v.left)
                more),
          );
    }

pub returns-clause-merged : goal.returns-clause-merged
returns-clause-merged g c = λ n q s.
    let m = g.F.OrderedField.meaning in
    let es = c.args.entries.now in
    let bs = c.args.above.now in
    let none = drop_all c.in_ok-keep_before.field-0 es (c.in_ok-keep_before.ensures.all (omega arith)) in
    (merging_last m g.F.OrderedField.LIMIT (value_at m es) (value_at m bs) (m c.args.factor) c.args.col n c.requires.factor
    (m c.args.product) c.requires.product 4294967296 c.keep_before-2.new.merged.items c.in_ok-keep_before.ensures.kept
    (c.loop-j.invariant.merging n q s).1 none (drop_all c.loop-j.j bs c.loop-j-test.false)).0

pub returns-clause-fits : goal.returns-clause-fits
returns-clause-fits g c = λ n q s.
    let m = g.F.OrderedField.meaning in
    let es = c.args.entries.now in
    let bs = c.args.above.now in
    let none = drop_all c.in_ok-keep_before.field-0 es (c.in_ok-keep_before.ensures.all (omega arith)) in
    (merging_last m g.F.OrderedField.LIMIT (value_at m es) (value_at m bs) (m c.args.factor) c.args.col n c.requires.factor
    (m c.args.product) c.requires.product 4294967296 c.keep_before-2.new.merged.items c.in_ok-keep_before.ensures.kept
    (c.loop-j.invariant.merging n q s).1 none (drop_all c.loop-j.j bs c.loop-j-test.false)).1
