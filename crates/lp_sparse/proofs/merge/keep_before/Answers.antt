use Rattle.std.proofs.Common.{◌+◌, drop, eqb, get_or, ap, sym, ◌∙◌, subst, arith}
use Rattle.std.proofs.lemmas.List.{drop_more, get_or_default}
use Rattle.lp_dictionary.specs.declared.entry.Entry.{Entry}
use Rattle.lp_dictionary.specs.Entries.{HasNoZero}
use Rattle.lp_sparse.specs.Merge.{kept, Merging}
use Rattle.lp_dictionary.proofs.kept.Lists.{no_zero_pushed}
use Rattle.lp_sparse.proofs.merge.Merging.{merging_kept}
use Rattle.lp_sparse.proofs.merge.keep_before.Goals as goal

pub loop-place-init : goal.loop-place-init
loop-place-init g c = record { place = omega arith; kept = λ a b f n r db f_is p_is s h. (r, h); no_zero = λ h. h }

pub loop-place-preserved : goal.loop-place-preserved
loop-place-preserved g c =
    let m = g.F.OrderedField.meaning in
    let L = g.F.OrderedField.LIMIT in
    let es = c.args.entries.now in
    let i = c.loop-place.place in
    let l = c.loop-place-test.true in
    let e = get_or es i c.index-entries-place.result in
    let same = get_or_default es i c.index-entries-place-in-loop-place.result c.index-entries-place.result l in
    let old = c.loop-place.merged.items in
    let v = c.kept_of-kept.result in
    let v_is = c.kept_of-kept.ensures ∙ ap (λ (x : Entry _). kept (m x.value) (m c.args.product) (eqb e.col c.args.col)) same in
    let new_is = c.in_ok-push_answer.ensures.pushed in
    record {
      place = omega arith;
      kept = λ a b f n r db f_is p_is s h.
          let d = c.loop-place.invariant.kept a b f n r db f_is p_is s h in
          let k = subst (λ xs. Merging m L a b f c.args.col n d.0 xs db old) (drop_more es i c.index-entries-place.result l) d.1 in (
            e.col + 1,
            subst (Merging m L a b f c.args.col n (e.col + 1) (drop (i + 1) es) db) (sym new_is)
                (merging_kept m L a b f c.args.col n f_is d.0 c.args.until e (drop (i + 1) es) db old k c.if-at-until.false s
                (m c.args.product) v p_is v_is),
          );
      no_zero = λ h. subst (HasNoZero m) (sym new_is) (no_zero_pushed m old e.col v (c.loop-place.invariant.no_zero h));
    }
