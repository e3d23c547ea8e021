use Rattle.std.proofs.Common.{◌≡◌, ◌+◌, ◌<◌, ⊎_elim, [], length, map, get_or, ap, sym, ◌∙◌, subst, arith}
use Rattle.std.proofs.lemmas.Bool.{cases_lt}
use Rattle.std.proofs.lemmas.List.{get_or-map, length_push}
use Rattle.base_numbers.specs.Rational.{zero_ℚ}
use Rattle.lp_dictionary.specs.declared.problem.Row.{Row}
use Rattle.lp_dictionary.specs.Build.{slack_entries}
use Rattle.lp_dictionary.specs.Keeps.{Lists}
use Rattle.lp_sparse.specs.Rows.{row_at}
use Rattle.lp_sparse.proofs.rows.RowsAt.{row_pushed, row_before}
use Rattle.lp_sparse.proofs.build.slack_rows.Goals as goal

pub slack_row-requires : goal.slack_row-requires
slack_row-requires g c =
    let r = c.index-rows-i.result in
    let e = get_or-map (λ (x : Row _). x.coeffs) c.args.rows.now c.loop-i.i r [] c.loop-i-test.true
    ∙ ap (λ (x : Row _). x.coeffs) (sym c.index-rows-i.is) in
    subst (λ xs. length xs < 4294967295) e (c.requires c.loop-i.i)

pub loop-i-preserved : goal.loop-i-preserved
loop-i-preserved g c =
    let m = g.F.OrderedField.meaning in
    let aux = c.args.auxiliary in
    let rs = c.args.rows.now in
    let i = c.loop-i.i in
    let r = c.index-rows-i.result in
    let old = c.loop-i.slacks.items in
    let row = c.in_ok-slack_row.field-0 in
    let A = map (λ (x : Row _). x.coeffs) rs in
    let b = map (λ (x : Row _). m x.side) rs in
    let coeffs = get_or-map (λ (x : Row _). x.coeffs) rs i r [] c.loop-i-test.true
    ∙ ap (λ (x : Row _). x.coeffs) (sym c.index-rows-i.is) in
    let side = get_or-map (λ (x : Row _). m x.side) rs i r zero_ℚ c.loop-i-test.true
    ∙ ap (λ (x : Row _). m x.side) (sym c.index-rows-i.is) in
    let here = subst (λ u. Lists m (slack_entries aux u (get_or b i zero_ℚ)) row.entries.items) (sym coeffs)
    (subst (λ s. Lists m (slack_entries aux r.coeffs s) row.entries.items) (sym side) c.in_ok-slack_row.ensures) in
    record {
      count = ap length c.in_ok-push.ensures.items ∙ length_push old row ∙ ap (λ n. n + 1) c.loop-i.invariant.count;
      rows = λ k l. subst (λ rows. Lists m (slack_entries aux (get_or A k []) (get_or b k zero_ℚ)) (row_at rows k))
          (sym c.in_ok-push.ensures.items) (⊎_elim
          (λ a. subst (Lists m (slack_entries aux (get_or A k []) (get_or b k zero_ℚ)))
          (sym (row_before old row k (let n = c.loop-i.invariant.count in omega (arith, a, n)))) (c.loop-i.invariant.rows k a))
          (λ a. let q : c.loop-i.i ≡ k = omega (arith, a, l) in
          subst (Lists m (slack_entries aux (get_or A k []) (get_or b k zero_ℚ)))
          (sym (row_pushed old row k (sym q ∙ sym c.loop-i.invariant.count)))
          (subst (λ j. Lists m (slack_entries aux (get_or A j []) (get_or b j zero_ℚ)) row.entries.items) q here))
          (cases_lt k i));
    }
