use Rattle.std.proofs.Common.{◌∙◌, ◌==◌, ◌++◌, ℤ, List, length, get_or, map, append-nil, ap, ap₂, sym, arith}
use Rattle.std.proofs.lemmas.Bool.{eqb-true}
use Rattle.flow_systems.proofs.trace_tests.Traced.{all_at}
use Rattle.theory_transformers.specs.EdgeProblems.{source_limits}
use Rattle.solve_transformer.specs.Splits.{bounds_at, split_limit, limit_of, source_row}
use Rattle.solve_transformer.proofs.build.Sources.{bound_read, limits_more, limits_none, limits_all}
use Rattle.solve_transformer.proofs.build.source_rows.Goals as goal

pub loop-r-init : goal.loop-r-init
loop-r-init c = λ n h. ap (λ ls. map limit_of c.args.rows.now.items ++ map (split_limit c.args.width) ls)
    (limits_none n (bounds_at c.args.source.now) c.args.template.now)

pub loop-r-preserved : goal.loop-r-preserved
loop-r-preserved c = λ n h.
    let r = c.loop-r.r in
    let row = c.index-template-r.result in
    let l = c.loop-r-test.true in
    let long = eqb-true (length (get_or c.args.template.now r row)) n (all_at (λ (x : List ℤ). length x == n) c.args.template.now r row h
    l) in
    let read = bound_read c.args.source.now r c.index-source-r.result (omega (arith, l, c.requires)) c.index-source-r.is in
    limits_more c.args.width n (bounds_at c.args.source.now) c.args.template.now r row (map limit_of c.loop-r.rows.items)
    (map limit_of c.add_source_row.new.rows.items)
    (map limit_of c.args.rows.now.items ++ map (split_limit c.args.width)
    (source_limits (λ k u. u) n (bounds_at c.args.source.now) c.args.template.now)) l c.index-template-r.is
    (ap (λ (x : List ℤ). length x) c.index-template-r.is ∙ long)
    (c.in_ok-add_source_row.ensures ∙ ap₂ (λ (x : List ℤ) b. map limit_of c.loop-r.rows.items ++ source_row c.args.width x b)
    c.as_slice.ensures.list (sym read))
    (c.loop-r.invariant n h)

pub returns : goal.returns
returns c = λ n h.
    sym (ap (λ ls. map limit_of c.loop-r.rows.items ++ map (split_limit c.args.width) ls)
    (limits_all n (bounds_at c.args.source.now) c.args.template.now c.loop-r.r c.loop-r-test.false)
    ∙ append-nil (map limit_of c.loop-r.rows.items))
    ∙ c.loop-r.invariant n h
