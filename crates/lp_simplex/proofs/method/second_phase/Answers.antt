use Rattle.std.proofs.Common.{◌≡◌, false, arith}
use Rattle.lp_dictionary.specs.Exact.{exact}
use Rattle.lp_simplex.proofs.method.Ends.{rows_apart_end, cols_apart_end}
use Rattle.lp_simplex.proofs.method.Counted.{rows_counted, best_counted, ray_counted}
use Rattle.lp_simplex.proofs.method.second_phase.Goals as goal

pub best-requires-clause-rows_apart : goal.best-requires-clause-rows_apart
best-requires-clause-rows_apart g c =
    let m = g.F.OrderedField.meaning in
    let P = exact m c.args.problem.now in
    let rows = rows_counted m c.args.problem.now c.len-rows.result c.len-rows.ensures in
    rows_apart_end g.F.OrderedField.LIMIT P false c.args.made (g.T.Tableau.table c.args.tableau.now)
    (g.T.Tableau.table c.run_phase.new.tableau) c.in_ok-ended.ended.end c.in_ok-ended.ended.pivots c.requires.begins
    c.in_ok-ended.ensures.ends c.len-rows.result rows

pub best-requires-clause-cols_apart : goal.best-requires-clause-cols_apart
best-requires-clause-cols_apart g c =
    let m = g.F.OrderedField.meaning in
    let P = exact m c.args.problem.now in
    let w = c.in_ok-ended.ensures.ends.width in
    let cols : c.len-cols.result ≡ (g.T.Tableau.table c.run_phase.new.tableau).width =
    let f = c.len-cols.ensures in omega (arith, f, w) in
    cols_apart_end g.F.OrderedField.LIMIT P false c.args.made (g.T.Tableau.table c.args.tableau.now)
    (g.T.Tableau.table c.run_phase.new.tableau) c.in_ok-ended.ended.end c.in_ok-ended.ended.pivots c.requires.begins
    c.in_ok-ended.ensures.ends c.len-cols.result cols

pub unbounded-requires-clause-rows_apart : goal.unbounded-requires-clause-rows_apart
unbounded-requires-clause-rows_apart g c =
    let m = g.F.OrderedField.meaning in
    let P = exact m c.args.problem.now in
    let rows = rows_counted m c.args.problem.now c.len-rows.result c.len-rows.ensures in
    rows_apart_end g.F.OrderedField.LIMIT P false c.args.made (g.T.Tableau.table c.args.tableau.now)
    (g.T.Tableau.table c.run_phase.new.tableau) c.in_ok-ended.ended.end c.in_ok-ended.ended.pivots c.requires.begins
    c.in_ok-ended.ensures.ends c.len-rows.result rows

pub returns-in_ok-best-in-AtBest-clause-outcome : goal.returns-in_ok-best-in-AtBest-clause-outcome
returns-in_ok-best-in-AtBest-clause-outcome g c =
    best_counted g.F.OrderedField.meaning g.F.OrderedField.LIMIT c.args.problem.now c.args.made (g.T.Tableau.table c.args.tableau.now)
    (g.T.Tableau.table c.run_phase.new.tableau) c.in_ok-ended.ended.end c.in_ok-ended.ended.pivots c.requires.begins
    c.in_ok-ended.ensures.ends c.len-rows.result c.len-cols.result c.len-rows.ensures c.len-cols.ensures
    c.in_ok-best-in-AtBest.field-0 c.in-AtBest.is c.in_ok-best-in-AtBest.ensures

pub returns-in_ok-unbounded-in-AtRay-clause-outcome : goal.returns-in_ok-unbounded-in-AtRay-clause-outcome
returns-in_ok-unbounded-in-AtRay-clause-outcome g c =
    ray_counted g.F.OrderedField.meaning g.F.OrderedField.LIMIT c.args.problem.now c.args.made (g.T.Tableau.table c.args.tableau.now)
    (g.T.Tableau.table c.run_phase.new.tableau) c.in_ok-ended.ended.end c.in_ok-ended.ended.pivots c.requires.begins
    c.in_ok-ended.ensures.ends c.len-rows.result c.len-cols.result c.len-rows.ensures c.len-cols.ensures
    c.in_ok-unbounded-in-AtRay.field-0 c.in-AtRay.col c.in-AtRay.is c.in_ok-unbounded-in-AtRay.ensures
