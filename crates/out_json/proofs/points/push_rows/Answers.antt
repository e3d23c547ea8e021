use Rattle.std.proofs.Common.{◌∙◌, ◌++◌, suc, drop, nat_lt, sym, ap, add-one, arith}
use Rattle.serde_json.specs.Data.{string}
use Rattle.serde_json.specs.Written.{items_text}
use Rattle.flow_systems.specs.Report.{bound_text}
use Rattle.out_report.specs.Points.{bounds_from}
use Rattle.base_json.proofs.Pushed.{item_pushed}
use Rattle.out_json.specs.Reports.{row_bounds}
use Rattle.out_json.proofs.reports.Next.{drop_next, later_next}
use Rattle.out_json.proofs.points.push_rows.Goals as goal

pub loop-index-preserved : goal.loop-index-preserved
loop-index-preserved c =
    let l = c.loop-index in
    let next = drop_next c.args.rows.now l.index (omega arith) in
    let bounds = bounds_from c.args.bounds.now c.args.first in
    let rest = row_bounds (suc l.index) (drop (suc l.index) c.args.rows.now) bounds in
    let new = c.push_row_bound.new.out.items in
    rw (add-one l.index)
    (ap (λ later. new ++ items_text later rest) (later_next l.index)
    ∙ item_pushed l.out.items c.push_begin.new.out.items new (nat_lt 0 l.index) (string (bound_text (bounds l.index))) rest
    c.in_ok-push_begin.ensures c.in_ok-push_row_bound.ensures
    ∙ ap (λ rs. l.out.items ++ items_text (nat_lt 0 l.index) (row_bounds l.index rs bounds)) (sym next.1) ∙ l.invariant)
