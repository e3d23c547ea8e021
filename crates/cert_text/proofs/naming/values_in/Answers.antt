use Rattle.std.proofs.Common.{sym, ◌∙◌, arith}
use Rattle.serde_json.specs.View.{items_view}
use Rattle.cert_text.specs.Traces.{listing}
use Rattle.cert_text.proofs.naming.Counts.{count_in, counted_more}
use Rattle.cert_text.proofs.naming.values_in.Goals as goal

pub loop-value-preserved : goal.loop-value-preserved
loop-value-preserved g c =
    let read = g.T.Entry.element_in (listing c.args.rows c.args.traces.now) in
    record {
      few = omega arith;
      count = counted_more read g.T.Naming.traces_of c.args.values.now c.loop-value.value-index c.value-item.result c.in-Some.more
          c.loop-value.total c.min-total.result
          (count_in read g.T.Naming.traces_of (items_view c.args.values.now)) c.loop-value-test.true c.value-item.is
          (sym c.in-Some.is ∙ c.values.ensures.count) c.min-total.ensures c.loop-value.invariant.count;
    }
