use Rattle.std.proofs.Common.{◌≡◌, ◌≤◌, ◌+◌}
use Rattle.serde_json.specs.View.{items_view}
use Rattle.cert_text.specs.declared.limits.TheConstants.{MOST_VALUES}
use Rattle.cert_text.specs.Traces.{listing}
use Rattle.cert_text.proofs.entry.ReadLists.{left_to_read}
use Rattle.cert_text.proofs.naming.Counts.{count_in, counted}
use Rattle.cert_text.proofs.naming.values_in.Given as goal

abbrev pub invariant-loop-value : goal.invariant-loop-value
invariant-loop-value g l =
    let read = g.T.Entry.element_in (listing l.rows l.traces) in
    record {
      few : l.total ≤ MOST_VALUES + 1;
      count : count_in read g.T.Naming.traces_of (items_view l.values) ≡ counted read g.T.Naming.traces_of l.total
          (left_to_read read l.values l.value-index);
    }
