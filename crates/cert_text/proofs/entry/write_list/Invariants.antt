use Rattle.std.proofs.Common.{◌≡◌, map, take, Some, true}
use Rattle.serde_json.specs.View.{items_view}
use Rattle.cert_text.specs.Lists.{all_items, items_data, items_in}
use Rattle.cert_text.specs.Traces.{relisting}
use Rattle.cert_text.proofs.entry.write_list.Given as goal

abbrev pub invariant-loop-element : goal.invariant-loop-element
invariant-loop-element g l =
    record {
      data_is : items_view l.values.items ≡ items_data (g.T.Entry.element_data l.rows l.names) (take l.element-index l.list);
      shape : all_items (g.T.Entry.shaped (relisting l.rows l.names)) (items_data (g.T.Entry.element_data l.rows l.names)
          (take l.element-index l.list)) ≡ true;
      back : items_in (g.T.Entry.element_in (relisting l.rows l.names)) (items_data (g.T.Entry.element_data l.rows l.names)
          (take l.element-index l.list)) ≡ Some (map g.T.Entry.bare (take l.element-index l.list));
    }
