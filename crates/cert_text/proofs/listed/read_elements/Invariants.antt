use Rattle.std.proofs.Common.{◌≡◌}
use Rattle.serde_json.specs.Events.{items_len}
use Rattle.base_values.specs.Elements.{left_of}
use Rattle.cert_text.specs.Lists.{all_items, items_in}
use Rattle.cert_text.proofs.entry.ReadLists.{after}
use Rattle.cert_text.proofs.listed.read_elements.Given as goal

abbrev pub invariant-elements : goal.invariant-elements
invariant-elements g l =
    let test = g.T.Entry.shaped l.setting in
    let read = g.T.Entry.element_in l.setting in
    record {
      shaped : all_items test (left_of l.initial.elements) ≡ all_items test (left_of l.elements);
      read : items_in read (left_of l.initial.elements) ≡ after read l.list.items (items_in read (left_of l.elements));
    }

abbrev pub decreases-elements : goal.decreases-elements
decreases-elements g l = items_len (left_of l.elements)
