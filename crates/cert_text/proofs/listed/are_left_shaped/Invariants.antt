use Rattle.std.proofs.Common.{◌≡◌}
use Rattle.serde_json.specs.Events.{items_len}
use Rattle.base_values.specs.Elements.{left_of}
use Rattle.cert_text.specs.Lists.{all_items}
use Rattle.cert_text.proofs.listed.are_left_shaped.Given as goal

abbrev pub invariant-elements : goal.invariant-elements
invariant-elements g l =
    let test = g.T.Entry.shaped l.setting in
    all_items test (left_of l.initial.elements) ≡ all_items test (left_of l.elements)

abbrev pub decreases-elements : goal.decreases-elements
decreases-elements g l = items_len (left_of l.elements)
