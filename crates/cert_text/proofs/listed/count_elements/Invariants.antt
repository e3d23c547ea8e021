use Rattle.serde_json.specs.Events.{items_len}
use Rattle.base_values.specs.Elements.{left_of}
use Rattle.cert_text.proofs.listed.ElementsLeft.{IsCounted}
use Rattle.cert_text.proofs.listed.count_elements.Given as goal

abbrev pub invariant-elements : goal.invariant-elements
invariant-elements g l =
    IsCounted (g.T.Entry.shaped l.setting) (g.T.Entry.element_in l.setting) g.T.Naming.traces_of (left_of l.initial.elements)
    (left_of l.elements) l.total

abbrev pub decreases-elements : goal.decreases-elements
decreases-elements g l = items_len (left_of l.elements)
