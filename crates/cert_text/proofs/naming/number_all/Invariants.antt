use Rattle.std.proofs.Common.{◌≡◌, take}
use Rattle.std.specs.List.{flat_map}
use Rattle.cert_text.specs.Naming.{with_traces}
use Rattle.cert_text.proofs.naming.number_all.Given as goal

abbrev pub invariant-loop-element : goal.invariant-loop-element
invariant-loop-element g l = l.names ≡ with_traces l.fn.names (flat_map g.T.Naming.traces_of (take l.element-index l.list))
