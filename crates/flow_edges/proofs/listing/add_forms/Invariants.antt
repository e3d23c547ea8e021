use Rattle.std.proofs.Common.{◌≡◌, ◌++◌, take}
use Rattle.flow_edges.proofs.listing.add_forms.Given as goal

abbrev pub invariant-loop-form : goal.invariant-loop-form
invariant-loop-form l = l.list.items ≡ l.initial.list.items ++ take l.form-index l.forms
