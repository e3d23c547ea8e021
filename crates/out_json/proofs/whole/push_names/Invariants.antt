use Rattle.std.proofs.Common.{◌≡◌, ◌++◌, drop, false, nat_lt}
use Rattle.serde_json.specs.Written.{items_text}
use Rattle.out_json.specs.Pieces.{texts}
use Rattle.out_json.proofs.whole.push_names.Given as goal

abbrev pub invariant-loop-index : goal.invariant-loop-index
invariant-loop-index l =
    l.out.items ++ items_text (nat_lt 0 l.index) (texts (drop l.index l.names)) ≡ l.initial.out.items ++ items_text false (texts l.names)
