use Rattle.std.proofs.Common.{map, take}
use Rattle.flow_templates.specs.Kept.{kept_amount, AddUp}
use Rattle.flow_templates.proofs.sums.Steps.{WithinUpTo}
use Rattle.flow_templates.proofs.sums.sums.Given as goal

abbrev pub invariant-loop-term : goal.invariant-loop-term
invariant-loop-term l = record {
  within : WithinUpTo (map kept_amount l.terms) l.term-index;
  add_up : AddUp l.sums (take l.term-index (map kept_amount l.terms));
}
