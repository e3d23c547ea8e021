use Rattle.std.proofs.Common.{◌≡◌, ◌+◌, drop}
use Rattle.acsl_anchors.specs.Anchors.{number_among}
use Rattle.acsl_anchors.proofs.search.number_among.Given as goal

abbrev pub invariant-loop-variable : goal.invariant-loop-variable
invariant-loop-variable l =
    (number_among l.name l.variables ≡ l.number + number_among l.name (drop l.variable-index l.variables)) × (l.number ≡ l.variable-index)
