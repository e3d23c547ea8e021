use Rattle.std.proofs.Common.{◌≡◌, ◌∷◌, [], map, take, drop}
use Rattle.flow_rationals.specs.WrittenSums.{amount, stay_within}
use Rattle.flow_rationals.specs.Totals.{AreTotals}
use Rattle.flow_rationals.proofs.reading.scaled.more_totals.Given as goal

abbrev pub invariant-loop-part : goal.invariant-loop-part
invariant-loop-part l = record {
  kept : AreTotals l.totals (map (amount l.equations l.common) (l.first ∷ take l.part-index l.more));
  so_far : stay_within (amount l.equations l.common l.first ∷ []) (map (amount l.equations l.common) l.more)
      ≡ stay_within (map (amount l.equations l.common) (l.first ∷ take l.part-index l.more))
      (map (amount l.equations l.common) (drop l.part-index l.more));
}
