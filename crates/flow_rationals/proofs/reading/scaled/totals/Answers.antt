use Rattle.std.proofs.Common.{◌∷◌, [], List, ℤ, map}
use Rattle.flow_rationals.specs.WrittenSums.{amount}
use Rattle.flow_rationals.specs.Totals.{AreTotals}
use Rattle.flow_rationals.proofs.written_sums.Adding.{first_fits, first_out}
use Rattle.flow_rationals.proofs.reading.scaled.totals.Goals as goal

pub more_totals-requires-clause-start : goal.more_totals-requires-clause-start
more_totals-requires-clause-start c = (c.in-Some.ensures [] c.none.ensures).1

pub returns-in-Some : goal.returns-in-Some
returns-in-Some c =
    first_fits (λ (new : List ℤ). AreTotals new (map (amount c.args.equations.now c.args.common) (c.args.first.now ∷ c.args.more.now)))
    c.more_totals.result _ _
    (c.in-Some.ensures [] c.none.ensures).0 c.more_totals.ensures

pub returns-in-None : goal.returns-in-None
returns-in-None c = first_out _ _ (c.in-None.ensures [] c.none.ensures)
