use Rattle.std.proofs.Common.{◌∙◌, ◌+◌, List, ◌∷◌, map, take, drop, sym, ap, subst}
use Rattle.flow_rationals.specs.WrittenSums.{Amount, amount, stay_within}
use Rattle.flow_rationals.specs.Totals.{AreTotals}
use Rattle.flow_rationals.proofs.written_sums.Fractions.{no_zero_at}
use Rattle.flow_rationals.proofs.written_sums.Adding.{stays_out, stays_more, amounts_more}
use Rattle.flow_rationals.proofs.reading.scaled.more_totals.Goals as goal

pub added-requires-clause-sound : goal.added-requires-clause-sound
added-requires-clause-sound c = no_zero_at c.args.more.now c.loop-part.part-index c.part-item.result c.loop-part-test.true c.part-item.is
    c.requires.sound

pub returns-in-None : goal.returns-in-None
returns-in-None c =
    let f = amount c.args.equations.now c.args.common in
    let before = map f (c.args.first.now ∷ take c.loop-part.part-index c.args.more.now) in
    stays_out f before _ c.args.more.now c.loop-part.part-index c.part-item.result c.loop-part-test.true c.part-item.is
    c.loop-part.invariant.so_far
    (c.in-None.ensures before c.loop-part.invariant.kept)

pub loop-part-preserved : goal.loop-part-preserved
loop-part-preserved c =
    let f = amount c.args.equations.now c.args.common in
    let before = map f (c.args.first.now ∷ take c.loop-part.part-index c.args.more.now) in
    let next = c.in-Some.ensures before c.loop-part.invariant.kept in
    let more = amounts_more f c.args.first.now c.args.more.now c.loop-part.part-index c.part-item.result c.loop-part-test.true
    c.part-item.is in
    record {
      kept = subst (λ (x : List Amount). AreTotals c.in-Some.new x) (sym more) next.1;
      so_far = stays_more f before _ c.args.more.now c.loop-part.part-index c.part-item.result c.loop-part-test.true c.part-item.is
          c.loop-part.invariant.so_far next.0
          ∙ ap (λ (x : List Amount). stay_within x (map f (drop (c.loop-part.part-index + 1) c.args.more.now))) (sym more);
    }
