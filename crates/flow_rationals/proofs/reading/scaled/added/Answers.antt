use Rattle.std.proofs.Common.{◌∙◌, w64, arith, rules, ap}
use Rattle.std.proofs.lemmas.Int.{to_z-of_z}
use Rattle.lang_tree.specs.Numbers.{is_number}
use Rattle.flow_rationals.specs.WrittenSums.{amount}
use Rattle.flow_rationals.proofs.written_sums.Adding.{number_fits, added_some}
use Rattle.flow_rationals.proofs.reading.scaled.added.Goals as goal

pub returns-in-Some-sum : goal.returns-in-Some-sum
returns-in-Some-sum c = λ before kept.
    added_some c.args.totals before (amount c.args.equations.now c.args.common c.args.part.now) c.key-place.result _ _ c.in-Some-sum.total _
    kept c.key-place.ensures.key (omega (arith, c.key-place.ensures.within, c.requires.few)) (search rules)
    (to_z-of_z w64 c.in-Some.value (number_fits c.in-Some.value (ap is_number c.in-Some.ensures.0 ∙ c.in-Some.ensures.1))
    ∙ c.in-Some.ensures.0)
    c.in-Some.ensures.1 c.in-Some-sum.ensures.0 c.in-Some-sum.ensures.1
    (to_z-of_z w64 c.in-Some-sum.total (number_fits c.in-Some-sum.total (ap is_number c.in-Some-sum.ensures.0 ∙ c.in-Some-sum.ensures.1)))
