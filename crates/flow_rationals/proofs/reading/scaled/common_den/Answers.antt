use Rattle.std.proofs.Common.{ℕ, ◌<◌, ◌∙◌, ap, subst}
use Rattle.base_numbers.specs.Rational.{ℚ}
use Rattle.flow_rationals.specs.WrittenSums.{lcm, part_value}
use Rattle.flow_rationals.proofs.written_sums.Fractions.{no_zero_at, multiple_out}
use Rattle.flow_rationals.proofs.reading.scaled.common_den.Goals as goal

pub part_value-requires-in-loop-part : goal.part_value-requires-in-loop-part
part_value-requires-in-loop-part c = no_zero_at c.args.more.now c.loop-part.part-index c.part-item.result c.loop-part-test.true
    c.part-item.is c.requires.1

pub returns-in-None : goal.returns-in-None
returns-in-None c =
    let P : ℕ → Type 0 = λ n. 9223372036854775807 < lcm n c.den.result in
    multiple_out (part_value c.args.first.now).den 9223372036854775807 c.args.more.now c.loop-part.part-index c.part-item.result
    c.den.result
    c.loop-part-test.true c.part-item.is (c.den.ensures.den ∙ ap (λ (q : ℚ). q.den) c.part_value-in-loop-part.ensures)
    (subst P c.loop-part.invariant.so_far c.in-None.ensures)
