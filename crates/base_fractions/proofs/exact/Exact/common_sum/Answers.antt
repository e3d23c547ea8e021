use Rattle.std.proofs.Common.{FitsSigned, w64, to_z, of_z, ap₂, rules}
use mir.Syntax.{w128}
use Rattle.base_numbers.specs.Rational.{ratio, ◌+ℚ◌}
use Rattle.base_fractions.proofs.exact.Kept.{small_num, small_den, read_lowest, read_value, lowest_read, result_read, answered}
use Rattle.base_fractions.proofs.exact.Exact.common_sum.Goals as goal

pub sum_parts-n-requires : goal.sum_parts-n-requires
sum_parts-n-requires g c =
    let f : FitsSigned w64 c.self.inside.num = search rules in
    let h : FitsSigned w64 c.right.inside.num = search rules in
    record {
      a_num = small_num c.self.invariant c.self.view_is f g.L.Limit.limit_high;
      a_den = small_den c.self.invariant c.self.view_is g.L.Limit.limit_high;
      b_num = small_num c.right.invariant c.right.view_is h g.L.Limit.limit_high;
      b_den = small_den c.right.invariant c.right.view_is g.L.Limit.limit_high;
      a_lowest = read_lowest c.self.invariant c.self.view_is f;
      b_lowest = read_lowest c.right.invariant c.right.view_is h;
    }

pub answer-requires : goal.answer-requires
answer-requires g c =
    let k : FitsSigned w128 c.sum_parts-n.result.0 = search rules in
    lowest_read c.sum_parts-n.result.0 c.sum_parts-n.result.1 k c.sum_parts-n.ensures.lowest

pub returns : goal.returns
returns g c =
    let f : FitsSigned w64 c.self.inside.num = search rules in
    let h : FitsSigned w64 c.right.inside.num = search rules in
    let k : FitsSigned w128 c.sum_parts-n.result.0 = search rules in
    answered g.L.Limit.LIMIT _ c.answer.result
    (result_read c.sum_parts-n.result.0 c.sum_parts-n.result.1
    (ratio (to_z w64 (of_z w64 c.self.inside.num)) c.self.inside.den +ℚ ratio (to_z w64 (of_z w64 c.right.inside.num)) c.right.inside.den)
    (c.args.self +ℚ c.args.right)
    k c.sum_parts-n.ensures.sum (ap₂ (λ x y. x +ℚ y) (read_value c.self.invariant c.self.view_is f)
    (read_value c.right.invariant c.right.view_is h)))
    c.answer.ensures
