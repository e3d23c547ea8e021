use Rattle.std.proofs.Common.{◌≡◌, ◌∙◌, ap, map, get_or, arith}
use Rattle.std.specs.List.{range_with_len}
use Rattle.base_numbers.specs.Rational.{whole, zero_ℚ}
use Rattle.solve_transformer.specs.Splits.{pairs}
use Rattle.solve_composition.proofs.composed.Dense.{entries-first}
use Rattle.solve_transformer.proofs.split.Pairs.{pairs_range}
use Rattle.solve_transformer.proofs.split.split_row.Goals as goal

pub loop-column-preserved : goal.loop-column-preserved
loop-column-preserved c =
    pairs_range (λ k. get_or (map whole c.args.row.now) k zero_ℚ) c.loop-column.column c.row_entry-coeff.result c.negate.result
    c.loop-column.list c.push.new.self c.push-in-loop-column.new.self c.loop-column.invariant
    c.row_entry-coeff.ensures
    c.in_ok-push.ensures.pushed c.negate.ensures.value c.in_ok-push-2.ensures.pushed

pub returns : goal.returns
returns c =
    c.loop-column.invariant ∙ ap (λ n. pairs (map (λ k. get_or (map whole c.args.row.now) k zero_ℚ) (range_with_len 0 n)))
    (let e : c.loop-column.column ≡ c.args.width = omega arith in e)
    ∙ ap pairs (entries-first c.args.width (map whole c.args.row.now))
