use Rattle.std.proofs.Common.{◌≡◌, ◌∙◌, ap, ap₂, get_or, map, sym, arith}
use Rattle.std.specs.List.{range_with_len}
use Rattle.base_numbers.specs.Rational.{zero_ℚ}
use Rattle.theory_validity.specs.Words.{column}
use Rattle.solve_composition.specs.declared.affine.Affine.{Affine}
use Rattle.solve_composition.proofs.Ranges.{range_push}
use Rattle.solve_composition.proofs.composed.Dense.{entries-first, column-constant}
use Rattle.solve_composition.proofs.form.compose_column.Goals as goal

pub loop-at-preserved : goal.loop-at-preserved
loop-at-preserved c =
    range_push (λ k. get_or (column c.args.place).coeffs k zero_ℚ) c.loop-at.at c.loop-at.list.items c.unit_entry.result
    c.push.new.self.items c.in_ok-push.ensures.items c.loop-at.invariant c.unit_entry.ensures

pub returns : goal.returns
returns c =
    ap₂ (λ xs x. let f : Affine = record { coeffs = xs; constant = x } in f)
    (c.new.ensures ∙ c.loop-at.invariant ∙ ap (λ n. map (λ k. get_or (column c.args.place).coeffs k zero_ℚ) (range_with_len 0 n))
    (let e : c.loop-at.at ≡ c.args.width = omega arith in e) ∙ entries-first c.args.width (column c.args.place).coeffs)
    (c.zero.ensures.value ∙ sym (column-constant c.args.place))
