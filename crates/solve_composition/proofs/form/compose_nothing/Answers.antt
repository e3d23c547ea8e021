use Rattle.std.proofs.Common.{◌≡◌, ◌∙◌, [], ap, ap₂, get_or, map, arith}
use Rattle.std.specs.List.{range_with_len}
use Rattle.base_numbers.specs.Rational.{zero_ℚ}
use Rattle.solve_composition.specs.declared.affine.Affine.{Affine}
use Rattle.solve_composition.proofs.Ranges.{range_push}
use Rattle.solve_composition.proofs.composed.Dense.{entries-first}
use Rattle.solve_composition.proofs.form.compose_nothing.Goals as goal

pub loop-at-preserved : goal.loop-at-preserved
loop-at-preserved c =
    range_push (λ k. get_or [] k zero_ℚ) c.loop-at._at c.loop-at.list.items c.zero.result c.push.new.self.items
    c.in_ok-push.ensures.items c.loop-at.invariant c.zero.ensures.value

pub returns : goal.returns
returns c =
    ap₂ (λ xs x. let f : Affine = record { coeffs = xs; constant = x } in f)
    (c.new.ensures ∙ c.loop-at.invariant ∙ ap (λ n. map (λ k. get_or [] k zero_ℚ) (range_with_len 0 n))
    (let e : c.loop-at._at ≡ c.args.width = omega arith in e) ∙ entries-first c.args.width []) c.zero-2.ensures.value
