use Rattle.std.proofs.Common.{◌∙◌, ◌∷◌, ◌++◌, [], ap, sym, take}
use Rattle.std.proofs.lemmas.List.{take_more}
use Rattle.solve_transformer.specs.Splits.{pairs}
use Rattle.solve_transformer.proofs.split.Pairs.{pairs_push}
use Rattle.solve_transformer.proofs.split.split_coeffs.Goals as goal

pub loop-coeff-preserved : goal.loop-coeff-preserved
loop-coeff-preserved c =
    let i = c.loop-coeff.coeff-index in
    let x = c.coeff-item.result in
    pairs_push (take i c.args.coeffs.now) x c.negate.result c.loop-coeff.list c.push.new.self
    c.push-in-loop-coeff.new.self c.loop-coeff.invariant c.in_ok-push.ensures.pushed c.negate.ensures.value
    c.in_ok-push-2.ensures.pushed
    ∙ ap pairs (ap (λ y. take i c.args.coeffs.now ++ y ∷ []) c.coeff-item.is ∙ sym (take_more c.args.coeffs.now i x c.loop-coeff-test.true))
