use Rattle.std.proofs.Common.{◌≡◌, ◌+◌, ◌++◌, ◌∷◌, [], ◌∙◌, List, ap₂, arith, sym}
use Rattle.std.proofs.lemmas.List.FromFn.{map-range_with_len_more}
use Rattle.base_numbers.specs.Rational.{ℚ}
use Rattle.cert_written.specs.Pairs.{value_at}
use Rattle.cert_fitted.proofs.lists.filled.Goals as goal

pub loop-place-preserved : goal.loop-place-preserved
loop-place-preserved c =
    let n = c.loop-place.place in
    c.in_ok-push.ensures.items ∙ ap₂ (λ (xs : List ℚ) (y : ℚ). xs ++ y ∷ []) c.loop-place.invariant c.value_at.ensures
    ∙ sym (map-range_with_len_more (value_at c.args.pairs.now) 0 n n (let e : 0 + n ≡ n = omega arith in e))
