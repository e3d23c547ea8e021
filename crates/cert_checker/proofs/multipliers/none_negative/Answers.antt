use Rattle.std.proofs.Common.{◌≡◌, ◌∙◌, true≢false, get_or, refl, sym, subst₂, arith}
use Rattle.std.proofs.lemmas.List.{get_or_read}
use Rattle.base_numbers.specs.Rational.{zero_ℚ, ◌≤ℚ◌, ◌<ℚ◌}
use Rattle.base_numbers.proofs.rational.Laws.{not_le_of_lt, le_of_not_lt_ℚ}
use Rattle.cert_checker.proofs.first_pass.Comparisons.{test_less}
use Rattle.cert_checker.proofs.multipliers.Signs.{nonneg_at, nonneg_all, up_to_more}
use Rattle.cert_checker.proofs.multipliers.none_negative.Goals as goal

pub returns-then-lt : goal.returns-then-lt
returns-then-lt c =
    let ms = c.args.multipliers.now in
    let i = c.loop-multiplier.multiplier-index in
    let x = c.multiplier-item.result in
    let e : x ≡ get_or ms i zero_ℚ = get_or_read ms i x c.loop-multiplier-test.true c.multiplier-item.is zero_ℚ in
    let t = test_less x c.zero.result c.lt.result c.lt.ensures in
    let l : get_or ms i zero_ℚ <ℚ zero_ℚ = subst₂ (λ a b. a <ℚ b) e c.zero.ensures.value (t.0 c.if-lt.true) in
    ((λ h. absurd (true≢false (sym h))), (λ h. absurd (not_le_of_lt l (nonneg_at ms i h c.loop-multiplier-test.true))))

pub loop-multiplier-preserved : goal.loop-multiplier-preserved
loop-multiplier-preserved c =
    let ms = c.args.multipliers.now in
    let i = c.loop-multiplier.multiplier-index in
    let x = c.multiplier-item.result in
    let e : x ≡ get_or ms i zero_ℚ = get_or_read ms i x c.loop-multiplier-test.true c.multiplier-item.is zero_ℚ in
    let t = test_less x c.zero.result c.lt.result c.lt.ensures in
    let l : zero_ℚ ≤ℚ get_or ms i zero_ℚ = subst₂ (λ a b. b ≤ℚ a) e c.zero.ensures.value
    (le_of_not_lt_ℚ (λ h. true≢false (sym (t.1 h) ∙ c.if-lt.false))) in
    up_to_more {P = λ k. zero_ℚ ≤ℚ get_or ms k zero_ℚ} i c.loop-multiplier.invariant l

pub returns : goal.returns
returns c = (
  (λ t. nonneg_all c.args.multipliers.now (λ i l. c.loop-multiplier.invariant i
      (let n = c.loop-multiplier-test.false in omega (arith, l, n)))),
  (λ h. refl),
)
